use Rattle.std.proofs.Common.{[], sym, subst, arith}
use Rattle.policy_rules.specs.declared.setting_rules.settings.Settings.{Settings}
use Rattle.adapter_core.specs.Represents.{Represents}
use Rattle.random_games.specs.Sent.{CountsAreFew}
use Rattle.random_games.proofs.session.DrillSession.make.Goals as goal

pub invariant_of-result : goal.invariant_of-result
invariant_of-result c = record {
  trace = [];
  lawful = tt;
  stands = subst (λ (o : Settings). Represents o c.in_ok-make.field-0 []) c.usual.ensures.usual c.in_ok-make.ensures.stands;
  few = subst CountsAreFew (sym c.nothing.ensures) (record { to_iface = omega arith; to_engine = omega arith; shown = omega arith });
}
