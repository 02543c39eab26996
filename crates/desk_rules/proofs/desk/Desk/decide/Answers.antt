use Rattle.std.proofs.Common.{ap, sym, ◌∙◌}
use Rattle.desk_rules.specs.Desk.{at}
use Rattle.desk_rules.specs.Steps.{begins_epoch}
use Rattle.desk_rules.proofs.desk.Desk.decide.Goals as goal

pub returns-then-context-clause-epoch : goal.returns-then-context-clause-epoch
returns-then-context-clause-epoch c = c.decision.ensures.epoch c.args.context ∙ ap (begins_epoch (at c.args.context c.args.self.now)) (sym c.decision.ensures.effect)
