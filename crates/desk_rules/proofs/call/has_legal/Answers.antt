use Rattle.std.proofs.Common.{not, ap, ◌∙◌}
use Rattle.desk_rules.proofs.Calls.{has_moves}
use Rattle.desk_rules.proofs.call.has_legal.Goals as goal

pub returns : goal.returns
returns c = ap not c.is_moveless.ensures ∙ has_moves c.args.game.now c.ended.result c.ended.ensures
