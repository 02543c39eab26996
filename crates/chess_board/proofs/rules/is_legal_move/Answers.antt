use Rattle.std.proofs.Common.{sym, ◌∙◌}
use Rattle.chess_board.proofs.Places.{never_to}
use Rattle.chess_board.proofs.Tied.{frees_all}
use Rattle.chess_board.proofs.rules.is_legal_move.Goals as goal

pub returns-else-may_reach : goal.returns-else-may_reach
returns-else-may_reach c = c.if-may_reach.false ∙ sym (never_to c.args.setup.now c.args.m.from.index c.args.m.to.index c.args.m.promotion (sym c.may_reach.ensures ∙ c.if-may_reach.false))

pub is_legal_reach-requires-clause-tied : goal.is_legal_reach-requires-clause-tied
is_legal_reach-requires-clause-tied c = frees_all c.args.setup.now
