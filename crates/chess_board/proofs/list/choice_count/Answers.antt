use Rattle.std.proofs.Common.{sym, ◌∙◌}
use Rattle.chess_board.proofs.Places.{only_none}
use Rattle.chess_board.proofs.list.choice_count.Goals as goal

pub returns-else-is_promotion-clause-rest : goal.returns-else-is_promotion-clause-rest
returns-else-is_promotion-clause-rest c choice low high = only_none c.args.setup.now c.args.from.index c.args.to.index choice (sym c.is_promotion.ensures ∙ c.if-is_promotion.false) low
