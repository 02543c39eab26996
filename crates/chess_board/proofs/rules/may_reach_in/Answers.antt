use Rattle.std.proofs.Common.{sym, ◌∙◌}
use Rattle.chess_board.proofs.Bounded.{ways_bound}
use Rattle.chess_board.proofs.rules.may_reach_in.Goals as goal

pub may_reach_on-requires : goal.may_reach_on-requires
may_reach_on-requires c = sym (c.requires c.args.to.index c.args.to.on_board) ∙ (sym c.is_in.ensures ∙ c.if-is_in.true)

pub returns-else-is_in : goal.returns-else-is_in
returns-else-is_in c =
    c.if-is_in.false ∙ sym (ways_bound c.args.setup.now c.args.from.index c.args.ways c.requires c.args.to.index c.args.to.on_board (sym c.is_in.ensures ∙ c.if-is_in.false))
