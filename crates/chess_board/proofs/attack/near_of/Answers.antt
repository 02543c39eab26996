use Rattle.chess_board.proofs.Near.{near_attacks}
use Rattle.chess_board.proofs.attack.near_of.Goals as goal

pub returns : goal.returns
returns c others s low out same =
    near_attacks c.args.board.now others c.args.side c.args.at.index s c.ways_of-jumps.result c.ways_of-diagonals.result c.ways_of-straights.result c.ways_of-steps.result
    c.kind_set-knights.result c.kind_set-bishops.result c.kind_set-rooks.result c.kind_set-queens.result c.kind_set-kings.result c.kind_set-pawns.result c.side_set.result low
    c.ways_of-jumps.ensures c.ways_of-diagonals.ensures c.ways_of-straights.ensures c.ways_of-steps.ensures
    c.kind_set-knights.ensures c.kind_set-bishops.ensures c.kind_set-rooks.ensures c.kind_set-queens.ensures c.kind_set-kings.ensures c.kind_set-pawns.ensures c.side_set.ensures.set out same
