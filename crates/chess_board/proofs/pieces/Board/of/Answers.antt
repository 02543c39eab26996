use Rattle.std.proofs.Common.{◌≡◌, ◌<◌, length, sym, arith, None, ◌∙◌}
use Rattle.std.proofs.lemmas.List.{same_lists}
use Rattle.chess_board.proofs.Sets.{get_or-other}
use Rattle.chess_board.proofs.pieces.Board.of.Goals as goal

pub returns-clause-value : goal.returns-clause-value
returns-clause-value c =
    let board = c.loop-index.board in
    let squares = c.args.squares.now in
    let size : length board ≡ 64 = c.loop-index.invariant.0 in
    let size' : length squares ≡ 64 = omega arith in
    same_lists board squares (size ∙ sym size') (λ k d low.
    let less : k < c.loop-index.index = omega arith in
    let there : k < length squares = omega arith in
    get_or-other board k d None low ∙ c.loop-index.invariant.1 k less ∙ get_or-other squares k None d there)
