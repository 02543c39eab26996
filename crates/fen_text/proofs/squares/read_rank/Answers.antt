-- Each byte puts its squares after the others.
use Rattle.std.proofs.Common.{ap, sym, ◌∙◌, Some}
use Rattle.chess_board.specs.Board.{Pieces}
use Rattle.fen_text.specs.Squares.{pieces_if_both, squares_in}
use Rattle.fen_text.proofs.Joined.{joined-first, row_more, row_lost, row_done, full_row}
use Rattle.fen_text.proofs.squares.read_rank.Goals as goal

pub loop-byte-init : goal.loop-byte-init
loop-byte-init c = ap (λ (row : Pieces). pieces_if_both (Some row) (squares_in c.args.rank.now)) c.new-row.ensures ∙ joined-first (squares_in c.args.rank.now)

pub loop-byte-preserved : goal.loop-byte-preserved
loop-byte-preserved c =
    row_more c.args.rank.now c.loop-byte.byte-index c.loop-byte.row.items c.put_squares.new.row.items c.loop-byte-test.true c.in_ok-put_squares.ensures.some c.loop-byte.invariant

pub returns-in_err-put_squares : goal.returns-in_err-put_squares
returns-in_err-put_squares c =
    c.from_residual.ensures ∙ sym (row_lost c.args.rank.now c.loop-byte.byte-index c.loop-byte.row.items c.loop-byte-test.true c.in_err-put_squares.ensures.none c.loop-byte.invariant)

pub returns : goal.returns
returns c =
    c.ok.ensures.value
    ∙ full_row c.loop-byte.row.items c.into_inner.result c.into_inner.ensures.variant c.into_inner.ensures.ok
    ∙ row_done c.args.rank.now c.loop-byte.byte-index c.loop-byte.row.items c.loop-byte-test.false c.loop-byte.invariant
