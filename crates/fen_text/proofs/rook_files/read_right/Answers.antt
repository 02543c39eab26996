-- Two letters that name one right are too many.
use Rattle.std.proofs.Common.{sym, ◌∙◌}
use Rattle.fen_text.proofs.Letters.{right_lost}
use Rattle.fen_text.proofs.rook_files.read_right.Goals as goal

pub returns-in_err-right : goal.returns-in_err-right
returns-in_err-right c =
    c.from_residual.ensures ∙ sym (right_lost c.args.pieces.now c.args.side c.args.wing c.args.field.now c.loop-letter.letter-index c.loop-letter.right c.named_rook.result c.loop-letter-test.true c.named_rook.ensures (sym c.one_of.ensures ∙ c.in_err-right.was) c.loop-letter.invariant)
