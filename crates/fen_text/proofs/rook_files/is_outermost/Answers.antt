use Rattle.std.proofs.Common.{◌≡◌, false, refl, sym, ◌∙◌, arith}
use Rattle.chess_board.proofs.Below.{each_below-less, each_below-miss}
use Rattle.fen_text.specs.RookFiles.{is_outermost, is_no_rook_beyond}
use Rattle.fen_text.proofs.rook_files.is_outermost.Goals as goal

pub returns-then-has_rook : goal.returns-then-has_rook
unfolding is_outermost
returns-then-has_rook c =
    let beyond = sym c.is_beyond.ensures ∙ c.if-is_beyond.true in
    let rook = sym c.has_rook.ensures ∙ c.if-has_rook.true in
    let found : is_no_rook_beyond c.args.pieces.now c.args.side c.args.wing c.args.rook c.loop-file.file ≡ false = rw (beyond, rook) refl in
    sym (each_below-miss 8 c.loop-file.file (is_no_rook_beyond c.args.pieces.now c.args.side c.args.wing c.args.rook) (omega arith) found)

pub returns : goal.returns
unfolding is_outermost
returns c = sym (each_below-less 8 c.loop-file.file (is_no_rook_beyond c.args.pieces.now c.args.side c.args.wing c.args.rook) (omega arith) c.loop-file.invariant)
