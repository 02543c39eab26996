use Rattle.std.proofs.Common.{sym, ◌∙◌, arith}
use Rattle.chess_board.proofs.Below.{each_below-less, each_below-miss}
use Rattle.fen_text.specs.RookFiles.{is_no_other_king}
use Rattle.fen_text.proofs.rook_files.is_king_alone.Goals as goal

pub returns-then-not-is_no_other_king : goal.returns-then-not-is_no_other_king
returns-then-not-is_no_other_king c = sym (each_below-miss 8 c.loop-file.file (is_no_other_king c.args.pieces.now c.args.side c.args.king) (omega arith) (sym c.is_no_other_king.ensures ∙ c.if-not-is_no_other_king.true))

pub returns : goal.returns
returns c = sym (each_below-less 8 c.loop-file.file (is_no_other_king c.args.pieces.now c.args.side c.args.king) (omega arith) c.loop-file.invariant)
