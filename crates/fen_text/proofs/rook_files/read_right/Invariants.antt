use Rattle.std.proofs.Common.{◌≡◌, Some, None, drop}
use Rattle.fen_text.specs.RookFiles.{right_in}
use Rattle.fen_text.proofs.rook_files.read_right.Given as goal

-- the rest of the letters completes the right
abbrev pub invariant-loop-letter : goal.invariant-loop-letter
invariant-loop-letter l = right_in l.pieces l.side l.wing (Some l.right) (drop l.letter-index l.field) ≡ right_in l.pieces l.side l.wing (Some None) l.field
