use Rattle.std.proofs.Common.{◌≡◌}
use Rattle.fen_text.specs.RookFiles.{last_below, names_rook}
use Rattle.fen_text.proofs.rook_files.rook_beyond.Given as goal

-- the last so far
abbrev pub invariant-loop-rook : goal.invariant-loop-rook
invariant-loop-rook l = l.found ≡ last_below l.rook (names_rook l.pieces l.side l.wing l.letter l.king)
