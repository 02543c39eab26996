use Rattle.std.proofs.Common.{◌≡◌}
use Rattle.fen_text.specs.RookFiles.{last_below, is_only_king}
use Rattle.fen_text.proofs.rook_files.king_file.Given as goal

-- the last so far
abbrev pub invariant-loop-king : goal.invariant-loop-king
invariant-loop-king l = l.found ≡ last_below l.king (is_only_king l.pieces l.side)
