use Rattle.std.proofs.Common.{◌≡◌, ap, ◌∙◌, arith}
use Rattle.fen_text.specs.RookFiles.{last_below, is_only_king, king_file}
use Rattle.fen_text.proofs.rook_files.king_file.Goals as goal

pub returns : goal.returns
unfolding king_file
returns c =
    let all : c.loop-king.king ≡ 8 = omega arith in
    c.loop-king.invariant ∙ ap (λ n. last_below n (is_only_king c.args.pieces.now c.args.side)) all
