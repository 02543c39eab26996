use Rattle.std.proofs.Common.{◌≡◌, ap, ◌∙◌, arith}
use Rattle.fen_text.specs.RookFiles.{last_below, names_rook, rook_beyond}
use Rattle.fen_text.proofs.rook_files.rook_beyond.Goals as goal

pub returns : goal.returns
unfolding rook_beyond
returns c =
    let all : c.loop-rook.rook ≡ 8 = omega arith in
    c.loop-rook.invariant ∙ ap (λ n. last_below n (names_rook c.args.pieces.now c.args.side c.args.wing c.args.letter c.args.king)) all
