-- One more square.
use Rattle.std.proofs.Common.{◌+◌, ◌++◌, ◌∷◌, drop, sym, ap, ◌∙◌, arith}
use Rattle.chess_board.specs.Board.{Occupant, Pieces}
use Rattle.fen_text.specs.Written.{rank_text, rank_row}
use Rattle.fen_text.proofs.Rows.{row_first}
use Rattle.fen_text.proofs.write.write_rank.Goals as goal

pub loop-file-preserved : goal.loop-file-preserved
loop-file-preserved c =
    let first = row_first c.args.p.now.pieces c.args.rank c.loop-file.file c.requires.pieces c.requires.rank (omega arith) in
    let rest : Pieces = drop (c.loop-file.file + 1) (rank_row c.args.p.now.pieces c.args.rank) in
    let occupant = ap (λ (m : Occupant). c.loop-file.text.items ++ rank_text c.loop-file.empty (m ∷ rest)) c.piece.ensures in
    record {
      text = c.write_square-empty.ensures.text rest ∙ occupant ∙ ap (λ (squares : Pieces). c.loop-file.text.items ++ rank_text c.loop-file.empty squares) (sym first) ∙ c.loop-file.invariant.text;
      short = omega arith;
      empty = omega arith;
    }
