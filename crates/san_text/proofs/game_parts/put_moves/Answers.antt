use Rattle.std.proofs.Common.{◌≡◌, ◌+◌, ◌∷◌, [], ◌++◌, List, ℕ, drop, sym, ap, subst, ◌∙◌, arith, append_assoc}
use Rattle.std.proofs.lemmas.List.{drop_more}
use Rattle.chess_board.specs.declared.board.Move.{Move}
use Rattle.chess_board.specs.Position.{Position}
use Rattle.line_io.specs.Out.{Text}
use Rattle.game_record.specs.Game.{ply_of, plies_of, position_after_ply, AreLegal}
use Rattle.san_text.specs.GameSan.{san_of_ply}
use Rattle.san_text.specs.GameText.{move_number_by, move_parts, spaced_parts}
use Rattle.san_text.proofs.GameParts.{one_more}
use Rattle.san_text.proofs.game_parts.put_moves.Goals as goal

pub loop-m-preserved : goal.loop-m-preserved
loop-m-preserved c =
    let rest : List Move = drop (c.loop-m.m-index + 1) c.args.moves.now in
    let first : drop c.loop-m.m-index c.args.moves.now ≡ c.m-item.result ∷ rest =
    drop_more c.args.moves.now c.loop-m.m-index c.m-item.result (omega arith) ∙ ap (λ (m : Move). m ∷ rest) (sym c.m-item.is) in
    let legal = subst (λ (ms : List Move). AreLegal c.loop-m.at (plies_of ms)) first c.loop-m.invariant.legal in
    let next : c.play-at.result ≡ position_after_ply c.loop-m.at (ply_of c.m-item.result) = c.play-at.ensures in
    let piece = spaced_parts (move_number_by c.loop-m.at.side c.loop-m.at.full ++ san_of_ply c.loop-m.at (ply_of c.m-item.result) ∷ []) in
    let tail = spaced_parts (move_parts (position_after_ply c.loop-m.at (ply_of c.m-item.result)) (plies_of rest)) in
    record {
      text = ap (λ (p : Position). c.put_move.new.out.text ++ spaced_parts (move_parts p (plies_of rest))) next
          ∙ ap (λ (t : Text). t.text ++ tail) c.put_move.ensures.text
          ∙ append_assoc c.loop-m.out.text piece tail
          ∙ ap (λ (t : List ℕ). c.loop-m.out.text ++ t) (sym (one_more c.loop-m.at (ply_of c.m-item.result) (plies_of rest)))
          ∙ ap (λ (ms : List Move). c.loop-m.out.text ++ spaced_parts (move_parts c.loop-m.at (plies_of ms))) (sym first)
          ∙ c.loop-m.invariant.text;
      legal = subst (λ (p : Position). AreLegal p (plies_of rest)) (sym next) legal.1;
      few = omega arith;
      room = ap (λ (t : Text). t.room) c.put_move.ensures.text ∙ c.loop-m.invariant.room;
    }
