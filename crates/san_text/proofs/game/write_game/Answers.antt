use Rattle.std.proofs.Common.{◌≡◌, ◌++◌, ◌∷◌, [], List, ℕ, sym, ap, ◌∙◌}
use Rattle.chess_board.specs.declared.board.Side.{Side}
use Rattle.chess_board.specs.Position.{Position}
use Rattle.line_io.specs.Out.{Text, with}
use Rattle.game_record.specs.Game.{Ply, plies_of, current_position}
use Rattle.san_text.specs.GameText.{first_number_by, move_parts, result_text_by, result_text_of, spaced_parts, tag_of, game_text}
use Rattle.san_text.proofs.GameParts.{put_five, whole_text}
use Rattle.san_text.proofs.game.write_game.Goals as goal

pub returns-clause-text : goal.returns-clause-text
unfolding game_text
returns-clause-text c =
    let g = c.args.game.now in
    let o = c.args.out.now in
    let beginning = first_number_by g.start.side g.start.full in
    let moves = move_parts g.start g.moves in
    let text : Position → List ℕ → List Ply → Position → List ℕ → Text =
    λ p b ms q r. with o (tag_of p ++ (b ++ (spaced_parts (move_parts q ms) ++ (r ++ 10 ∷ [])))) in
    let result : c.result_text.result.now ≡ result_text_of g =
    c.result_text.ensures.text ∙ ap (λ (side : Side). result_text_by side c.ended.result) (c.side.ensures ∙ ap (λ (p : Position). p.side) c.now.ensures)
    ∙ ap (result_text_by (current_position g).side) c.ended.ensures in
    put_five o c.put_tag.new.out c.put_beginning.new.out c.put_moves.new.out c.put.new.self c.put-2.new.self
    (tag_of c.start.result.now) (spaced_parts (first_number_by c.start-2.result.now.side c.start-2.result.now.full))
    (spaced_parts (move_parts c.start-3.result.now (plies_of c.moves.result.now))) c.result_text.result.now (10 ∷ [])
    c.put_tag.ensures.text c.put_beginning.ensures.text c.put_moves.ensures.text c.put.ensures c.put-2.ensures
    ∙ ap (λ (p : Position). text p (spaced_parts (first_number_by c.start-2.result.now.side c.start-2.result.now.full)) (plies_of c.moves.result.now) c.start-3.result.now c.result_text.result.now) c.start.ensures
    ∙ ap (λ (p : Position). text g.start (spaced_parts (first_number_by p.side p.full)) (plies_of c.moves.result.now) c.start-3.result.now c.result_text.result.now) c.start-2.ensures
    ∙ ap (λ (p : Position). text g.start (spaced_parts beginning) (plies_of c.moves.result.now) p c.result_text.result.now) c.start-3.ensures
    ∙ ap (λ (ms : List Ply). text g.start (spaced_parts beginning) ms g.start c.result_text.result.now) c.moves.ensures.moves
    ∙ ap (text g.start (spaced_parts beginning) g.moves g.start) result
    ∙ ap (with o) (sym (whole_text (tag_of g.start) beginning moves (result_text_of g)))
