use Rattle.std.proofs.Common.{◌≤◌, ℕ, List, Option, [], ◌∷◌, ◌++◌, length, ap, sym, subst, ◌∙◌}
use Rattle.std.specs.Prelude.{IfSome}
use Rattle.std.specs.Option.{option_map}
use Rattle.chess_board.specs.declared.board.Move.{Move}
use Rattle.line_io.specs.Out.{with}
use Rattle.game_record.specs.Game.{ply_of, current_position, IsPlayablePly}
use Rattle.game_record.specs.Line.{game_position_text}
use Rattle.desk_rules.proofs.Searches.{searched_text, can_ponder}
use Rattle.desk_rules.proofs.orders.put_position.Goals as goal

pub put_game-requires-clause-hint : goal.put_game-requires-clause-hint
put_game-requires-clause-hint c =
    let g = c.args.game.now in
    subst (λ (o : Option Move). IfSome o (λ m. IsPlayablePly (current_position g) (ply_of m))) (sym c.pondered.ensures) (can_ponder g c.args.call c.requires.hint)

pub returns-clause-line : goal.returns-clause-line
returns-clause-line c =
    let g = c.args.game.now in
    c.put_game.ensures.line ∙ ap (λ (o : Option Move). with c.args.out.now (game_position_text g (option_map ply_of o) ++ 10 ∷ [])) c.pondered.ensures
    ∙ ap (λ (t : List ℕ). with c.args.out.now (t ++ 10 ∷ [])) (searched_text g c.args.call)

pub returns-clause-short : goal.returns-clause-short
returns-clause-short c =
    let g = c.args.game.now in
    subst (λ (t : List ℕ). length (t ++ 10 ∷ []) ≤ 72127) (ap (λ (o : Option Move). game_position_text g (option_map ply_of o)) c.pondered.ensures ∙ searched_text g c.args.call) c.put_game.ensures.short
