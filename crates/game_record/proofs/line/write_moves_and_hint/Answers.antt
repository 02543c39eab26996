-- The word, the moves, and the one that may follow.
use Rattle.std.proofs.Common.{◌<◌, ◌∷◌, [], Option, length, sym, ap, subst, ◌∙◌, arith, length-append}
use Rattle.std.specs.Option.{option_map, option_to_list}
use Rattle.std.specs.Prelude.{codes}
use Rattle.chess_board.specs.declared.board.Move.{Move}
use Rattle.chess_board.specs.Text.{text_of_move, promotion_text}
use Rattle.line_io.specs.Out.{Text, with}
use Rattle.line_io.proofs.Puts.{put_three, put_again}
use Rattle.game_record.specs.Game.{ply_of, plies_of}
use Rattle.game_record.specs.Line.{spaced_plies, plies_and_hint, game_moves_text}
use Rattle.game_record.proofs.Lines.{after_put, parts_fit, reported_some, reported_none}
use Rattle.game_record.proofs.line.write_moves_and_hint.Goals as goal

pub put-requires : goal.put-requires
put-requires c =
    let fits = parts_fit (plies_of c.args.moves.now) (option_map ply_of c.args.hint) (length c.args.out.now.text) c.args.out.now.room (c.has_moves.ensures.0 c.if-not-has_moves.false) c.requires.room in
    omega arith

pub write_moves-requires-clause-room : goal.write_moves-requires-clause-room
write_moves-requires-clause-room c =
    let fits = parts_fit (plies_of c.args.moves.now) (option_map ply_of c.args.hint) (length c.args.out.now.text) c.args.out.now.room (c.has_moves.ensures.0 c.if-not-has_moves.false) c.requires.room in
    let put = after_put c.args.out.now c.put.new.self _ c.put.ensures in
    omega arith

pub write_spaced-requires-clause-room : goal.write_spaced-requires-clause-room
write_spaced-requires-clause-room c =
    let fits = parts_fit (plies_of c.args.moves.now) (option_map ply_of c.args.hint) (length c.args.out.now.text) c.args.out.now.room (c.has_moves.ensures.0 c.if-not-has_moves.false) c.requires.room in
    let put = after_put c.args.out.now c.put.new.self _ c.put.ensures in
    let moves = after_put c.put.new.self c.write_moves.new.out _ c.write_moves.ensures in
    let one = ap (λ (h : Option Move). length (spaced_plies (option_to_list (option_map ply_of h)))) c.in-Some.is in
    let text = length-append (promotion_text c.in-Some.m.promotion) [] in
    omega arith

pub returns-in-Some : goal.returns-in-Some
returns-in-Some c =
    let moves = plies_of c.args.moves.now in
    let some = subst (λ (h : Option Move). 0 < length (plies_and_hint moves (option_map ply_of h))) c.in-Some.is (c.has_moves.ensures.0 c.if-not-has_moves.false) in
    put_three c.args.out.now c.put.new.self c.write_moves.new.out c.write_spaced.new.out (codes " moves") (spaced_plies moves) (32 ∷ text_of_move c.in-Some.m) c.put.ensures c.write_moves.ensures c.write_spaced.ensures
    ∙ ap (with c.args.out.now) (sym (reported_some moves c.in-Some.m some)) ∙ ap (λ (h : Option Move). with c.args.out.now (game_moves_text (plies_and_hint moves (option_map ply_of h)))) (sym c.in-Some.is)

pub returns-in-None : goal.returns-in-None
returns-in-None c =
    let moves = plies_of c.args.moves.now in
    let some = subst (λ (h : Option Move). 0 < length (plies_and_hint moves (option_map ply_of h))) c.in-None.is (c.has_moves.ensures.0 c.if-not-has_moves.false) in
    c.write_moves.ensures ∙ ap (λ (o : Text). with o (spaced_plies moves)) c.put.ensures ∙ put_again c.args.out.now (codes " moves") (spaced_plies moves)
    ∙ ap (with c.args.out.now) (sym (reported_none moves some)) ∙ ap (λ (h : Option Move). with c.args.out.now (game_moves_text (plies_and_hint moves (option_map ply_of h)))) (sym c.in-None.is)
