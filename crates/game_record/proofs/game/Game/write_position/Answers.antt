-- The word, the start and the moves.
use Rattle.std.proofs.Common.{◌++◌, List, length, sym, ap, subst, ◌∙◌, arith}
use Rattle.std.specs.Option.{option_map}
use Rattle.std.specs.Prelude.{codes}
use Rattle.chess_board.specs.Position.{Position}
use Rattle.line_io.specs.Out.{with}
use Rattle.line_io.proofs.Puts.{put_three}
use Rattle.game_record.specs.Game.{Ply, ply_of, plies_of, AreLegal}
use Rattle.game_record.specs.Line.{game_start_text, plies_and_hint, game_moves_text, game_position_text}
use Rattle.game_record.proofs.Lines.{after_put, line_fits, officers}
use Rattle.game_record.proofs.game.Game.write_position.Goals as goal

pub put-requires : goal.put-requires
put-requires c =
    let fits = line_fits c.args.self.now (option_map ply_of c.args.hint) (length c.args.out.now.text) c.args.out.now.room c.requires.room in
    omega arith

pub write_start-requires : goal.write_start-requires
write_start-requires c =
    let fits = line_fits c.args.self.now (option_map ply_of c.args.hint) (length c.args.out.now.text) c.args.out.now.room c.requires.room in
    let put = after_put c.args.out.now c.put.new.self _ c.put.ensures in
    let start = ap (λ (p : Position). length (game_start_text p)) c.start.ensures in
    omega arith

pub write_moves_and_hint-requires-clause-officers : goal.write_moves_and_hint-requires-clause-officers
write_moves_and_hint-requires-clause-officers c = officers c.args.self.now.start c.moves.result.now (subst (AreLegal c.args.self.now.start) (sym c.moves.ensures.moves) c.moves.ensures.legal)

pub write_moves_and_hint-requires-clause-room : goal.write_moves_and_hint-requires-clause-room
write_moves_and_hint-requires-clause-room c =
    let fits = line_fits c.args.self.now (option_map ply_of c.args.hint) (length c.args.out.now.text) c.args.out.now.room c.requires.room in
    let put = after_put c.args.out.now c.put.new.self _ c.put.ensures in
    let started = after_put c.put.new.self c.write_start.new.out _ c.write_start.ensures in
    let start = ap (λ (p : Position). length (game_start_text p)) c.start.ensures in
    let moves = ap (λ (ms : List Ply). length (game_moves_text (plies_and_hint ms (option_map ply_of c.args.hint)))) c.moves.ensures.moves in
    omega arith

pub returns : goal.returns
unfolding game_position_text
returns c =
    let hint = option_map ply_of c.args.hint in
    put_three c.args.out.now c.put.new.self c.write_start.new.out c.write_moves_and_hint.new.out (codes "position ") (game_start_text c.start.result.now) (game_moves_text (plies_and_hint (plies_of c.moves.result.now) hint)) c.put.ensures c.write_start.ensures c.write_moves_and_hint.ensures
    ∙ ap (λ (p : Position). with c.args.out.now (codes "position " ++ (game_start_text p ++ game_moves_text (plies_and_hint (plies_of c.moves.result.now) hint)))) c.start.ensures
    ∙ ap (λ (ms : List Ply). with c.args.out.now (codes "position " ++ (game_start_text c.args.self.now.start ++ game_moves_text (plies_and_hint ms hint)))) c.moves.ensures.moves
