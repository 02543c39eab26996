-- The next move has a text, and room.
use Rattle.std.proofs.Common.{◌≡◌, ◌+◌, ◌∷◌, ◌++◌, List, drop, sym, ap, ◌∙◌, arith}
use Rattle.std.proofs.lemmas.List.{drop_more}
use Rattle.chess_board.specs.declared.board.Move.{Move}
use Rattle.game_record.specs.Game.{plies_of}
use Rattle.game_record.specs.Line.{spaced_plies}
use Rattle.game_record.proofs.Lines.{officer_at, next_fits}
use Rattle.game_record.proofs.line.write_moves.Goals as goal

pub write_spaced-requires-clause-officer : goal.write_spaced-requires-clause-officer
write_spaced-requires-clause-officer c = officer_at c.args.moves.now c.loop-m.m-index c.m-item.result (omega arith) c.m-item.is c.requires.officers

pub write_spaced-requires-clause-room : goal.write_spaced-requires-clause-room
write_spaced-requires-clause-room c =
    let rest : List Move = drop (c.loop-m.m-index + 1) c.args.moves.now in
    let first : drop c.loop-m.m-index c.args.moves.now ≡ c.m-item.result ∷ rest = drop_more c.args.moves.now c.loop-m.m-index c.m-item.result (omega arith) ∙ ap (λ (m : Move). m ∷ rest) (sym c.m-item.is) in
    let fits = next_fits c.loop-m.out.text c.args.out.now.text c.args.moves.now rest c.m-item.result c.args.out.now.room
    (ap (λ (moves : List Move). c.loop-m.out.text ++ spaced_plies (plies_of moves)) (sym first) ∙ c.loop-m.invariant.text) c.requires.room in
    omega arith
