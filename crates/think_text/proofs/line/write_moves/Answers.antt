use Rattle.std.proofs.Common.{◌≡◌, ◌∷◌, List, length, ap, arith}
use Rattle.std.proofs.lemmas.List.{length-append}
use Rattle.protocol_tokens.specs.Tokens.{tokens}
use Rattle.uci_lines.specs.Moves.{longest_move_run}
use Rattle.chess_board.specs.declared.board.Move.{Move}
use Rattle.think_text.specs.Line.{legal_run, position_after_pv_move, spaced_moves, written}
use Rattle.think_text.proofs.line.write_moves.Goals as goal

pub write_spaced-requires-clause-room : goal.write_spaced-requires-clause-room
write_spaced-requires-clause-room c =
    let s = c.args.spelling in
    let p = c.loop-next.position in
    let left : List Move = legal_run p (longest_move_run (tokens c.loop-next.others.now)) in
    let later : List Move = legal_run (position_after_pv_move p c.in-Some.next.m) (longest_move_run (tokens c.in-Some.next.others.now)) in
    let first : length (spaced_moves s p left) ≡ length (spaced_moves s p (c.in-Some.next.m ∷ later)) = ap (λ (moves : List Move). length (spaced_moves s p moves)) c.in-Some.ensures.2 in
    let whole = ap length c.loop-next.invariant.text in
    omega (
      arith,
      first,
      whole,
      c.loop-next.invariant.room,
      c.requires,
      length-append c.loop-next.out.text (spaced_moves s p left),
      length-append (32 ∷ written s p c.in-Some.next.m) (spaced_moves s (position_after_pv_move p c.in-Some.next.m) later),
      length-append c.args.out.now.text (spaced_moves s c.args.at.now (legal_run c.args.at.now (longest_move_run (tokens c.args.moves.now)))),
    )
