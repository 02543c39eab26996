-- The rest of the moves completes the text.
use Rattle.std.proofs.Common.{◌≡◌, ◌++◌, length}
use Rattle.protocol_tokens.specs.Tokens.{tokens}
use Rattle.uci_lines.specs.Moves.{longest_move_run}
use Rattle.think_text.specs.Line.{legal_run, spaced_moves}
use Rattle.think_text.proofs.line.write_moves.Given as goal

abbrev pub invariant-loop-next : goal.invariant-loop-next
invariant-loop-next l = record {
  text : l.out.text ++ spaced_moves l.spelling l.position (legal_run l.position (longest_move_run (tokens l.others))) ≡ l.initial.out.text ++ spaced_moves l.spelling l.initial.position (legal_run l.initial.position (longest_move_run (tokens l.initial.others)));
  room : l.out.room ≡ l.initial.out.room;
}

abbrev pub decreases-loop-next : goal.decreases-loop-next
decreases-loop-next l = length (legal_run l.position (longest_move_run (tokens l.others)))
