-- The rest of the moves completes the text.
use Rattle.std.proofs.Common.{◌≡◌, ◌≤◌, ◌+◌, ◌*◌, ◌++◌, drop, length}
use Rattle.replay_commands_on_core.specs.Moves.{move_lines}
use Rattle.replay_commands_on_core.proofs.moves.put_moves.Given as goal

abbrev pub invariant-loop-m : goal.invariant-loop-m
invariant-loop-m l = record {
  text : l.out.text ++ move_lines (drop l.m-index l.moves) ≡ l.initial.out.text ++ move_lines l.moves;
  room : l.out.room ≡ l.initial.out.room;
  few : length l.out.text ≤ length l.initial.out.text + l.m-index * 6;
}
