-- The arguments and the room that is left are the whole room.
use Rattle.std.proofs.Common.{◌≡◌, ◌+◌}
use Rattle.program_command_line.specs.Arguments.Room.{arguments_room}
use Rattle.program_command_line.proofs.arguments.given.arguments_of.Given as goal

abbrev pub invariant-loop-place : goal.invariant-loop-place
invariant-loop-place g l = record {
  room : arguments_room l.arguments.items + l.left ≡ l.initial.left;
}
