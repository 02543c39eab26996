-- The room that the arguments of a command line take.
use Rattle.std.specs.Prelude.{ℕ, List, ◌+◌, length, Vec, vec_items}
use Rattle.std.specs.List.{sum_by}
use Rattle.program_command_line.specs.declared.arguments.given.TheConstants.{ARGUMENT_ROOM}

-- a word takes its bytes, and room for its place
abbrev pub argument_room : {Z : Type 0} → Vec ℕ Z → ℕ
argument_room argument = length (vec_items argument) + ARGUMENT_ROOM

abbrev pub arguments_room : {Z : Type 0} → List (Vec ℕ Z) → ℕ
arguments_room arguments = sum_by argument_room arguments
