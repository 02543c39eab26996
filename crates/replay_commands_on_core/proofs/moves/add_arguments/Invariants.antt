-- The rest of the arguments completes the text.
use Rattle.std.proofs.Common.{◌≡◌, ◌++◌, drop}
use Rattle.replay_commands_on_core.specs.Commands.{argument_bytes}
use Rattle.replay_commands_on_core.specs.Moves.{behind_blanks}
use Rattle.replay_commands_on_core.proofs.moves.add_arguments.Given as goal

abbrev pub invariant-loop-word : goal.invariant-loop-word
invariant-loop-word l = record {
  text : l.text.items ++ behind_blanks (argument_bytes (drop l.word-index l.arguments)) ≡ l.initial.text.items ++ behind_blanks (argument_bytes l.arguments);
}
