-- The rest of the arguments completes the texts.
use Rattle.std.proofs.Common.{◌≡◌, ◌++◌, drop, map, string_bytes}
use Rattle.program_command_line.specs.Arguments.Request.{argument_bytes_of, AreUtf8}
use Rattle.program_command_line.proofs.arguments.request.texts_of.Given as goal

abbrev pub invariant-loop-argument : goal.invariant-loop-argument
invariant-loop-argument l = record {
  texts : map string_bytes l.texts.items ++ argument_bytes_of (drop l.argument-index l.arguments) ≡ argument_bytes_of l.arguments;
  utf8 : AreUtf8 (argument_bytes_of (drop l.argument-index l.arguments)) → AreUtf8 (argument_bytes_of l.arguments);
  rest : AreUtf8 (argument_bytes_of l.arguments) → AreUtf8 (argument_bytes_of (drop l.argument-index l.arguments));
}
