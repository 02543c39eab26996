-- The rest of the texts completes the arguments.
use Rattle.std.proofs.Common.{◌≡◌, ◌++◌, drop, map, string_bytes}
use Rattle.std.specs.Process.{command_program, command_args}
use Rattle.child_engine.proofs.real.put_arguments.Given as goal

abbrev pub invariant-loop-argument : goal.invariant-loop-argument
invariant-loop-argument l = record {
  program : command_program l.command ≡ command_program l.fn.command;
  arguments_put : command_args l.command ++ map string_bytes (drop l.argument-index l.arguments)
      ≡ command_args l.fn.command ++ map string_bytes l.arguments;
}
