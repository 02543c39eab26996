-- The rest of the arguments completes the copies.
use Rattle.std.proofs.Common.{◌≡◌, ◌++◌, drop, map, string_bytes}
use Rattle.child_engine.proofs.copies.copies_of.Given as goal

abbrev pub invariant-loop-argument : goal.invariant-loop-argument
invariant-loop-argument l = record {
  copies : map string_bytes l.copies.items ++ map string_bytes (drop l.argument-index l.arguments) ≡ map string_bytes l.arguments;
}
