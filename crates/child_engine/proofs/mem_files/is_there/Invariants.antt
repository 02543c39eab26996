-- The name is there if it is among the rest.
use Rattle.std.proofs.Common.{◌≡◌, drop, map, string_bytes}
use Rattle.child_engine.specs.Places.{is_there}
use Rattle.child_engine.proofs.mem_files.is_there.Given as goal

abbrev pub invariant-loop-other : goal.invariant-loop-other
invariant-loop-other l = record {
  rest : is_there l.name (map string_bytes (drop l.other-index l.names)) ≡ is_there l.name (map string_bytes l.names);
}
