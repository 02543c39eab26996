-- The rest of the bytes completes the name.
use Rattle.std.proofs.Common.{◌≡◌, ◌++◌, drop, map, string_bytes}
use Rattle.wineravine_runner.specs.LogNames.{log_letter}
use Rattle.wineravine_runner.proofs.log_names.put_letters.Given as goal

abbrev pub invariant-loop-byte : goal.invariant-loop-byte
invariant-loop-byte l = record {
  name : string_bytes l.name ++ map log_letter (drop l.byte-index l.bytes) ≡ string_bytes l.fn.name ++ map log_letter l.bytes;
}
