-- The rest of the name completes what is shown.
use Rattle.std.proofs.Common.{◌≡◌, ◌++◌, drop, filter}
use Rattle.wineravine_runner.specs.Program.{is_shown}
use Rattle.wineravine_runner.proofs.reporting.shown_bytes.Given as goal

abbrev pub invariant-loop-byte : goal.invariant-loop-byte
invariant-loop-byte l = record {
  shown : l.shown.items ++ filter is_shown (drop l.byte-index l.name) ≡ filter is_shown l.name;
}
