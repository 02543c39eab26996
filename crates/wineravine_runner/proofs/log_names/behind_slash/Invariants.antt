-- The rest of the text completes the part.
use Rattle.std.proofs.Common.{◌≡◌, [], drop}
use Rattle.wineravine_runner.proofs.LastPart.{last_part}
use Rattle.wineravine_runner.proofs.log_names.behind_slash.Given as goal

abbrev pub invariant-loop-byte : goal.invariant-loop-byte
invariant-loop-byte l = record {
  part : last_part l.part.items (drop l.byte-index l.text) ≡ last_part [] l.text;
}
