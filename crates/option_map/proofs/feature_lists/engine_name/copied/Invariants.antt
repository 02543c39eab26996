use Rattle.std.proofs.Common.{◌≡◌, take}
use Rattle.option_map.proofs.feature_lists.engine_name.copied.Given as goal

abbrev pub invariant-loop-byte : goal.invariant-loop-byte
invariant-loop-byte l = l.copy.items ≡ take l.byte-index l.name
