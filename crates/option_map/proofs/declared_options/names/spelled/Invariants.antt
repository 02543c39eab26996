use Rattle.std.proofs.Common.{◌≡◌, take}
use Rattle.option_map.proofs.declared_options.names.spelled.Given as goal

abbrev pub invariant-loop-byte : goal.invariant-loop-byte
invariant-loop-byte l = l.copy.items ≡ take l.byte-index l.name
