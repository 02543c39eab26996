use Rattle.std.proofs.Common.{◌≡◌, take}
use Rattle.option_map.specs.DeclaredOptions.Names.{folded}
use Rattle.option_map.proofs.declared_options.names.folded.Given as goal

abbrev pub invariant-loop-byte : goal.invariant-loop-byte
invariant-loop-byte l = l.lower.items ≡ folded (take l.byte-index l.name)
