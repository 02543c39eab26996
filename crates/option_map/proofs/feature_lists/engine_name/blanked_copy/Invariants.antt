use Rattle.std.proofs.Common.{◌≡◌, take}
use Rattle.option_map.specs.DeclaredOptions.Styles.{blanked_text}
use Rattle.option_map.proofs.feature_lists.engine_name.blanked_copy.Given as goal

abbrev pub invariant-loop-byte : goal.invariant-loop-byte
invariant-loop-byte l = l.copy.items ≡ blanked_text (take l.byte-index l.name)
