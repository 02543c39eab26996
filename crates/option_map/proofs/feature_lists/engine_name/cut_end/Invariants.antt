use Rattle.std.proofs.Common.{◌≡◌, length}
use Rattle.protocol_tokens.specs.Tokens.{trim_right}
use Rattle.option_map.specs.DeclaredOptions.Styles.{blanked_text}
use Rattle.option_map.proofs.feature_lists.engine_name.cut_end.Given as goal

abbrev pub invariant-loop-rest : goal.invariant-loop-rest
invariant-loop-rest l = trim_right (blanked_text l.rest) ≡ trim_right (blanked_text l.text)

abbrev pub decreases-loop-rest : goal.decreases-loop-rest
decreases-loop-rest l = length l.rest
