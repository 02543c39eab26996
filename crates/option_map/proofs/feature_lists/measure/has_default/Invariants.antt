use Rattle.std.proofs.Common.{◌≡◌, length}
use Rattle.std.specs.List.{list_any}
use Rattle.uci_lines.specs.Choices.{values}
use Rattle.option_map.specs.DeclaredOptions.Names.{same_text}
use Rattle.option_map.proofs.feature_lists.measure.has_default.Given as goal

abbrev pub invariant-loop-value : goal.invariant-loop-value
invariant-loop-value l = list_any (same_text l.default) (values l.others) ≡ list_any (same_text l.default) (values l.fn.text)

abbrev pub decreases-loop-value : goal.decreases-loop-value
decreases-loop-value l = length (values l.others)
