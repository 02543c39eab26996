use Rattle.std.proofs.Common.{◌≡◌, ◌≤◌, ◌+◌, length}
use Rattle.uci_lines.specs.Choices.{values}
use Rattle.option_map.specs.DeclaredOptions.Choices.{bars_length}
use Rattle.option_map.proofs.feature_lists.measure.bars_length.Given as goal

abbrev pub invariant-loop-value : goal.invariant-loop-value
invariant-loop-value l = (l.sum + bars_length (values l.others) ≡ bars_length (values l.fn.text)) × (l.sum ≤ l.most)

abbrev pub decreases-loop-value : goal.decreases-loop-value
decreases-loop-value l = length (values l.others)
