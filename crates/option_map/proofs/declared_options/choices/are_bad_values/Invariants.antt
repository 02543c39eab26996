use Rattle.std.proofs.Common.{◌≡◌, length}
use Rattle.std.specs.List.{list_any}
use Rattle.uci_lines.specs.Choices.{values}
use Rattle.option_map.specs.DeclaredOptions.Choices.{is_bad_value, are_bad_values}
use Rattle.option_map.proofs.declared_options.choices.are_bad_values.Given as goal

abbrev pub invariant-loop-value : goal.invariant-loop-value
invariant-loop-value l = list_any is_bad_value (values l.others) ≡ are_bad_values (values l.fn.text)

abbrev pub decreases-loop-value : goal.decreases-loop-value
decreases-loop-value l = length (values l.others)
