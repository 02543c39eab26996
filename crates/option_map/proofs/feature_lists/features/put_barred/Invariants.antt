use Rattle.std.proofs.Common.{◌≡◌, length}
use Rattle.std.specs.List.{flat_map}
use Rattle.line_io.specs.Out.{with}
use Rattle.option_map.specs.DeclaredOptions.Choices.{with_bars, choices_in}
use Rattle.option_map.proofs.feature_lists.features.put_barred.Given as goal

abbrev pub invariant-loop-choice : goal.invariant-loop-choice
invariant-loop-choice l = with l.out (flat_map with_bars (choices_in l.others)) ≡ with l.fn.out (flat_map with_bars (choices_in l.fn.choices))

abbrev pub decreases-loop-choice : goal.decreases-loop-choice
decreases-loop-choice l = length (choices_in l.others)
