use Rattle.std.proofs.Common.{◌≡◌, length}
use Rattle.option_map.specs.DeclaredOptions.Choices.{chosen, choices_in}
use Rattle.option_map.proofs.waiting_orders.translate.chosen.Given as goal

abbrev pub invariant-loop-choice : goal.invariant-loop-choice
invariant-loop-choice l = chosen l.value (choices_in l.others) ≡ chosen l.value (choices_in l.fn.choices)

abbrev pub decreases-loop-choice : goal.decreases-loop-choice
decreases-loop-choice l = length (choices_in l.others)
