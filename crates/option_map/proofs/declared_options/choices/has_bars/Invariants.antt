use Rattle.std.proofs.Common.{◌≡◌, length}
use Rattle.option_map.specs.DeclaredOptions.Choices.{has_bars}
use Rattle.option_map.proofs.declared_options.choices.has_bars.Given as goal

abbrev pub invariant-loop-others : goal.invariant-loop-others
invariant-loop-others l = has_bars l.others ≡ has_bars l.value

abbrev pub decreases-loop-others : goal.decreases-loop-others
decreases-loop-others l = length l.others
