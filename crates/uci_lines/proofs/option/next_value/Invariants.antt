use Rattle.std.proofs.Common.{◌≡◌, ◌≤◌, length}
use Rattle.uci_lines.specs.Choices.{values}
use Rattle.uci_lines.proofs.option.next_value.Given as goal

abbrev pub invariant-loop-found : goal.invariant-loop-found
invariant-loop-found l = record { same : values l.others ≡ values l.fn.text; within : length l.others ≤ length l.fn.text }

abbrev pub decreases-loop-found : goal.decreases-loop-found
decreases-loop-found l = length l.others
