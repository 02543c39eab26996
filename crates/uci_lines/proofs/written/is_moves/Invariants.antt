use Rattle.std.proofs.Common.{◌≡◌, length}
use Rattle.uci_lines.specs.Written.{is_moves}
use Rattle.uci_lines.proofs.written.is_moves.Given as goal

abbrev pub invariant-loop-at : goal.invariant-loop-at
invariant-loop-at l = is_moves l.others ≡ is_moves l.fn.text

abbrev pub decreases-loop-at : goal.decreases-loop-at
decreases-loop-at l = length l.others
