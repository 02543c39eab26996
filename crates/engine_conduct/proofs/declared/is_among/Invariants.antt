use Rattle.std.proofs.Common.{◌≡◌, length}
use Rattle.uci_lines.specs.Choices.{values}
use Rattle.engine_conduct.specs.Defaults.{is_among}
use Rattle.engine_conduct.proofs.declared.is_among.Given as goal

abbrev pub invariant-loop-other : goal.invariant-loop-other
invariant-loop-other l = is_among l.value (values l.others) ≡ is_among l.value (values l.fn.text)

abbrev pub decreases-loop-other : goal.decreases-loop-other
decreases-loop-other l = length l.others
