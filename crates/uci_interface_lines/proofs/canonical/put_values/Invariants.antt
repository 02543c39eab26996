use Rattle.std.proofs.Common.{◌≡◌, length}
use Rattle.line_io.specs.Out.{with}
use Rattle.uci_lines.specs.Choices.{values}
use Rattle.uci_interface_lines.specs.Said.{each_value}
use Rattle.uci_interface_lines.proofs.canonical.put_values.Given as goal

abbrev pub invariant-loop-value : goal.invariant-loop-value
invariant-loop-value l = with l.out (each_value (values l.others)) ≡ with l.fn.out (each_value (values l.fn.text))

abbrev pub decreases-loop-value : goal.decreases-loop-value
decreases-loop-value l = length l.others
