use Rattle.std.proofs.Common.{◌≡◌, take, drop}
use Rattle.uci_lines.specs.Written.{option_value_cut}
use Rattle.uci_lines.proofs.Parts.{all_moved}
use Rattle.uci_lines.proofs.written.cut_value.Given as goal

abbrev pub invariant-loop-i : goal.invariant-loop-i
invariant-loop-i l = option_value_cut l.text ≡ all_moved (take l.i l.text) (option_value_cut (drop l.i l.text))
