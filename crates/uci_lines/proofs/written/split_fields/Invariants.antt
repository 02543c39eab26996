use Rattle.std.proofs.Common.{◌≡◌, take, drop}
use Rattle.uci_lines.specs.Written.{fields_before}
use Rattle.uci_lines.proofs.Parts.{moved}
use Rattle.uci_lines.proofs.written.split_fields.Given as goal

abbrev pub invariant-loop-i : goal.invariant-loop-i
invariant-loop-i l = fields_before 5 l.text ≡ moved (take l.i l.text) (fields_before l.blanks (drop l.i l.text))
