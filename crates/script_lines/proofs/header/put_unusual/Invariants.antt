use Rattle.std.proofs.Common.{◌≡◌, ◌++◌, length}
use Rattle.script_lines.specs.Header.{unusual_text}
use Rattle.script_lines.proofs.header.put_unusual.Given as goal

abbrev pub invariant-loop-rest : goal.invariant-loop-rest
invariant-loop-rest l = l.text.items ++ unusual_text l.settings l.rest ≡ l.initial.text.items ++ unusual_text l.settings l.list

abbrev pub decreases-loop-rest : goal.decreases-loop-rest
decreases-loop-rest l = length l.rest
