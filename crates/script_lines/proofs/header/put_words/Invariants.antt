use Rattle.std.proofs.Common.{◌≡◌, ◌++◌, length}
use Rattle.script_lines.specs.Header.{words_text}
use Rattle.script_lines.proofs.header.put_words.Given as goal

abbrev pub invariant-loop-rest : goal.invariant-loop-rest
invariant-loop-rest l = l.text.items ++ words_text l.settings l.rest ≡ l.initial.text.items ++ words_text l.settings l.list

abbrev pub decreases-loop-rest : goal.decreases-loop-rest
decreases-loop-rest l = length l.rest
