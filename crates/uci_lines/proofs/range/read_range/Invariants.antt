use Rattle.std.proofs.Common.{◌≡◌, length}
use Rattle.protocol_tokens.specs.Tokens.{tokens}
use Rattle.uci_lines.specs.Options.{range_of_spin, range_from, no_range}
use Rattle.uci_lines.proofs.range.read_range.Given as goal

abbrev pub invariant-loop-word : goal.invariant-loop-word
invariant-loop-word l = range_from (range_of_spin l.range) (tokens l.others) ≡ range_from no_range (tokens l.fn.text)

abbrev pub decreases-loop-word : goal.decreases-loop-word
decreases-loop-word l = length l.others
