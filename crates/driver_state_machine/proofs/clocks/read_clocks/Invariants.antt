use Rattle.std.proofs.Common.{◌≡◌, length}
use Rattle.protocol_tokens.specs.Tokens.{tokens}
use Rattle.driver_state_machine.specs.Clocks.{clocks_from, no_clocks}
use Rattle.driver_state_machine.proofs.clocks.read_clocks.Given as goal

abbrev pub invariant-loop-word : goal.invariant-loop-word
invariant-loop-word l = clocks_from l.clocks (tokens l.others) ≡ clocks_from no_clocks (tokens l.fn.line)

abbrev pub decreases-loop-word : goal.decreases-loop-word
decreases-loop-word l = length l.others
