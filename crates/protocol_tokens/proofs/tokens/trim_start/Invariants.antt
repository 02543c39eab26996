use Rattle.std.proofs.Common.{◌≡◌, length}
use Rattle.protocol_tokens.specs.Tokens.{trim_left}
use Rattle.protocol_tokens.proofs.tokens.trim_start.Given as goal

abbrev pub invariant-loop-rest : goal.invariant-loop-rest
invariant-loop-rest l = trim_left l.rest ≡ trim_left l.text

abbrev pub decreases-loop-rest : goal.decreases-loop-rest
decreases-loop-rest l = length l.rest
