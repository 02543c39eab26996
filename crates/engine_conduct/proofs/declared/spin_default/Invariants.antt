use Rattle.std.proofs.Common.{◌≡◌, length, None}
use Rattle.protocol_tokens.specs.Tokens.{tokens}
use Rattle.engine_conduct.specs.Defaults.{spin_default}
use Rattle.engine_conduct.proofs.declared.spin_default.Given as goal

abbrev pub invariant-loop-token : goal.invariant-loop-token
invariant-loop-token l = spin_default l.found (tokens l.others) ≡ spin_default None (tokens l.fn.text)

abbrev pub decreases-loop-token : goal.decreases-loop-token
decreases-loop-token l = length l.others
