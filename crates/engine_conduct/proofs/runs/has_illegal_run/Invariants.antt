use Rattle.std.proofs.Common.{◌≡◌, length}
use Rattle.protocol_tokens.specs.Tokens.{tokens}
use Rattle.engine_conduct.specs.Runs.{has_illegal_run}
use Rattle.engine_conduct.proofs.runs.has_illegal_run.Given as goal

abbrev pub invariant-loop-token : goal.invariant-loop-token
invariant-loop-token l = has_illegal_run l.pondering l.at (tokens l.others) ≡ has_illegal_run l.pondering l.at (tokens l.fn.text)

abbrev pub decreases-loop-token : goal.decreases-loop-token
decreases-loop-token l = length l.others
