use Rattle.std.proofs.Common.{◌≡◌, length}
use Rattle.protocol_tokens.specs.Tokens.{tokens}
use Rattle.engine_conduct.specs.Runs.{has_unlisted_run}
use Rattle.engine_conduct.proofs.runs.has_unlisted_run.Given as goal

abbrev pub invariant-loop-token : goal.invariant-loop-token
invariant-loop-token l = has_unlisted_run l.pondering l.at l.listed (tokens l.others) ≡ has_unlisted_run l.pondering l.at l.listed (tokens l.fn.text)

abbrev pub decreases-loop-token : goal.decreases-loop-token
decreases-loop-token l = length l.others
