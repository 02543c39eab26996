use Rattle.std.proofs.Common.{◌≡◌, length}
use Rattle.engine_conduct.specs.Listed.{is_listed}
use Rattle.engine_conduct.proofs.listed.is_listed.Given as goal

abbrev pub invariant-loop-others : goal.invariant-loop-others
invariant-loop-others l = is_listed l.others l.m ≡ is_listed l.fn.listed l.m

abbrev pub decreases-loop-others : goal.decreases-loop-others
decreases-loop-others l = length l.others
