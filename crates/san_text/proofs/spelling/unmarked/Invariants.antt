use Rattle.std.proofs.Common.{◌≡◌, length}
use Rattle.san_text.specs.Spelling.{unmarked}
use Rattle.san_text.proofs.spelling.unmarked.Given as goal

abbrev pub invariant-loop-rest : goal.invariant-loop-rest
invariant-loop-rest l = unmarked l.rest ≡ unmarked l.text

abbrev pub decreases-loop-rest : goal.decreases-loop-rest
decreases-loop-rest l = length l.rest
