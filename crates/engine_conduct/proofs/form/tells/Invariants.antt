use Rattle.std.proofs.Common.{◌≡◌, length}
use Rattle.protocol_tokens.specs.Tokens.{tokens}
use Rattle.engine_conduct.specs.Forms.{tells}
use Rattle.engine_conduct.proofs.form.tells.Given as goal

abbrev pub invariant-loop-token : goal.invariant-loop-token
invariant-loop-token l = tells l.word (tokens l.others) ≡ tells l.word (tokens l.fn.text)

abbrev pub decreases-loop-token : goal.decreases-loop-token
decreases-loop-token l = length l.others
