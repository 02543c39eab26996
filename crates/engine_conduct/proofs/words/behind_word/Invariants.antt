use Rattle.std.proofs.Common.{◌≡◌, length}
use Rattle.protocol_tokens.specs.Tokens.{tokens}
use Rattle.engine_conduct.specs.Words.{behind_word}
use Rattle.engine_conduct.proofs.words.behind_word.Given as goal

abbrev pub invariant-loop-token : goal.invariant-loop-token
invariant-loop-token l = behind_word l.word (tokens l.others) ≡ behind_word l.word (tokens l.fn.text)

abbrev pub decreases-loop-token : goal.decreases-loop-token
decreases-loop-token l = length l.others
