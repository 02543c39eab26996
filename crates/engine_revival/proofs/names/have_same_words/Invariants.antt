use Rattle.std.proofs.Common.{◌≡◌, length}
use Rattle.protocol_tokens.specs.Tokens.{tokens}
use Rattle.engine_revival.specs.Orders.{are_same_names, words_before_value}
use Rattle.engine_revival.proofs.names.have_same_words.Given as goal

-- the words that are left are the same, if all are
abbrev pub invariant-loop-word : goal.invariant-loop-word
invariant-loop-word l = are_same_names (words_before_value (tokens l.left)) (words_before_value (tokens l.right)) ≡ are_same_names (words_before_value (tokens l.a)) (words_before_value (tokens l.b))

abbrev pub decreases-loop-word : goal.decreases-loop-word
decreases-loop-word l = length l.left
