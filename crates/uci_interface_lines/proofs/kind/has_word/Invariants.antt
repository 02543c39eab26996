use Rattle.std.proofs.Common.{◌≡◌, length}
use Rattle.protocol_tokens.specs.Tokens.{tokens}
use Rattle.uci_interface_lines.specs.Kinds.{has_token_word}
use Rattle.uci_interface_lines.proofs.kind.has_word.Given as goal

-- the word is among the tokens that are left, if it is among all
abbrev pub invariant-loop-token : goal.invariant-loop-token
invariant-loop-token l = has_token_word l.word (tokens l.others) ≡ has_token_word l.word (tokens l.line)

abbrev pub decreases-loop-token : goal.decreases-loop-token
decreases-loop-token l = length l.others
