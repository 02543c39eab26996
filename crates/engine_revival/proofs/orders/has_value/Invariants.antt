use Rattle.std.proofs.Common.{◌≡◌, codes, length}
use Rattle.protocol_tokens.specs.Tokens.{tokens}
use Rattle.uci_interface_lines.specs.Kinds.{has_token_word}
use Rattle.engine_revival.proofs.orders.has_value.Given as goal

-- `value` is among the tokens that are left, if it is among all
abbrev pub invariant-loop-token : goal.invariant-loop-token
invariant-loop-token l = has_token_word (codes "value") (tokens l.others) ≡ has_token_word (codes "value") (tokens l.text)

abbrev pub decreases-loop-token : goal.decreases-loop-token
decreases-loop-token l = length l.others
