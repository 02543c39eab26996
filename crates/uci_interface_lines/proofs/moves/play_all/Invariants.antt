use Rattle.std.proofs.Common.{◌≡◌, Some, length}
use Rattle.protocol_tokens.specs.Tokens.{tokens}
use Rattle.uci_interface_lines.specs.Lines.{position_after_texts}
use Rattle.uci_interface_lines.proofs.moves.play_all.Given as goal

-- the rest leads on to the same position
abbrev pub invariant-loop-text : goal.invariant-loop-text
invariant-loop-text l = position_after_texts (tokens l.others) (Some l.at) ≡ position_after_texts (tokens l.fn.moves) (Some l.fn.start)

abbrev pub decreases-loop-text : goal.decreases-loop-text
decreases-loop-text l = length l.others
