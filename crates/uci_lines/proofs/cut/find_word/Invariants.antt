use Rattle.std.proofs.Common.{◌≡◌, take, drop, true}
use Rattle.uci_lines.specs.Cuts.{found_token, delimits}
use Rattle.uci_lines.proofs.Cutting.{shifted}
use Rattle.uci_lines.proofs.cut.find_word.Given as goal

abbrev pub invariant-loop-i : goal.invariant-loop-i
invariant-loop-i l = found_token (delimits l.stop) true l.text ≡ shifted (take l.i l.text) (found_token (delimits l.stop) l.is_fresh (drop l.i l.text))
