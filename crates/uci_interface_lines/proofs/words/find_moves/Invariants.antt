use Rattle.std.proofs.Common.{◌≡◌, take, drop, true}
use Rattle.uci_lines.specs.Cuts.{found_token}
use Rattle.uci_lines.proofs.Cutting.{shifted}
use Rattle.uci_interface_lines.specs.Lines.{is_moves_token}
use Rattle.uci_interface_lines.proofs.words.find_moves.Given as goal

abbrev pub invariant-loop-i : goal.invariant-loop-i
invariant-loop-i l = found_token is_moves_token true l.text ≡ shifted (take l.i l.text) (found_token is_moves_token l.is_fresh (drop l.i l.text))
