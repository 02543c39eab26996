use Rattle.std.proofs.Common.{◌≡◌, length}
use Rattle.line_io.specs.Out.{with}
use Rattle.protocol_tokens.specs.Tokens.{tokens}
use Rattle.uci_lines.specs.Moves.{longest_move_run}
use Rattle.uci_interface_lines.specs.Said.{each_move}
use Rattle.uci_interface_lines.proofs.canonical.put_moves.Given as goal

abbrev pub invariant-loop-m : goal.invariant-loop-m
invariant-loop-m l = with l.out (each_move (longest_move_run (tokens l.others))) ≡ with l.fn.out (each_move (longest_move_run (tokens l.fn.pv)))

abbrev pub decreases-loop-m : goal.decreases-loop-m
decreases-loop-m l = length l.others
