use Rattle.std.proofs.Common.{◌≡◌, length, Some}
use Rattle.protocol_tokens.specs.Tokens.{tokens}
use Rattle.uci_lines.specs.Moves.{longest_move_run}
use Rattle.engine_conduct.specs.Runs.{are_legal}
use Rattle.engine_conduct.proofs.runs.are_legal.Given as goal

abbrev pub invariant-loop-m : goal.invariant-loop-m
invariant-loop-m l = are_legal (Some l.at) (longest_move_run (tokens l.others)) ≡ are_legal (Some l.fn.start) (longest_move_run (tokens l.fn.text))

abbrev pub decreases-loop-m : goal.decreases-loop-m
decreases-loop-m l = length l.others
