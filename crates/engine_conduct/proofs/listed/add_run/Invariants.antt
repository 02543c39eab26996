use Rattle.std.proofs.Common.{◌≡◌, length}
use Rattle.protocol_tokens.specs.Tokens.{tokens}
use Rattle.uci_lines.specs.Moves.{longest_move_run}
use Rattle.engine_conduct.specs.Listed.{listed_from}
use Rattle.engine_conduct.proofs.listed.add_run.Given as goal

abbrev pub invariant-loop-m : goal.invariant-loop-m
invariant-loop-m l = listed_from l.at l.listed.items (longest_move_run (tokens l.others)) ≡ listed_from l.at l.fn.listed.items (longest_move_run (tokens l.fn.text))

abbrev pub decreases-loop-m : goal.decreases-loop-m
decreases-loop-m l = length l.others
