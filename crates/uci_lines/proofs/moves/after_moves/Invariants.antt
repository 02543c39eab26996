use Rattle.std.proofs.Common.{◌≡◌, ◌≤◌, length}
use Rattle.protocol_tokens.specs.Tokens.{tokens}
use Rattle.uci_lines.specs.Moves.{after_run}
use Rattle.uci_lines.proofs.moves.after_moves.Given as goal

abbrev pub invariant-loop-token : goal.invariant-loop-token
invariant-loop-token l = record {
  others : after_run (tokens l.others) ≡ after_run (tokens l.fn.text);
  within : length l.others ≤ length l.fn.text;
}

abbrev pub decreases-loop-token : goal.decreases-loop-token
decreases-loop-token l = length l.others
