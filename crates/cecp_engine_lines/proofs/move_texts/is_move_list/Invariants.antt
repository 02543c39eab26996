use Rattle.std.proofs.Common.{◌≡◌, ◌≤◌, length}
use Rattle.cecp_engine_lines.specs.ReplyReading.{are_moves}
use Rattle.cecp_engine_lines.proofs.move_texts.is_move_list.Given as goal

abbrev pub invariant-loop-at : goal.invariant-loop-at
invariant-loop-at l = record {
  moves : are_moves l.spelling l.rest ≡ are_moves l.spelling l.text;
  short : length l.rest ≤ length l.text;
}

abbrev pub decreases-loop-at : goal.decreases-loop-at
decreases-loop-at l = length l.rest
