-- The rest of the moves completes the text.
use Rattle.std.proofs.Common.{◌≡◌, ◌≤◌, ◌+◌, ◌*◌, ◌++◌, drop, length}
use Rattle.game_record.specs.Game.{plies_of, AreLegal}
use Rattle.san_text.specs.GameText.{move_parts, spaced_parts}
use Rattle.san_text.proofs.game_parts.put_moves.Given as goal

abbrev pub invariant-loop-m : goal.invariant-loop-m
invariant-loop-m l = record {
  text : l.out.text ++ spaced_parts (move_parts l.at (plies_of (drop l.m-index l.moves)))
      ≡ l.initial.out.text ++ spaced_parts (move_parts l.start (plies_of l.moves));
  legal : AreLegal l.at (plies_of (drop l.m-index l.moves));
  few : length l.out.text ≤ length l.initial.out.text + 15 * l.m-index;
  room : l.out.room ≡ l.initial.out.room;
}
