-- The rest of the moves completes the text.
use Rattle.std.proofs.Common.{◌≡◌, ◌++◌, drop}
use Rattle.game_record.specs.Game.{plies_of}
use Rattle.game_record.specs.Line.{spaced_plies}
use Rattle.game_record.proofs.line.write_moves.Given as goal

abbrev pub invariant-loop-m : goal.invariant-loop-m
invariant-loop-m l = record {
  text : l.out.text ++ spaced_plies (plies_of (drop l.m-index l.moves)) ≡ l.initial.out.text ++ spaced_plies (plies_of l.moves);
  room : l.out.room ≡ l.initial.out.room;
}
