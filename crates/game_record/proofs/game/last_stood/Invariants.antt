-- After the place the position does not stand.
use Rattle.std.proofs.Common.{◌≡◌, ◌≤◌, drop}
use Rattle.game_record.specs.Ending.{stood_in}
use Rattle.game_record.proofs.game.last_stood.Given as goal

abbrev pub invariant-loop-i : goal.invariant-loop-i
invariant-loop-i l = record {
  none : stood_in l.p (drop l.i l.later) ≡ 0;
  old : l.oldest ≤ l.i;
}
