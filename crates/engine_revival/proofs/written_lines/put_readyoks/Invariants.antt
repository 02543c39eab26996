use Rattle.std.proofs.Common.{◌≡◌, ◌++◌}
use Rattle.engine_revival.specs.Steps.{readyoks}
use Rattle.engine_revival.proofs.written_lines.put_readyoks.Given as goal

abbrev pub invariant-loop-left : goal.invariant-loop-left
invariant-loop-left l = record {
  written : l.up.text ++ readyoks l.left ≡ l.initial.up.text ++ readyoks l.times;
  same : l.up.room ≡ l.initial.up.room;
}

abbrev pub decreases-loop-left : goal.decreases-loop-left
decreases-loop-left l = l.left
