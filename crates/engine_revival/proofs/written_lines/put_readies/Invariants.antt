use Rattle.std.proofs.Common.{◌≡◌, ◌++◌}
use Rattle.engine_revival.specs.Lists.{revival_batch_text}
use Rattle.engine_revival.specs.Steps.{readies}
use Rattle.engine_revival.proofs.written_lines.put_readies.Given as goal

abbrev pub invariant-loop-left : goal.invariant-loop-left
invariant-loop-left l = record {
  written : l.out.text ++ revival_batch_text (readies l.left) ≡ l.initial.out.text ++ revival_batch_text (readies l.times);
  same : l.out.room ≡ l.initial.out.room;
}

abbrev pub decreases-loop-left : goal.decreases-loop-left
decreases-loop-left l = l.left
