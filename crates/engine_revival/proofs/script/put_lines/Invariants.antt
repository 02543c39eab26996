use Rattle.std.proofs.Common.{◌≡◌, ◌++◌, length}
use Rattle.script_lines.specs.StepText.{lines_marked}
use Rattle.engine_revival.proofs.script.put_lines.Given as goal

abbrev pub invariant-loop-rest : goal.invariant-loop-rest
invariant-loop-rest l = record {
  written : l.text.text ++ lines_marked l.letter l.rest ≡ l.initial.text.text ++ lines_marked l.letter l.lines;
  same : l.text.room ≡ l.initial.text.room;
}

abbrev pub decreases-loop-rest : goal.decreases-loop-rest
decreases-loop-rest l = length l.rest
