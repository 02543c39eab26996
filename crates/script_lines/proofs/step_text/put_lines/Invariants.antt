use Rattle.std.proofs.Common.{◌≡◌, ◌+◌, ◌*◌, ◌≤◌, ◌++◌, length}
use Rattle.script_lines.specs.StepText.{lines_marked}
use Rattle.script_lines.proofs.step_text.put_lines.Given as goal

abbrev pub invariant-loop-rest : goal.invariant-loop-rest
invariant-loop-rest l = record {
  written : l.out.text ++ lines_marked l.letter l.rest ≡ l.initial.out.text ++ lines_marked l.letter l.text;
  same : l.out.room ≡ l.initial.out.room;
  room : length l.out.text + 4 * length l.rest ≤ length l.initial.out.text + 4 * length l.text;
}

abbrev pub decreases-loop-rest : goal.decreases-loop-rest
decreases-loop-rest l = length l.rest
