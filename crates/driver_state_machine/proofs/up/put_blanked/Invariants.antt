-- What is left of the text completes it.
use Rattle.std.proofs.Common.{◌≡◌, ◌≤◌, ◌+◌, ◌++◌, length}
use Rattle.driver_state_machine.specs.Lines.{blanked_text}
use Rattle.driver_state_machine.proofs.up.put_blanked.Given as goal

abbrev pub invariant-loop-rest : goal.invariant-loop-rest
invariant-loop-rest l = record {
  text : l.out.text ++ blanked_text l.rest ≡ l.initial.out.text ++ blanked_text l.fn.text;
  room : l.out.room ≡ l.initial.out.room;
  fits : length l.out.text + length l.rest ≤ length l.initial.out.text + length l.fn.text;
}

abbrev pub decreases-loop-rest : goal.decreases-loop-rest
decreases-loop-rest l = length l.rest
