-- The rest of the features completes what all change and say.
use Rattle.std.proofs.Common.{◌≡◌, ◌≤◌, ◌+◌, ◌*◌, ◌++◌, length, false}
use Rattle.driver_state_machine.specs.Parts.{feature_parts}
use Rattle.driver_state_machine.specs.Lines.{lines_text}
use Rattle.cecp_driver.specs.Features.{has_all, name_all, feature_answers, greetings}
use Rattle.cecp_driver.proofs.features.hear_features.Given as goal

abbrev pub invariant-loop-cut : goal.invariant-loop-cut
invariant-loop-cut l = record {
  has : has_all l.has (feature_parts l.others) ≡ has_all l.fn.before (feature_parts l.fn.text);
  name : name_all l.name.text (feature_parts l.others) ≡ name_all l.initial.name.text (feature_parts l.fn.text);
  up : l.up.text ++ greetings l.has l.name.text (feature_parts l.others) ≡ l.initial.up.text ++ greetings l.fn.before l.initial.name.text (feature_parts l.fn.text);
  down : l.down.text ++ lines_text (feature_answers (feature_parts l.others)) ≡ l.initial.down.text ++ lines_text (feature_answers (feature_parts l.fn.text));
  name_room : l.name.room ≡ l.initial.name.room;
  up_room : l.up.room ≡ l.initial.up.room;
  down_room : l.down.room ≡ l.initial.down.room;
  short : length l.others ≤ length l.fn.text;
  down_fits : length l.down.text + 6 * length l.others ≤ length l.initial.down.text + 6 * length l.fn.text;
  up_fits : l.has.done ≡ false → length l.up.text + l.name.room + 30 ≤ l.up.room;
}

abbrev pub decreases-loop-cut : goal.decreases-loop-cut
decreases-loop-cut l = length l.others
