-- When the feature list is due.
use Rattle.std.specs.Prelude.{Bool, true, false}
use Rattle.option_map.specs.declared.feature_lists.negotiation.ProtoverAnswer.{ProtoverAnswer}
use Rattle.option_map.specs.declared.feature_lists.negotiation.ProtoverAnswer.TheVariants.{Wait, List}

-- the answer to `protover`: before the engine has started, that the list comes later
abbrev pub protover_answer : Bool → ProtoverAnswer
protover_answer true = Wait
protover_answer false = List

-- true if the list is due after `protover`
abbrev pub due_after : Bool → Bool → Bool
due_after true due = true
due_after false due = due
