-- The streams of the program.
use Rattle.std.specs.Prelude.{◌≡◌}
use Rattle.line_io.specs.Causes.{Rose}
use Rattle.line_io.specs.Source.{Supplied, Received}

-- the state at one moment of the input, of the output and of the diagnostic
pub record FilterStreams : Type 0 where
  pub input : Supplied
  pub output : Received
  pub diag : Received

abbrev pub filter_streams : Supplied → Received → Received → FilterStreams
filter_streams input output diag = record { input = input; output = output; diag = diag }

abbrev pub with_input : FilterStreams → Supplied → FilterStreams
with_input s input = record { input = input; output = s.output; diag = s.diag }

abbrev pub with_output : FilterStreams → Received → FilterStreams
with_output s output = record { input = s.input; output = output; diag = s.diag }

-- each count of faults is as before
pub record AreSame (before after : FilterStreams) : Type 0 where
  pub read : after.input.faults ≡ before.input.faults
  pub written : after.output.faults ≡ before.output.faults
  pub announced : after.diag.faults ≡ before.diag.faults

-- no count of faults rose
pub record HasNoFault (before after : FilterStreams) : Type 0 where
  pub read : Rose before.input.faults after.input.faults → ⊥
  pub written : Rose before.output.faults after.output.faults → ⊥
  pub announced : Rose before.diag.faults after.diag.faults → ⊥
