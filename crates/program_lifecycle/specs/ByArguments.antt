-- The behaviour of a program whose arguments name a log and an engine.
use Rattle.std.specs.Prelude.{◌≡◌, ℕ, true, List, IfSome}
use Rattle.line_io.specs.Source.{Received}
use Rattle.program_command_line.specs.Arguments.Request.{EngineArgumentsAreTaken}
use Rattle.child_engine.specs.Asked.{Asked}
use Rattle.program_lifecycle.specs.declared.failures.Failures.{Failures}
use Rattle.program_lifecycle.specs.Asked.{AsksByArguments}
use Rattle.program_lifecycle.specs.Outside.{Outside}
use Rattle.program_lifecycle.specs.Program.{StatusIsReported, StatusSays}

-- The behaviour with these arguments, if a run leaves so much and is whole as this says; what the host
-- keeps of what it was asked for, what the diagnostic's sink shows, and the status.
pub record DoesByArguments (program : List ℕ) (Left : Outside → Outside → Failures → Type 0)
    (Whole : List ℕ → Outside → Outside → Type 0) (arguments : List (List ℕ)) (before after : Outside)
    (kept kept' : Asked) (diag diag' : Received) (code : ℕ) : Type 0 where
  pub answers : StatusIsReported program (EngineArgumentsAreTaken arguments) (Left before after) before after diag diag' code
  pub status : StatusSays (EngineArgumentsAreTaken arguments) before after code
  -- at status 0, over a host that reports its bytes
  pub whole : code ≡ 0 → before.ledger.sinks_report ≡ true
      → IfSome before.ledger.says (λ bytes. Whole bytes before after)
  -- the words of the engine, and the name of the log
  pub asked : AsksByArguments arguments kept kept' before.faults after.faults after.ledger
  -- if the engine could not be started, nothing was read or written
  pub unstarted : code ≡ 8 → (after.input ≡ before.input) × (after.output ≡ before.output)
