-- The behaviour of a program by its arguments, from how it ended.
use Rattle.std.proofs.Common.{◌≡◌, ◌∙◌, ℕ, List, IfSome, true, sym}
use Rattle.line_io.specs.Source.{Received}
use Rattle.program_command_line.specs.Arguments.Request.{EngineArgumentsAreTaken}
use Rattle.child_engine.specs.Asked.{Asked}
use Rattle.program_lifecycle.specs.declared.failures.Failures.{Failures}
use Rattle.program_lifecycle.specs.declared.ending.ProgramEnding.{ProgramEnding}
use Rattle.program_lifecycle.specs.Asked.{AsksByArguments}
use Rattle.program_lifecycle.specs.ByArguments.{DoesByArguments}
use Rattle.program_lifecycle.specs.Early.{no_failure}
use Rattle.program_lifecycle.specs.Endings.{program_status, program_diagnostic}
use Rattle.program_lifecycle.specs.Outside.{Outside}
use Rattle.program_lifecycle.specs.Program.{ProgramEnds, IsReportedTo}
use Rattle.program_lifecycle.proofs.Causes as causes

module _ (program : List ℕ) (Left : Outside → Outside → Failures → Type 0) (Whole : List ℕ → Outside → Outside → Type 0) (arguments : List (List ℕ))
    (before after : Outside) (kept kept' : Asked) (diag diag' : Received) (ending : ProgramEnding) (code : ℕ) where
  pub does_by_words : code ≡ program_status ending → IsReportedTo diag diag' (program_diagnostic program ending) → ProgramEnds (EngineArgumentsAreTaken arguments) (Left before after) before after ending
      → AsksByArguments arguments kept kept' before.faults after.faults after.ledger
      → ((f : Failures) → Left before after f → f ≡ no_failure → before.ledger.sinks_report ≡ true → IfSome before.ledger.says (λ bytes. Whole bytes before after))
      → ((f : Failures) → Left before after f → f.engine_start ≡ true → (after.input ≡ before.input) × (after.output ≡ before.output))
      → DoesByArguments program Left Whole arguments before after kept kept' diag diag' code
  does_by_words e reported ends asks whole nothing =
      record {
        answers = causes.answers _ _ _ _ _ program diag diag' code e reported ends;
        status = causes.status_says _ _ _ _ _ code e ends;
        whole = λ z sinks_report. causes.fine _ _ _ _ _ ends (sym e ∙ z) (λ f left clear. whole f left clear sinks_report);
        asked = asks;
        unstarted = λ z. causes.unstarted _ _ _ _ _ ends (sym e ∙ z) nothing;
      }
