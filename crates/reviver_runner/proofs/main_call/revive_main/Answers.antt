use Rattle.std.proofs.Common.{◌≡◌, ◌∙◌, ℕ, List, Option, None, Some, IfSome, true, sym}
use Rattle.program_lifecycle.specs.Early.{no_failure}
use Rattle.program_lifecycle.specs.Outside.{Outside}
use Rattle.program_lifecycle.specs.declared.failures.Failures.{Failures}
use Rattle.program_lifecycle.proofs.Causes as causes
use Rattle.reviver_runner.specs.Recorded.{ReviverRunIsWhole}
use Rattle.reviver_runner.specs.Program.{program, LeavesFor, ReviverRunsWhole}
use Rattle.reviver_runner.proofs.main_call.revive_main.Goals as goal

pub returns-clause-answers : goal.returns-clause-answers
returns-clause-answers g c =
    causes.answers _ _ _ _ _ program _ _ _ c.finish.ensures.status c.finish.ensures.reported c.end_of-ending.ensures.ends

pub returns-clause-status : goal.returns-clause-status
returns-clause-status g c = causes.status_says _ _ _ _ _ _ c.finish.ensures.status c.end_of-ending.ensures.ends

if_some : (P Q : List ℕ → Type 0) (o : Option (List ℕ)) → ((bytes : List ℕ) → P bytes → Q bytes) → IfSome o P → IfSome o Q
if_some P Q None h x = tt
if_some P Q (Some bytes) h x = h bytes x

whole_by : (arguments : List (List ℕ)) (before after : Outside) (f : Failures) → LeavesFor arguments before after f → f ≡ no_failure → before.ledger.sinks_report ≡ true
    → IfSome before.ledger.says (λ bytes. ReviverRunsWhole arguments bytes before after)
whole_by arguments before after f run e sinks_report =
    if_some (λ bytes. ReviverRunIsWhole run.lives bytes before after) (λ bytes. ReviverRunsWhole arguments bytes before after) before.ledger.says
    (λ bytes w. record { lives = run.lives; given = run.given; whole = w }) (run.left.whole e sinks_report)

pub returns-clause-whole : goal.returns-clause-whole
returns-clause-whole g c z sinks_report = causes.fine _ _ _ _ _ c.end_of-ending.ensures.ends (sym c.finish.ensures.status ∙ z) (λ f run e. whole_by _ _ _ f run e sinks_report)
