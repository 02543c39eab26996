-- A run in which nothing failed.
use Rattle.std.proofs.Common.{◌≡◌, ℕ, List, Option, None, Some, IfSome, true}
use Rattle.policy_rules.specs.declared.setting_rules.settings.Settings.{Settings}
use Rattle.program_lifecycle.specs.Early.{no_failure}
use Rattle.program_lifecycle.specs.Outside.{Outside}
use Rattle.program_lifecycle.specs.declared.failures.Failures.{Failures}
use Rattle.bridge_runner.specs.Recorded.{BridgeRunIsWhole}
use Rattle.bridge_runner.specs.Program.{RunsAsAsked, BridgeRunsWhole}

if_some : (P Q : List ℕ → Type 0) (o : Option (List ℕ)) → ((bytes : List ℕ) → P bytes → Q bytes) → IfSome o P → IfSome o Q
if_some P Q None h x = tt
if_some P Q (Some bytes) h x = h bytes x

pub whole_by : (Asked : Settings → Type 0) (first : List ℕ) (before after : Outside) (f : Failures) → RunsAsAsked Asked first before after f
    → f ≡ no_failure → before.ledger.sinks_report ≡ true → IfSome before.ledger.says (λ bytes. BridgeRunsWhole Asked first bytes before after)
whole_by Asked first before after f run e sinks_report =
    if_some (λ bytes. BridgeRunIsWhole run.settings first bytes before after) (λ bytes. BridgeRunsWhole Asked first bytes before after) before.ledger.says
    (λ bytes w. record { settings = run.settings; asked = run.asked; proper = run.proper; whole = w }) (run.runs.leaves.whole e sinks_report)
