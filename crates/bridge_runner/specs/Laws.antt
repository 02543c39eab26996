-- Results that no whole run leaves, over a host that reports its bytes.
use Rattle.std.specs.Prelude.{◌≡◌, ℕ, List, [], ◌∷◌, ◌++◌, Some}
use Rattle.program_lifecycle.specs.Outside.{Outside}
use Rattle.policy_rules.specs.declared.setting_rules.settings.Settings.{Settings}
use Rattle.trace_scripts.specs.Script.{script2}
use Rattle.bridge_runner.specs.Recorded.{BridgeRunIsWhole}

-- an empty log
abbrev pub BridgeLogIsNotEmpty : Type 0
BridgeLogIsNotEmpty =
    (settings : Settings) (first bytes : List ℕ) (before after : Outside)
    → BridgeRunIsWhole settings first bytes before after
    → after.ledger.logs ≡ Some [] ∷ [] → ⊥

-- a log with a byte after its script
abbrev pub BridgeLogIsNotLonger : Type 0
BridgeLogIsNotLonger = (settings : Settings) (first bytes : List ℕ) (before after : Outside)
    (run : BridgeRunIsWhole settings first bytes before after) (byte : ℕ) (more : List ℕ)
    → after.ledger.logs ≡ Some (script2 settings run.trace ++ byte ∷ more) ∷ [] → ⊥
