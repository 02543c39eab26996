-- Results that no whole run leaves, over a host that reports its bytes.
use Rattle.std.specs.Prelude.{◌≡◌, ℕ, List, [], ◌∷◌, ◌++◌, Some}
use Rattle.program_lifecycle.specs.Outside.{Outside}
use Rattle.engine_revival.specs.Script.{revival_script}
use Rattle.reviver_runner.specs.Recorded.{ReviverRunIsWhole}

-- an empty log
abbrev pub ReviverLogIsNotEmpty : Type 0
ReviverLogIsNotEmpty =
    (number : ℕ) (bytes : List ℕ) (before after : Outside) → ReviverRunIsWhole number bytes before after
    → after.ledger.logs ≡ Some [] ∷ [] → ⊥

-- a log with a byte after its script
abbrev pub ReviverLogIsNotLonger : Type 0
ReviverLogIsNotLonger = (number : ℕ) (bytes : List ℕ) (before after : Outside)
    (run : ReviverRunIsWhole number bytes before after) (byte : ℕ) (more : List ℕ)
    → after.ledger.logs ≡ Some (revival_script number run.events ++ byte ∷ more) ∷ [] → ⊥
