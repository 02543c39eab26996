-- Results that no whole run leaves, over a host that reports its bytes.
use Rattle.std.specs.Prelude.{◌≡◌, ℕ, List, [], ◌∷◌, ◌++◌, Some}
use Rattle.program_lifecycle.specs.Outside.{Outside}
use Rattle.tap_runner.specs.Marks.{log_text}
use Rattle.tap_runner.specs.Recorded.{TapRunIsWhole}

-- an empty log
abbrev pub TapLogIsNotEmpty : Type 0
TapLogIsNotEmpty = (bytes : List ℕ) (before after : Outside) → TapRunIsWhole bytes before after
    → after.ledger.logs ≡ Some [] ∷ [] → ⊥

-- a log with a byte after its marks
abbrev pub TapLogIsNotLonger : Type 0
TapLogIsNotLonger = (bytes : List ℕ) (before after : Outside) (run : TapRunIsWhole bytes before after)
    (byte : ℕ) (more : List ℕ)
    → after.ledger.logs ≡ Some (log_text run.messages ++ byte ∷ more) ∷ [] → ⊥
