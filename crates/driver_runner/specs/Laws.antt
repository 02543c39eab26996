-- Results that no whole run leaves, over a host that reports its bytes.
use Rattle.std.specs.Prelude.{◌≡◌, ℕ, List, [], ◌∷◌, ◌++◌, Some}
use Rattle.program_lifecycle.specs.Outside.{Outside}
use Rattle.cecp_driver.specs.Script.{script_text}
use Rattle.driver_runner.specs.Recorded.{DriverRunIsWhole}

-- an empty log
abbrev pub DriverLogIsNotEmpty : Type 0
DriverLogIsNotEmpty = (bytes : List ℕ) (before after : Outside) → DriverRunIsWhole bytes before after
    → after.ledger.logs ≡ Some [] ∷ [] → ⊥

-- a log with a byte after its script
abbrev pub DriverLogIsNotLonger : Type 0
DriverLogIsNotLonger = (bytes : List ℕ) (before after : Outside)
    (run : DriverRunIsWhole bytes before after) (byte : ℕ) (more : List ℕ)
    → after.ledger.logs ≡ Some (script_text run.events run.states ++ byte ∷ more) ∷ [] → ⊥
