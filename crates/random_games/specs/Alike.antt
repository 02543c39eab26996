-- A drill has one line.
use Rattle.std.specs.Prelude.{◌≡◌, ℕ, List}
use Rattle.random_games.specs.Played.{Drills}

abbrev pub DrillsAreOne : Type 0
DrillsAreOne =
    (number count : ℕ) (line line' : List ℕ) → Drills number count line → Drills number count line'
    → line ≡ line'
