-- The behaviour of the program.
use Rattle.std.specs.Prelude.{◌≡◌, ℕ, ◌≤◌, List, [], ◌∷◌, codes}
use Rattle.program_lifecycle.specs.declared.failures.Failures.{Failures}
use Rattle.program_lifecycle.specs.Outside.{Outside}
use Rattle.reviver_runner.specs.Ran.{ReviverLeaves}
use Rattle.reviver_runner.specs.Recorded.{ReviverRunIsWhole}
use Rattle.reviver_runner.specs.Arguments.{digit_of}

-- the name of the program, which stands in a diagnostic
abbrev pub program : List ℕ
program = codes "reviver"

-- the first word gives the number of lives
abbrev pub GivesLives : List (List ℕ) → ℕ → Type 0
GivesLives [] lives = ⊥
GivesLives (argument ∷ arguments) lives = argument ≡ digit_of lives

-- The result of a run of as many lives at most as the arguments say, which are nine or fewer.
pub record LeavesFor (arguments : List (List ℕ)) (before after : Outside)
    (failures : Failures) : Type 0 where
  pub lives : ℕ
  pub given : GivesLives arguments lives
  pub few : lives ≤ 9
  pub left : ReviverLeaves lives before after failures

-- The whole run of as many lives at most as the arguments say, in which nothing failed, over a host
-- whose engines say these bytes.
pub record ReviverRunsWhole (arguments : List (List ℕ)) (bytes : List ℕ)
    (before after : Outside) : Type 0 where
  pub lives : ℕ
  pub given : GivesLives arguments lives
  pub whole : ReviverRunIsWhole lives bytes before after
