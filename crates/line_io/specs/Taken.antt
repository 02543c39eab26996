-- The taking of the lines of an input.
use Rattle.std.specs.Prelude.{◌≡◌, ℕ, ◌+◌, ◌^◌, ◌<◌, ◌≤◌, List, []}
use Rattle.std.specs.Prelude.{◌++◌, length, Bool, true, IfSome}
use Rattle.std.specs.Io.KnownBytes.{IsAtEnd}
use Rattle.line_io.specs.Source.{Supplied}
use Rattle.line_io.specs.Causes.{Rose}
use Rattle.line_io.specs.Lines.{Piece, SourceGave, items}
use Rattle.line_io.specs.Runs.{whole}
use Rattle.line_io.specs.LineConsumers.{ConsumerMeaning}
use Rattle.line_io.specs.declared.consumer.LinesEnd.{LinesEnd}
use Rattle.line_io.specs.declared.consumer.LinesEnd.TheVariants as ends

-- a consumer, its output, and what the input shows
pub record Place (S O : Type 0) : Type 0 where
  pub consumer : S
  pub output : O
  pub input : Supplied

abbrev pub reading_place : {S O : Type 0} → S → O → Supplied → Place S O
reading_place s o i = record { consumer = s; output = o; input = i }

-- if the source reports its bytes, none is left
abbrev pub IsOver : Supplied → Supplied → Type 0
IsOver old new = IfSome old.left (λ _. IsAtEnd new.left)

-- The consumer stopped. The lines are a prefix of those of all bytes, whatever is left after those that
-- were given, and nothing is left if the end was seen.
pub record ConsumerStops {S O X : Type 0} (means : ConsumerMeaning S O X) (limit : ℕ) (stop : X) (given : List ℕ)
    (pieces : List Piece) (old new : Place S O) : Type 0 where
  pub stopped : means.stopped old.consumer old.output pieces stop new.consumer new.output
  pub ended : Bool
  pub prefix : (left : List ℕ) → (ended ≡ true → left ≡ [])
      → (more : List Piece) × (items limit (given ++ left) ≡ pieces ++ more)
  pub at_end : ended ≡ true → IsOver old.input new.input
  pub no_fault : new.input.faults ≡ old.input.faults

-- all lines were taken, up to the end of the input
pub record TakesAll {S O X : Type 0} (means : ConsumerMeaning S O X) (limit : ℕ) (given : List ℕ)
    (pieces : List Piece) (old new : Place S O) : Type 0 where
  pub took : means.took old.consumer old.output pieces new.consumer new.output
  pub all : pieces ≡ items limit given
  pub over : IsOver old.input new.input
  pub no_fault : new.input.faults ≡ old.input.faults

-- the lines that were whole were taken, up to a read that failed
pub record TakesToFault {S O X : Type 0} (means : ConsumerMeaning S O X) (limit : ℕ) (given : List ℕ)
    (pieces : List Piece) (old new : Place S O) : Type 0 where
  pub took : means.took old.consumer old.output pieces new.consumer new.output
  pub written : means.is_written new.consumer
  pub all : pieces ≡ whole limit given
  pub fault : Rose old.input.faults new.input.faults

-- the lines that were whole were taken, up to so many bytes
pub record TakesMany {S O X : Type 0} (means : ConsumerMeaning S O X) (limit : ℕ) (given : List ℕ)
    (pieces : List Piece) (old new : Place S O) : Type 0 where
  pub took : means.took old.consumer old.output pieces new.consumer new.output
  pub all : pieces ≡ whole limit given
  pub many : 2 ^ 32 ≤ length given
  pub no_fault : new.input.faults ≡ old.input.faults

-- the meaning of each ending
abbrev pub TakingEndsBy : {S O X : Type 0} → ConsumerMeaning S O X → ℕ → LinesEnd X → List ℕ → List Piece
    → Place S O → Place S O → Type 0
TakingEndsBy means limit (ends.Stopped stop) given pieces old new =
    ConsumerStops means limit stop given pieces old new
TakingEndsBy means limit ends.Ended given pieces old new = TakesAll means limit given pieces old new
TakingEndsBy means limit ends.ReadFailed given pieces old new =
    TakesToFault means limit given pieces old new
TakingEndsBy means limit ends.Endless given pieces old new = TakesMany means limit given pieces old new

-- The source gave some bytes, and their lines up to the stop were taken, each once and in order.
pub record Taken {S O X : Type 0} (means : ConsumerMeaning S O X) (limit : ℕ) (ending : LinesEnd X)
    (old new : Place S O) : Type 0 where
  pub given : List ℕ
  pub pieces : List Piece
  pub gave : SourceGave old.input new.input given
  -- so that their numbers fit
  pub few : length pieces + 1 < 2 ^ 64
  pub ends : TakingEndsBy means limit ending given pieces old new
