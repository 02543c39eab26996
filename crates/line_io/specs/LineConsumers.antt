-- The consumer of lines, and its behaviour with one.
use Rattle.std.specs.Prelude.{◌≡◌, ℕ, ◌+◌, List, [], ◌∷◌, ◌++◌, length, Option, Some, None}
use Rattle.line_io.specs.Lines.{Piece}

-- The states of a consumer of lines and of its output, from what both were before the first line.
pub record ConsumerMeaning (S O X : Type 0) : Type 1 where
  -- after these lines
  pub took : S → O → List Piece → S → O → Type 0
  -- after these lines, if it stopped at the last of them or after it
  pub stopped : S → O → List Piece → X → S → O → Type 0
  -- It may take a line. This holds from the first line to a stop.
  pub may : S → Type 0
  -- nothing is left to write
  pub is_written : S → Type 0

-- after these lines, and a stop if one came
abbrev pub ConsumerThen : {S O X : Type 0} → ConsumerMeaning S O X → S → O → List Piece → Option X → S → O → Type 0
ConsumerThen means s0 o0 pieces None s o = means.took s0 o0 pieces s o
ConsumerThen means s0 o0 pieces (Some stop) s o = means.stopped s0 o0 pieces stop s o

-- Whatever lines were taken, one more was, of the next number.
abbrev pub TakesOneMore : {S O X : Type 0} → ConsumerMeaning S O X → ℕ → Piece → Option X → S → O → S → O → Type 0
TakesOneMore {S} {O} {X} means number piece result s o s' o' =
    (s0 : S) (o0 : O) (pieces : List Piece) → means.took s0 o0 pieces s o
    → number ≡ length pieces + 1
    → ConsumerThen means s0 o0 (pieces ++ piece ∷ []) result s' o'

-- Whatever lines were taken, no more were.
abbrev pub KeepsTaken : {S O X : Type 0} → ConsumerMeaning S O X → Option X → S → O → S → O → Type 0
KeepsTaken {S} {O} {X} means result s o s' o' =
    (s0 : S) (o0 : O) (pieces : List Piece) → means.took s0 o0 pieces s o
    → ConsumerThen means s0 o0 pieces result s' o'
