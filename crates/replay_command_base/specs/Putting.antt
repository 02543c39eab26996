-- The text that a line filter puts for the lines that it takes.
use Rattle.std.specs.Prelude.{◌≡◌, ◌⊎◌, ⊤, ℕ, ◌+◌, List, [], ◌∷◌, ◌++◌, length, Option, Some, None}
use Rattle.line_io.specs.Lines.{Piece}
use Rattle.line_io.specs.Out.{Text, with}
use Rattle.replay_command_base.specs.declared.ending.Ending.{Ending}
use Rattle.replay_command_base.specs.declared.ending.Ending.TheVariants as endings

-- The behaviour of a line filter, from what it was before the first line.
pub record Putting (S : Type 0) : Type 1 where
  -- it took these lines and is now so, and this is their text
  pub put : S → List Piece → S → List ℕ → Type 0
  -- after these lines it takes no more, for this reason, and this is their text
  pub says : S → List Piece → Ending → List ℕ → Type 0
  -- It may take a line. This holds from the first line to a stop.
  pub may : S → Type 0

-- the endings of which a line is the reason
abbrev pub IsOfLine : Ending → Type 0
IsOfLine (endings.Differs n) = ⊤
IsOfLine (endings.Unlawful n) = ⊤
IsOfLine (endings.NoMark n) = ⊤
IsOfLine (endings.OutOfStep n) = ⊤
IsOfLine (endings.MayNotCome n) = ⊤
IsOfLine ending = ⊥

-- the ending, if a line is the reason
abbrev pub ending_of_line : Ending → Option Ending
ending_of_line (endings.Differs n) = Some (endings.Differs n)
ending_of_line (endings.Unlawful n) = Some (endings.Unlawful n)
ending_of_line (endings.NoMark n) = Some (endings.NoMark n)
ending_of_line (endings.OutOfStep n) = Some (endings.OutOfStep n)
ending_of_line (endings.MayNotCome n) = Some (endings.MayNotCome n)
ending_of_line ending = None

abbrev pub reason_of_line : Option Ending → Option Ending
reason_of_line None = None
reason_of_line (Some ending) = ending_of_line ending

-- the endings of which no line is the reason, and after which a text may stand
abbrev pub IsInputEnd : Ending → Type 0
IsInputEnd endings.Done = ⊤
IsInputEnd endings.ReadingFailed = ⊤
IsInputEnd endings.TooLong = ⊤
IsInputEnd ending = ⊥

-- after these lines, or if the last of them ended it
abbrev pub FilterThen : {S : Type 0} → Putting S → S → List Piece → Option Ending → S → List ℕ → Type 0
FilterThen means s0 lines None s text = means.put s0 lines s text
FilterThen means s0 lines (Some ending) s text = means.says s0 lines ending text

-- Whatever lines were taken, one more was, of the next number, and this was put for it.
pub record Puts {S : Type 0} (means : Putting S) (number : ℕ) (piece : Piece)
    (result : Option Ending) (s : S) (held : Text) (s' : S) (held' : Text) : Type 0 where
  pub more : List ℕ
  pub put : held' ≡ with held more
  pub goes : (s0 : S) (lines : List Piece) (text : List ℕ) → means.put s0 lines s text
      → number ≡ length lines + 1 → FilterThen means s0 (lines ++ piece ∷ []) result s' (text ++ more)

-- Whatever lines were taken, no more are, and this was put last.
pub record FilterCloses {S : Type 0} (means : Putting S) (ending : Ending) (s : S)
    (held held' : Text) : Type 0 where
  pub more : List ℕ
  pub put : held' ≡ with held more
  pub says : (s0 : S) (lines : List Piece) (text : List ℕ) → means.put s0 lines s text
      → means.says s0 lines ending (text ++ more)

-- What comes of an end of the input: the end itself, or if all was read a line that is to blame.
abbrev pub IsVerdict : Ending → Ending → Type 0
IsVerdict ending verdict = (verdict ≡ ending) ⊎ ((ending ≡ endings.Done) × IsOfLine verdict)
