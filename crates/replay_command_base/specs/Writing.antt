-- Lines that a line filter takes, and its text on the way to the output.
use mathlib.Core.Logic.{inl, inr}
use Rattle.std.specs.Prelude.{◌≡◌, ◌⊎◌, ⊤, ℕ, ◌<◌, List, [], ◌++◌, length}
use Rattle.std.specs.Prelude.{take, Bool, true, false, Option, Some, None}
use Rattle.std.specs.Io.KnownBytes.{Appends}
use Rattle.line_io.specs.Causes.{Rose}
use Rattle.line_io.specs.Lines.{Piece}
use Rattle.line_io.specs.Out.{Text}
use Rattle.line_io.specs.Source.{Received, TakesPrefix}
use Rattle.line_io.specs.LineConsumers.{ConsumerMeaning}
use Rattle.replay_command_base.specs.declared.ending.Ending.{Ending}
use Rattle.replay_command_base.specs.declared.ending.Ending.TheVariants as endings
use Rattle.replay_command_base.specs.Putting.{Putting, IsOfLine, IsVerdict}
use Rattle.replay_command_base.specs.Filtered.{IsText}
use Rattle.replay_command_base.specs.declared.limits.TheConstants.{TEXT_ROOM}

-- A prefix of what was held was written, and the rest is held.
pub record Moved (held held' : Text) (before after : Received) : Type 0 where
  pub prefix : List ℕ
  pub appended : Appends before.taken after.taken prefix
  pub rest : prefix ++ held'.text ≡ held.text
  pub room : held'.room ≡ held.room
  pub no_failure : after.faults ≡ before.faults

-- A write failed, and a prefix of what was held was written.
pub record Cut (held : List ℕ) (before after : Received) : Type 0 where
  pub some : 0 < length held
  pub part : TakesPrefix before.taken after.taken held
  pub failure : Rose before.faults after.faults

-- a line may be taken
abbrev pub FilterMayTake : {S : Type 0} → Putting S → S → Text → Type 0
FilterMayTake means s held = means.may s × (held.room ≡ TEXT_ROOM)

-- The line filter took these lines, and their text was written except what is held.
pub record FilterTook {S : Type 0} (means : Putting S) (s0 : S) (lines : List Piece) (s : S)
    (held : Text) (before after : Received) : Type 0 where
  pub text : List ℕ
  pub put : means.put s0 lines s text
  pub may : FilterMayTake means s held
  pub written : List ℕ
  pub appended : Appends before.taken after.taken written
  pub all : written ++ held.text ≡ text
  pub no_failure : after.faults ≡ before.faults

-- It takes no line after these, and their text was written except what is held.
pub record Said {S : Type 0} (means : Putting S) (s0 : S) (lines : List Piece) (ending : Ending)
    (held : List ℕ) (before after : Received) : Type 0 where
  pub text : List ℕ
  pub says : means.says s0 lines ending text
  pub written : List ℕ
  pub appended : Appends before.taken after.taken written
  pub all : written ++ held ≡ text
  pub no_failure : after.faults ≡ before.faults

-- If no more lines are taken, that is for such a reason. If more are, this is so.
abbrev pub HasReason : {P : Type 0} → {Q : Ending → Type 0} → Type 0 → (Ending → Type 0)
    → P ⊎ ((ending : Ending) × Q ending) → Type 0
HasReason Goes Why (inl p) = Goes
HasReason Goes Why (inr p) = Why p.0

-- A write failed, and the output got a prefix of the text of the first of these lines, or of all of
-- them with what is put last for such a reason.
pub record FilterBroke {S : Type 0} (means : Putting S) (s0 : S) (Goes : Type 0)
    (Why : Ending → Type 0) (pieces : List Piece) (before after : Received) : Type 0 where
  pub lines : List Piece
  pub more : List Piece
  pub first : pieces ≡ lines ++ more
  pub text : List ℕ
  pub is_text : IsText means s0 lines text
  pub reason : HasReason Goes (λ e. Why e × (more ≡ [])) is_text
  pub some : 0 < length text
  pub prefix : ℕ
  pub appended : Appends before.taken after.taken (take prefix text)
  pub failure : Rose before.faults after.faults

-- a line, or a write that failed, ended it
abbrev pub FilterHalted : {S : Type 0} → Putting S → S → Ending → List Piece → List ℕ → Received
    → Received → Type 0
FilterHalted means s0 ending lines held before after =
    ((ending ≡ endings.WritingFailed) × FilterBroke means s0 ⊤ IsOfLine lines before after)
    ⊎ (IsOfLine ending × Said means s0 lines ending held before after)

-- All was written and this is the ending, or a write failed. If it failed before that was put which
-- comes last, this was so.
abbrev pub FilterFinished : {S : Type 0} → Putting S → S → List Piece → Type 0 → Ending → Ending
    → Received → Received → Type 0
FilterFinished means s0 lines Early ending answer before after =
    ((answer ≡ ending) × Said means s0 lines ending [] before after)
    ⊎ ((answer ≡ endings.WritingFailed)
    × FilterBroke means s0 Early (λ e. e ≡ ending) lines before after)

-- the same of what comes of the end of the input; before that, only a text that was held is written
pub record FilterEnded {S : Type 0} (means : Putting S) (s0 : S) (lines : List Piece)
    (held : List ℕ) (ending answer : Ending) (before after : Received) : Type 0 where
  pub verdict : Ending
  pub is_verdict : IsVerdict ending verdict
  pub finished : FilterFinished means s0 lines (0 < length held) verdict answer before after

-- if a line ended it
abbrev pub FilterLeft : {S : Type 0} → Putting S → S → List Piece → Ending → Ending → Received → Received
    → Type 0
FilterLeft means s0 lines ending answer before after =
    ((answer ≡ ending) × IsOfLine ending × Said means s0 lines ending [] before after)
    ⊎ ((answer ≡ endings.WritingFailed) × FilterBroke means s0 ⊤ IsOfLine lines before after)

-- after these lines, or if the last of them ended it
abbrev pub FilterAfterLine : {S : Type 0} → Putting S → S → List Piece → Option Ending → S → Text → Received
    → Received → Type 0
FilterAfterLine means s0 lines None s held before after = FilterTook means s0 lines s held before after
FilterAfterLine means s0 lines (Some ending) s held before after =
    FilterHalted means s0 ending lines held.text before after

-- a write failed
abbrev pub did_write_fail : Ending → Bool
did_write_fail endings.WritingFailed = true
did_write_fail ending = false

-- the meaning of a line filter and its text, in a consumer of lines that has both
abbrev pub filter_meaning : {W S O : Type 0} → (W → S) → (W → Text) → Putting S → (O → Received)
    → ConsumerMeaning W O Ending
filter_meaning line_filter text means see = record {
  took =
      λ w0 output0 lines w output. FilterTook means (line_filter w0) lines (line_filter w) (text w) (see output0)
      (see output);
  stopped =
      λ w0 output0 lines ending w output. FilterHalted means (line_filter w0) ending lines (text w).text
      (see output0) (see output);
  may = λ w. FilterMayTake means (line_filter w) (text w);
  is_written = λ w. (text w).text ≡ [];
}
