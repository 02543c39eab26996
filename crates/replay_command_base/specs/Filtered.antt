-- The text that a line filter has written of an input.
use mathlib.Core.Logic.{inl, inr}
use Rattle.std.specs.Prelude.{◌≡◌, ◌⊎◌, ⊤, ℕ, ◌^◌, ◌≤◌, ◌<◌, List, length, take}
use Rattle.std.specs.Prelude.{Option, Some, None, IfSome}
use Rattle.std.specs.Io.KnownBytes.{Appends}
use Rattle.line_io.specs.Causes.{Rose}
use Rattle.line_io.specs.Lines.{Piece, items}
use Rattle.line_io.specs.Runs.{whole}
use Rattle.line_io.specs.Source.{Supplied}
use Rattle.replay_command_base.specs.declared.ending.Ending.{Ending}
use Rattle.replay_command_base.specs.declared.ending.Ending.TheVariants as endings
use Rattle.replay_command_base.specs.Reads.{Got, IsAll, AreFirst, AreRead}
use Rattle.replay_command_base.specs.Streams.{FilterStreams}
use Rattle.replay_command_base.specs.Putting.{Putting}
use Rattle.line_io.specs.declared.limits.TheConstants.{SCRIPT_LINE}

-- All of the input was read, and the text of its lines was written.
pub record WroteAll {S : Type 0} (means : Putting S) (s0 : S) (start now : FilterStreams) : Type 0 where
  pub got : List ℕ
  pub reads : Got start now got
  pub all : IsAll start.input.left got
  pub text : List ℕ
  pub says : means.says s0 (items SCRIPT_LINE got) endings.Done text
  pub written : Appends start.output.taken now.output.taken text

-- The text of all whole lines that were got was written.
pub record WroteWhole {S : Type 0} (means : Putting S) (s0 : S) (ending : Ending) (least : ℕ)
    (start now : FilterStreams) : Type 0 where
  pub got : List ℕ
  pub reads : Got start now got
  pub least_is : least ≤ length got
  pub first : AreFirst start.input.left (whole SCRIPT_LINE got)
  pub text : List ℕ
  pub says : means.says s0 (whole SCRIPT_LINE got) ending text
  pub written : Appends start.output.taken now.output.taken text

-- The text of the first lines was written, up to the one that is the reason to end.
pub record WroteTo {S : Type 0} (means : Putting S) (s0 : S) (ending : Ending)
    (start now : FilterStreams) : Type 0 where
  pub lines : List Piece
  pub read : AreRead start now lines
  pub text : List ℕ
  pub says : means.says s0 lines ending text
  pub written : Appends start.output.taken now.output.taken text

-- the text of these lines, whether or not more are taken
abbrev pub IsText : {S : Type 0} → Putting S → S → List Piece → List ℕ → Type 0
IsText {S} means s0 lines text =
    ((s : S) × means.put s0 lines s text) ⊎ ((ending : Ending) × means.says s0 lines ending text)

-- why no more lines are taken, if the text is that of such a reason
abbrev pub why_of : {P : Type 0} → {Q : Ending → Type 0} → P ⊎ ((ending : Ending) × Q ending)
    → Option Ending
why_of (inl p) = None
why_of (inr p) = Some p.0

-- the lines are all that the input had left, if it tells
abbrev pub AreAll : Option (List ℕ) → List Piece → Type 0
AreAll left lines = IfSome left (λ x. items SCRIPT_LINE x ≡ lines)

-- Which lines of the bytes got are the last: at the end of the input all, and if reading failed, or
-- the input is too long, all whole ones.
abbrev pub AreLast : Option (List ℕ) → List ℕ → List Piece → Ending → Type 0
AreLast left got lines endings.Done = IsAll left got × (lines ≡ items SCRIPT_LINE got)
AreLast left got lines endings.ReadingFailed = lines ≡ whole SCRIPT_LINE got
AreLast left got lines endings.TooLong = (lines ≡ whole SCRIPT_LINE got) × (2 ^ 32 ≤ length got)
AreLast left got lines ending = ⊤

-- the input's count of faults rose if reading failed, and is else as before
abbrev pub CountsReading : Ending → Supplied → Supplied → Type 0
CountsReading endings.ReadingFailed before after = Rose before.faults after.faults
CountsReading ending before after = after.faults ≡ before.faults

-- No more lines than these, of the bytes got, were taken, for this reason.
pub record EndsRightly (start now : FilterStreams) (got : List ℕ) (lines : List Piece)
    (ending : Ending) : Type 0 where
  pub last : AreLast start.input.left got lines ending
  pub count : CountsReading ending start.input now.input

-- Why no more lines than these were taken: such an ending, or (`None`) a write that failed amid
-- them. The input's count of faults rose if that is that reading failed, and is else as before.
abbrev pub EndsFor : Option Ending → FilterStreams → FilterStreams → List ℕ → List Piece → Type 0
EndsFor (Some ending) start now got lines = EndsRightly start now got lines ending
EndsFor None start now got lines = now.input.faults ≡ start.input.faults

-- A write to the output failed, which had taken a prefix of the text of the first lines.
pub record WrotePrefix {S : Type 0} (means : Putting S) (s0 : S) (start now : FilterStreams) : Type 0 where
  pub lines : List Piece
  pub read : AreRead start now lines
  pub text : List ℕ
  pub is_text : IsText means s0 lines text
  pub reason : EndsFor (why_of is_text) start now read.got lines
  pub some : 0 < length text
  pub prefix : ℕ
  pub written : Appends start.output.taken now.output.taken (take prefix text)
  pub failure : Rose start.output.faults now.output.faults

-- the meaning of each ending
abbrev pub Filtered : {S : Type 0} → Putting S → S → Ending → FilterStreams → FilterStreams → Type 0
Filtered means s0 endings.Done start now = WroteAll means s0 start now
Filtered means s0 (endings.Differs n) start now = WroteTo means s0 (endings.Differs n) start now
Filtered means s0 (endings.Unlawful n) start now = WroteTo means s0 (endings.Unlawful n) start now
Filtered means s0 (endings.NoMark n) start now = WroteTo means s0 (endings.NoMark n) start now
Filtered means s0 (endings.OutOfStep n) start now = WroteTo means s0 (endings.OutOfStep n) start now
Filtered means s0 (endings.MayNotCome n) start now =
    WroteTo means s0 (endings.MayNotCome n) start now
Filtered means s0 endings.ReadingFailed start now =
    WroteWhole means s0 endings.ReadingFailed 0 start now
Filtered means s0 endings.TooLong start now = WroteWhole means s0 endings.TooLong (2 ^ 32) start now
Filtered means s0 endings.WritingFailed start now = WrotePrefix means s0 start now
Filtered means s0 ending start now = ⊥

-- lack of memory leaves the input and the output untouched
abbrev pub FilterEndsBy : {S : Type 0} → Putting S → S → Type 0 → Ending → FilterStreams → FilterStreams → Type 0
FilterEndsBy means s0 untouched endings.NoMemory start now = untouched
FilterEndsBy means s0 untouched ending start now = Filtered means s0 ending start now
