-- A script as it is played, line by line.
use Rattle.std.specs.Prelude.{◌≡◌, ⊤, ℕ, List, [], true, false, Option, Some, None}
use Rattle.line_io.specs.Event.{Event}
use Rattle.line_io.specs.Lines.{Piece}
use Rattle.line_io.specs.Out.{Text, with}
use Rattle.script_lines.specs.Marks.{Mark, Happens}
use Rattle.replay_command_base.specs.declared.ending.Ending.{Ending}
use Rattle.replay_command_base.specs.declared.ending.Ending.TheVariants as endings
use Rattle.replay_command_base.specs.Putting.{Putting}
use Rattle.engine_revival.specs.declared.state.RevivalState.{RevivalState}
use Rattle.engine_revival.specs.Steps.{opening_revival}
use Rattle.engine_revival.specs.Script.{revival_event_text, may_happen, revival_state_after}
use Rattle.replay_commands_without_core.specs.Played.{ArePlayed, IsFirstUnplayed, revival_of_lines, state_over}

-- ONE LINE

-- an event was played, and its text was put
pub record IsPlayed (event : Event) (s : RevivalState) (held : Text) (s' : RevivalState)
    (held' : Text) : Type 0 where
  pub may_come : may_happen s event ≡ true
  pub state_is : s' ≡ revival_state_after s event
  pub put : held' ≡ with held (revival_event_text s event)

-- nothing was done
pub record IsSame (s : RevivalState) (held : Text) (s' : RevivalState) (held' : Text) : Type 0 where
  pub state_is : s' ≡ s
  pub put : held' ≡ held

-- it is a fault, and nothing was done
pub record MarkIsRefused (fault ending : Ending) (s : RevivalState) (held : Text) (s' : RevivalState)
    (held' : Text) : Type 0 where
  pub ending_is : ending ≡ fault
  pub same : IsSame s held s' held'

-- An event was played if it may come, and else it is a fault.
abbrev pub IsPlayedAs : ℕ → Event → Option Ending → RevivalState → Text → RevivalState → Text
    → Type 0
IsPlayedAs number event None s held s' held' = IsPlayed event s held s' held'
IsPlayedAs number event (Some ending) s held s' held' =
    (may_happen s event ≡ false) × MarkIsRefused (endings.MayNotCome number) ending s held s' held'

abbrev pub RevivePasses : Option Ending → RevivalState → Text → RevivalState → Text → Type 0
RevivePasses None s held s' held' = IsSame s held s' held'
RevivePasses (Some ending) s held s' held' = ⊥

abbrev pub HasNoMark : ℕ → Option Ending → RevivalState → Text → RevivalState → Text → Type 0
HasNoMark number None s held s' held' = ⊥
HasNoMark number (Some ending) s held s' held' =
    MarkIsRefused (endings.NoMark number) ending s held s' held'

-- the work on a line with this mark
abbrev pub MarkIsPlayed : ℕ → Option Mark → Option Ending → RevivalState → Text → RevivalState → Text
    → Type 0
MarkIsPlayed number (Some (Happens event)) result s held s' held' =
    IsPlayedAs number event result s held s' held'
MarkIsPlayed number (Some mark) result s held s' held' = RevivePasses result s held s' held'
MarkIsPlayed number None result s held s' held' = HasNoMark number result s held s' held'

-- THE LINES IN ORDER

-- these lines were played, and this is what is written for them
pub record HasPlayed (lives : ℕ) (lines : List Piece) (s : RevivalState)
    (text : List ℕ) : Type 0 where
  pub played : ArePlayed lives lines
  pub state_is : s ≡ state_over lives lines
  pub text_is : text ≡ revival_of_lines lives lines

-- the last of these lines is the first that is not played, and this is what is
-- written for those before it
pub record ReviveStops (lives : ℕ) (lines : List Piece) (fault : Ending) (text : List ℕ) : Type 0 where
  pub is_fault : IsFirstUnplayed lives lines fault
  pub text_is : text ≡ revival_of_lines lives is_fault.before

-- there are no more lines, and this is what is written for all
pub record ReviveCloses (lives : ℕ) (lines : List Piece) (text : List ℕ) : Type 0 where
  pub played : ArePlayed lives lines
  pub text_is : text ≡ revival_of_lines lives lines

abbrev pub ReviveEndsWith : ℕ → List Piece → Ending → List ℕ → Type 0
ReviveEndsWith lives lines (endings.NoMark n) text = ReviveStops lives lines (endings.NoMark n) text
ReviveEndsWith lives lines (endings.MayNotCome n) text = ReviveStops lives lines (endings.MayNotCome n) text
ReviveEndsWith lives lines endings.Done text = ReviveCloses lives lines text
ReviveEndsWith lives lines endings.ReadingFailed text = ReviveCloses lives lines text
ReviveEndsWith lives lines endings.TooLong text = ReviveCloses lives lines text
ReviveEndsWith lives lines ending text = ⊥

-- the text of a reviver that has played nothing, whatever number of lives may be begun
abbrev pub revives : Putting RevivalState
revives = record {
  put = λ s0 lines s text. (lives : ℕ) → s0 ≡ opening_revival lives → HasPlayed lives lines s text;
  says = λ s0 lines ending text. (lives : ℕ) → s0 ≡ opening_revival lives → ReviveEndsWith lives lines ending text;
  may = λ s. ⊤;
}
