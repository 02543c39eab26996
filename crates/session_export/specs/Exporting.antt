-- The text that an exporter puts for the steps of a session.
use Rattle.std.specs.Prelude.{ℕ, ◌+◌, List, [], ◌∷◌, ◌++◌, reverse, Option, Some, None}
use Rattle.line_io.specs.Event.{Event}
use Rattle.line_io.specs.Lines.{Piece}
use Rattle.chess_board.specs.Play.{start_position}
use Rattle.game_record.specs.Game.{Game, game_from}
use Rattle.policy_rules.specs.declared.setting_rules.settings.Settings.{Settings}
use Rattle.adapter_core.specs.Trace.{Step, state}
use Rattle.replay_command_base.specs.declared.ending.Ending.{Ending}
use Rattle.replay_command_base.specs.declared.ending.Ending.TheVariants as endings
use Rattle.script_replay.specs.Versions.{ScriptPlace, LineSaid, Comes, Passes, Starts}
use Rattle.script_replay.specs.Versions.{script_beginning, behind_header, header_lines}
use Rattle.script_replay.specs.Versions.{line_says, place_said, settings_by, version_in}

-- the game that was told last, and before the first step the one that the session has then
abbrev pub game_at : Option Game → Game
game_at None = game_from start_position
game_at (Some g) = g

-- The behaviour of an exporter.
pub record Exporting (T : Type 0) : Type 1 where
  -- so it is before the first step
  pub first : T
  -- this is the game that it was told last, if it was told one
  pub at : T → Option Game → Type 0
  -- the text of a step: of the number of its line, its event, the game told
  -- before, and the one after it
  pub step_text : ℕ → Event → Option Game → Game → List ℕ
  -- the text of the end, for this reason, after this game
  pub last_text : Ending → Game → List ℕ

-- WHICH LINES MARK EVENTS

-- the number of a line stands before those of later lines if it marks an event that may come
abbrev pub numbers_said : ℕ → LineSaid → List ℕ → List ℕ
numbers_said n (Comes e) later = n ∷ later
numbers_said n Passes later = later
numbers_said n (Starts step) later = later
numbers_said n fault later = []

-- the numbers of the lines that mark events, up to the first fault, if the
-- first line has this number
abbrev pub numbers_of : ℕ → ScriptPlace → List Piece → List ℕ
numbers_of n place [] = []
numbers_of n place (l ∷ ls) =
    numbers_said n (line_says place l)
    (numbers_of (n + 1) (place_said place (line_says place l)) ls)

-- Each event of a script has the number of its line. Open, the first, has no line, and the number
-- 0. The newest stands first.
abbrev pub event_lines : List Piece → List ℕ
event_lines lines =
    let v = version_in lines in
    reverse (0 ∷ numbers_of (1 + header_lines v) (script_beginning v) (behind_header v lines))

-- THE TEXT OF A SESSION

-- the game after these steps
abbrev pub game_of : Settings → List Step → Game
game_of o trace = (state o trace).desk.game

-- the game that was told of these steps
abbrev pub exported_game : Settings → List Step → Option Game
exported_game o [] = None
exported_game o (step ∷ trace) = Some (game_of o (step ∷ trace))

-- the texts of these steps, of which the newest stands first, and with it the number of its line
abbrev pub steps_text : {T : Type 0} → Exporting T → Settings → List ℕ → List Step → List ℕ
steps_text means o (n ∷ numbers) (step ∷ trace) =
    steps_text means o numbers trace
    ++ means.step_text n step.event (exported_game o trace) (game_of o (step ∷ trace))
steps_text means o numbers trace = []

-- the export of the session of these lines, if this is its trace
abbrev pub exported_text : {T : Type 0} → Exporting T → Settings → List Piece → List Step → List ℕ
exported_text means o lines trace =
    steps_text means (settings_by (version_in lines) o) (event_lines lines) trace

-- and of its end
abbrev pub text_with_end : {T : Type 0} → Exporting T → Ending → Settings → List Piece → List Step
    → List ℕ
text_with_end means ending o lines trace =
    exported_text means o lines trace
    ++ means.last_text ending (game_of (settings_by (version_in lines) o) trace)

-- The text that is due if no more lines are taken: what is exported of the session, and also of its
-- end for this reason, if it is not a line.
abbrev pub text_due : {T : Type 0} → Exporting T → Ending → Settings → List Piece → List Step → List ℕ
text_due means endings.Done o lines trace = text_with_end means endings.Done o lines trace
text_due means endings.ReadingFailed o lines trace =
    text_with_end means endings.ReadingFailed o lines trace
text_due means endings.TooLong o lines trace = text_with_end means endings.TooLong o lines trace
text_due means ending o lines trace = exported_text means o lines trace

-- if more may be taken, it is what is exported of the session so far
abbrev pub text_due_for : {T : Type 0} → Exporting T → Option Ending → Settings → List Piece
    → List Step → List ℕ
text_due_for means None o lines trace = exported_text means o lines trace
text_due_for means (Some ending) o lines trace = text_due means ending o lines trace
