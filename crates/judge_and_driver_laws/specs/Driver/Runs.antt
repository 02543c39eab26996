-- The lines that are written along a run, as a bridge takes those of an interface.
use Rattle.std.specs.Prelude.{◌≡◌, ℕ, List, [], ◌∷◌, ◌++◌, codes, false, Option, Some, None}
use Rattle.std.specs.List.{AllByRecursion}
use Rattle.line_io.specs.Event.{Event, Iface, has_feed}
use Rattle.chess_board.specs.declared.board.Move.{Move}
use Rattle.chess_board.specs.Text.{text_of_move}
use Rattle.game_record.specs.Game.{Game}
use Rattle.cecp_lines.specs.Messages.{IfaceMsg}
use Rattle.cecp_lines.specs.Messages as says
use Rattle.cecp_lines.specs.Reading.{SpellsIfaceMsg}
use Rattle.policy_rules.specs.declared.setting_rules.settings.Settings.{Settings}
use Rattle.adapter_core.specs.Alone.{commanded_alone}
use Rattle.driver_state_machine.specs.Lines.{up_line_with_feed}
use Rattle.cecp_driver.specs.declared.driver.DriverParts.{DriverParts}
use Rattle.cecp_driver.specs.Driver.{opening_driver}
use Rattle.cecp_driver.specs.EngineGame.{IsOwn}
use Rattle.cecp_driver.specs.Script.{DriverTakesAll}

-- LINES

-- a line that was written, and the message that it spells
pub record Spoken : Type 0 where
  pub text : List ℕ
  pub msg : IfaceMsg

-- the text is one line, and spells the message
abbrev pub LineIsMessage : Spoken → Type 0
LineIsMessage s = (has_feed s.text ≡ false) × SpellsIfaceMsg s.text s.msg

-- the texts of these lines, each with its line feed
abbrev pub spoken_text : List Spoken → List ℕ
spoken_text [] = []
spoken_text (s ∷ ss) = up_line_with_feed s.text ++ spoken_text ss

-- THE ENGINE AS A BRIDGE

-- the lines as events of an interface, the newest first, and those that came before
abbrev pub with_lines : List Event → List Spoken → List Event
with_lines taken [] = taken
with_lines taken (s ∷ ss) = with_lines (Iface s.text ∷ taken) ss

-- the engine's own move as the line by which an interface would play it
abbrev pub with_move : List Event → Option Move → List Event
with_move taken None = taken
with_move taken (Some m) = Iface (codes "usermove " ++ text_of_move m) ∷ taken

-- the game of a bridge that took these events, the newest first, and whose own engine says nothing
abbrev pub game_held : Settings → List Event → Game
game_held o taken = (commanded_alone o taken).desk.game

-- if a message begins a search, the engine's game is the ordered one
abbrev pub SearchBeginsAt : Game → Game → IfaceMsg → Type 0
SearchBeginsAt ordered g says.Go = g ≡ ordered
SearchBeginsAt ordered g says.Analyze = g ≡ ordered
SearchBeginsAt ordered g msg = Unit {0}

abbrev pub SearchesHeld : Settings → Game → List Event → List Spoken → Type 0
SearchesHeld o ordered taken [] = Unit {0}
SearchesHeld o ordered taken (s ∷ ss) =
    SearchBeginsAt ordered (game_held o taken) s.msg
    × SearchesHeld o ordered (Iface s.text ∷ taken) ss

-- RUNS

-- The text written to the engine for an event, and what it has taken before and after.
pub record EngineHears (o : Settings) (event : Event) (v v' : DriverParts)
    (taken taken' : List Event) : Type 0 where
  pub spoken : List Spoken
  pub written : v'.down.text ≡ spoken_text spoken
  pub spelled : AllByRecursion LineIsMessage spoken
  pub on : SearchesHeld o v'.game taken spoken
  pub own : Option Move
  pub is_own : IsOwn event v own
  pub after : taken' ≡ with_move (with_lines taken spoken) own

-- the same for each of a list of events
abbrev pub AllHeard : Settings → DriverParts → List Event → List Event → List DriverParts → Type 0
AllHeard o v taken [] after = Unit {0}
AllHeard o v taken (event ∷ events) [] = Unit {0}
AllHeard o v taken (event ∷ events) (v' ∷ later) =
    (taken' : List Event) × (EngineHears o event v v' taken taken' × AllHeard o v' taken' events later)

-- Whatever was taken before, unless it closed the session, each search begins on the ordered game.
abbrev pub HearsTheOrdered : Type 0
HearsTheOrdered =
    (o : Settings) (before events : List Event) (after : List DriverParts)
    → (commanded_alone o before).ends.closed ≡ false → DriverTakesAll opening_driver events after
    → AllHeard o opening_driver before events after
