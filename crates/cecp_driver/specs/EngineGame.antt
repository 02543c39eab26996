-- The game of the engine, as the lines that are written to it and its own moves make it.
use Rattle.std.specs.Prelude.{◌≡◌, ◌⊎◌, ℕ, ◌<◌, List, [], ◌∷◌, length, Bool}
use Rattle.std.specs.Prelude.{true, false, Option, Some, None, IfSome}
use Rattle.std.specs.List.{AllByRecursion}
use Rattle.chess_board.specs.declared.board.Move.{Move}
use Rattle.chess_board.specs.Position.{Position}
use Rattle.chess_board.specs.Play.{start_position}
use Rattle.game_record.specs.Game.{Ply, Game, IsPlayablePly, game_from, current_position, ply_of, with_ply}
use Rattle.game_record.specs.Keeps.{most_plies}
use Rattle.line_io.specs.Event.{Event, Engine}
use Rattle.driver_state_machine.specs.declared.driver_state.DriverStage.{DriverStage}
use Rattle.driver_state_machine.specs.declared.driver_state.DriverStage.TheVariants as stages
use Rattle.driver_state_machine.specs.DriverState.{is_thinking}
use Rattle.driver_state_machine.specs.Lines.{DownLine, Quit, New, SetBoard, Played, Go, Analyze, lines_text}
use Rattle.driver_state_machine.specs.Says.{EngineMessageSeen, Move as SaysMove, says_in}
use Rattle.driver_state_machine.specs.Moves.{EngineMoveIs}
use Rattle.cecp_driver.specs.declared.driver.DriverParts.{DriverParts}
use Rattle.cecp_driver.specs.Driver.{opening_driver}
use Rattle.cecp_driver.specs.Said.{EngineLineCanBeRead}
use Rattle.cecp_driver.specs.Script.{DriverTakesAll}

-- the effect of a line on the game of an engine: `new`, `setboard` and moves set
-- it, and nothing else does
abbrev pub game_set_by : Game → DownLine → Game
game_set_by g New = game_from start_position
game_set_by g (SetBoard p) = game_from p
game_set_by g (Played has_usermove m) = with_ply g m
game_set_by g line = g

abbrev pub set_by_all : Game → List DownLine → Game
set_by_all g [] = g
set_by_all g (line ∷ lines) = set_by_all (game_set_by g line) lines

-- At each `go` and each `analyze` among these lines the engine's game is the ordered one.
abbrev pub SearchesOn : Game → Game → List DownLine → Type 0
SearchesOn ordered g [] = Unit {0}
SearchesOn ordered g (Go ∷ lines) = (g ≡ ordered) × SearchesOn ordered g lines
SearchesOn ordered g (Analyze ∷ lines) = (g ≡ ordered) × SearchesOn ordered g lines
SearchesOn ordered g (line ∷ lines) = SearchesOn ordered (game_set_by g line) lines

-- a move is legal in a game, and the game has fewer moves than a game may have
abbrev pub CanPlay : Game → Ply → Type 0
CanPlay g m = IsPlayablePly (current_position g) m × (length g.moves < most_plies)

-- a move can be played in the engine's game; all other lines can be taken
abbrev pub EngineCanTakeLine : Game → DownLine → Type 0
EngineCanTakeLine g (Played has_usermove m) = CanPlay g m
EngineCanTakeLine g line = Unit {0}

abbrev pub AllFollow : Game → List DownLine → Type 0
AllFollow g [] = Unit {0}
AllFollow g (line ∷ lines) = EngineCanTakeLine g line × AllFollow (game_set_by g line) lines

abbrev pub IsNoQuit : DownLine → Type 0
IsNoQuit Quit = ⊥
IsNoQuit line = Unit {0}

-- the interface gave `quit`, or ended
abbrev pub interface_is_gone : DriverStage → Bool
interface_is_gone stages.Over = true
interface_is_gone stage = false

-- `quit` is written alone, if the interface gives it, and nothing after it: by whether it
-- was given before, and now
abbrev pub DriverQuitIsLast : Bool → Bool → List DownLine → Type 0
DriverQuitIsLast true now lines = (lines ≡ []) × (now ≡ true)
DriverQuitIsLast false true lines = (lines ≡ []) ⊎ (lines ≡ Quit ∷ [])
DriverQuitIsLast false false lines = AllByRecursion IsNoQuit lines

abbrev pub OwnBy : EngineMessageSeen → Bool → Position → Option Move → Type 0
OwnBy (SaysMove text) true p own = EngineMoveIs p text own
OwnBy (SaysMove text) false p own = own ≡ None
OwnBy said thinks p own = own ≡ None

-- the engine's own move in an event: a legal one after `move`, if it thinks on its move
abbrev pub IsOwn : Event → DriverParts → Option Move → Type 0
IsOwn (Engine line) v own = OwnBy (says_in line) (is_thinking v.talk) (current_position v.game) own
IsOwn event v own = own ≡ None

abbrev pub with_own : Game → Option Move → Game
with_own g None = g
with_own g (Some m) = with_ply g (ply_of m)

-- The lines that were written for an event, and the engine's game before and after.
pub record Sets (event : Event) (v v' : DriverParts) (g g' : Game) : Type 0 where
  pub lines : List DownLine
  pub written : v'.down.text ≡ lines_text lines
  pub said : AllByRecursion EngineLineCanBeRead lines
  pub on : SearchesOn v'.game g lines
  -- each move that is written is legal in the engine's game
  pub follow : AllFollow g lines
  pub quit : DriverQuitIsLast (interface_is_gone v.talk.stage) (interface_is_gone v'.talk.stage) lines
  pub own : Option Move
  pub is_own : IsOwn event v own
  pub own_legal : IfSome own (λ m. CanPlay (set_by_all g lines) (ply_of m))
  pub after : g' ≡ with_own (set_by_all g lines) own

-- the same for each of a list of events
abbrev pub AllOn : DriverParts → Game → List Event → List DriverParts → Type 0
AllOn v g [] after = Unit {0}
AllOn v g (event ∷ events) [] = Unit {0}
AllOn v g (event ∷ events) (v' ∷ later) =
    (g' : Game) × (Sets event v v' g g' × AllOn v' g' events later)

-- Whatever game the engine had before, it searches on the ordered games alone.
abbrev pub SearchesTheOrdered : Type 0
SearchesTheOrdered =
    (events : List Event) (after : List DriverParts) (g : Game) → DriverTakesAll opening_driver events after
    → AllOn opening_driver g events after
