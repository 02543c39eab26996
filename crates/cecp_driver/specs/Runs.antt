-- The facts of every run of a driver, event by event.
use Rattle.std.specs.Prelude.{◌≡◌, ◌⊎◌, ℕ, ◌+◌, ◌≤◌, List, [], ◌∷◌, ◌++◌, length, codes}
use Rattle.std.specs.Prelude.{Bool, true, false, ◌&&◌, if◌then◌else◌, Option, Some, None}
use Rattle.std.specs.List.{AllByRecursion}
use Rattle.line_io.specs.Event.{Event, Iface, Engine, EngineEnd, has_feed}
use Rattle.line_io.specs.Lines.{line_feed}
use Rattle.protocol_tokens.specs.Tokens.{first_token}
use Rattle.chess_board.specs.declared.board.Move.{Move}
use Rattle.chess_board.specs.Position.{Position}
use Rattle.chess_board.specs.Laws.{IsLegal}
use Rattle.game_record.specs.Game.{Game, current_position}
use Rattle.driver_state_machine.specs.declared.words.Thought.{Thought}
use Rattle.driver_state_machine.specs.declared.driver_state.Reach.TheVariants as reaches
use Rattle.driver_state_machine.specs.DriverState.{is_free, is_thinking, open_search}
use Rattle.driver_state_machine.specs.Laws.{is_search_open, one_if, open_count}
use Rattle.driver_state_machine.specs.declared.order_words.OrderWord.{OrderWord}
use Rattle.driver_state_machine.specs.declared.order_words.OrderWord.TheVariants as orders
use Rattle.driver_state_machine.specs.Words.{order_word_in as order_in}
use Rattle.driver_state_machine.specs.Says.{EngineMessageSeen, Move as SaysMove, Over, says_in}
use Rattle.driver_state_machine.specs.Moves.{NamesNone}
use Rattle.driver_state_machine.specs.Lines.{bestmove_line_text, info_text, id_text, up_line_with_feed}
use Rattle.cecp_driver.specs.declared.driver.DriverParts.{DriverParts}
use Rattle.cecp_driver.specs.declared.driver.TheConstants.{LINE_LIMIT}
use Rattle.protocol_tokens.specs.declared.kinds.GoKind.TheVariants as kinds
use Rattle.uci_interface_lines.specs.Kinds.{kind_asked}
use Rattle.cecp_driver.specs.Driver.{driver_without_lines, opening_driver, reach_of}
use Rattle.cecp_driver.specs.DriverInvariant.{IsMoveless}
use Rattle.cecp_driver.specs.Script.{DriverTakesAll, script_text}
use Rattle.cecp_driver.specs.EngineGame.{AllOn}
use Rattle.cecp_driver.specs.Busy.{AllBusy}

-- A `GO`

abbrev pub is_go : OrderWord → Bool
is_go orders.Go = true
is_go ordered = false

-- true if an event is a `go` that is accepted
abbrev pub accepts_go : Event → DriverParts → Bool
accepts_go (Iface line) v = is_go (order_in (first_token line)) && is_free v.talk
accepts_go event v = false

-- the game that was ordered when the last `go` was accepted
abbrev pub game_asked : Event → DriverParts → Option Game → Option Game
game_asked event v last = if accepts_go event v then Some v.game else last

-- LINES TO THE INTERFACE

-- a line to the interface
pub data UpLine : Type 0 where
  ReadyOk : UpLine
  UciOk : UpLine
  Named : (name : List ℕ) → UpLine
  -- a thinking line, with its move
  Reports : (thought : Thought) → UpLine
  -- the answer to a `go`, with 0000 if there is no move
  BestMove : (best : Option Move) → UpLine

abbrev pub up_line_text : UpLine → List ℕ
up_line_text ReadyOk = up_line_with_feed (codes "readyok")
up_line_text UciOk = up_line_with_feed (codes "uciok")
up_line_text (Named name) = up_line_with_feed (id_text name)
up_line_text (Reports thought) = up_line_with_feed (info_text thought)
up_line_text (BestMove best) = up_line_with_feed (bestmove_line_text best)

abbrev pub up_lines_text : List UpLine → List ℕ
up_lines_text [] = []
up_lines_text (line ∷ lines) = up_line_text line ++ up_lines_text lines

-- the engine's name is one line, no longer than a line may be
abbrev pub NameIsOneLine : UpLine → Type 0
NameIsOneLine (Named name) = (has_feed name ≡ false) × (length name ≤ LINE_LIMIT)
NameIsOneLine line = Unit {0}

-- how many of these lines answer a `go`
abbrev pub answer_count : List UpLine → ℕ
answer_count [] = 0
answer_count (BestMove best ∷ lines) = 1 + answer_count lines
answer_count (line ∷ lines) = answer_count lines

-- MOVES

-- a move is legal in the position that a `go` asked for
abbrev pub IsLegalIn : Option Game → Move → Type 0
IsLegalIn None m = ⊥
IsLegalIn (Some game) m = IsLegal (current_position game) m.from.index m.to.index m.promotion

-- the move of a line, if it has one, is legal there
abbrev pub HasLegalMove : Option Game → UpLine → Type 0
HasLegalMove asked (BestMove (Some m)) = IsLegalIn asked m
HasLegalMove asked (Reports thought) = IsLegalIn asked thought.best
HasLegalMove asked line = Unit {0}

-- A move is asked for and the position has none, the engine has ended, or it cannot be asked.
abbrev pub CannotSearch : List ℕ → DriverParts → Type 0
CannotSearch line v =
    ((kind_asked line ≡ kinds.Move) × IsMoveless v.game)
    ⊎ ((v.talk.gone ≡ true) ⊎ (reach_of v ≡ reaches.Nothing))

-- the interface ends an open search of a position without a move
abbrev pub EndsMoveless : OrderWord → DriverParts → Type 0
EndsMoveless orders.Stop v = (is_search_open (open_search v.talk) ≡ true) × IsMoveless v.game
EndsMoveless orders.PonderHit v = (is_search_open (open_search v.talk) ≡ true) × IsMoveless v.game
EndsMoveless ordered v = ⊥

-- the engine names no legal move after `move`, resigns, or claims a result
abbrev pub GivesUp : EngineMessageSeen → Position → Type 0
GivesUp (SaysMove text) p = NamesNone p text
GivesUp Over p = Unit {0}
GivesUp said p = ⊥

-- why there is no move
abbrev pub DriverHasNoMove : Event → DriverParts → Type 0
DriverHasNoMove (Iface line) v =
    ((accepts_go (Iface line) v ≡ true) × CannotSearch line v)
    ⊎ EndsMoveless (order_in (first_token line)) v
DriverHasNoMove (Engine line) v = (is_thinking v.talk ≡ true) × GivesUp (says_in line) (current_position v.game)
DriverHasNoMove EngineEnd v = is_search_open (open_search v.talk) ≡ true
DriverHasNoMove event v = ⊥

abbrev pub BestmoveHasCause : Event → DriverParts → UpLine → Type 0
BestmoveHasCause event v (BestMove None) = DriverHasNoMove event v
BestmoveHasCause event v line = Unit {0}

-- A move, a resignation or a result changes nothing unless the engine thinks on its move.
abbrev pub IgnoredBy : EngineMessageSeen → Bool → DriverParts → DriverParts → Type 0
IgnoredBy (SaysMove text) false v v' = v' ≡ driver_without_lines v
IgnoredBy Over false v v' = v' ≡ driver_without_lines v
IgnoredBy said thinks v v' = Unit {0}

abbrev pub IsIgnored : Event → DriverParts → DriverParts → Type 0
IsIgnored (Engine line) v v' = IgnoredBy (says_in line) (is_thinking v.talk) v v'
IsIgnored event v v' = Unit {0}

-- RUNS

-- The output for an event, if so many `go` were accepted and so many `bestmove` were given
-- before it, and this game was ordered at the last `go`.
pub record EventGave (event : Event) (v v' : DriverParts) (asked : Option Game)
    (gos answers : ℕ) : Type 0 where
  pub lines : List UpLine
  pub written : v'.up.text ≡ up_lines_text lines
  pub one_line : AllByRecursion NameIsOneLine lines
  -- Each move is legal in the position of its `go`.
  pub legal_moves : AllByRecursion (HasLegalMove (game_asked event v asked)) lines
  -- `bestmove 0000` has its cause.
  pub causes : AllByRecursion (BestmoveHasCause event v) lines
  -- Each accepted `go` has had its one `bestmove`, but for the one whose search is open.
  pub once : gos + one_if (accepts_go event v)
      ≡ (answers + answer_count lines) + open_count v'.talk.search
  -- While a search is open, its game stays.
  pub stays : is_search_open v.talk.search ≡ true → v'.game ≡ v.game
  pub ignored : IsIgnored event v v'

-- the same for each of a list of events
abbrev pub AllGiven : DriverParts → Option Game → ℕ → ℕ → List Event → List DriverParts → Type 0
AllGiven v asked gos answers [] after = Unit {0}
AllGiven v asked gos answers (event ∷ events) [] = Unit {0}
AllGiven v asked gos answers (event ∷ events) (v' ∷ later) =
    (given : EventGave event v v' asked gos answers)
    × AllGiven v' (game_asked event v asked) (gos + one_if (accepts_go event v))
    (answers + answer_count given.lines) events later

-- A driver that was made takes these events, and is so after each: what it gives to the interface,
-- and that it has the engine search the ordered games alone, whatever game the engine had before;
-- and while a search is open, the engine has something to do.
pub record IsSoundDrive (events : List Event) (after : List DriverParts) : Type 0 where
  pub given : AllGiven opening_driver None 0 0 events after
  pub searches : (g : Game) → AllOn opening_driver g events after
  pub busy : AllBusy opening_driver [] events after

-- Every run is so.
abbrev pub RunsAreSound : Type 0
RunsAreSound =
    (events : List Event) (after : List DriverParts) → DriverTakesAll opening_driver events after
    → IsSoundDrive events after

-- SCRIPTS

-- A driver that was made takes these events, all of them may come, and this is the script of it.
pub record IsScriptOfDrive (events : List Event) (text : List ℕ) : Type 0 where
  pub after : List DriverParts
  pub goes : DriverTakesAll opening_driver events after
  pub sound : IsSoundDrive events after
  pub text_is : text ≡ script_text events after

-- Some events have one script alone.
abbrev pub HasOneScript : Type 0
HasOneScript = (events : List Event) (a b : List ℕ) → IsScriptOfDrive events a → IsScriptOfDrive events b → a ≡ b
