-- The invariant of the desk between steps, and the facts of an effect.
use Rattle.std.specs.Prelude.{◌≡◌, ◌⊎◌, ℕ, List, [], ◌∷◌, ◌<◌, ◌≤◌, ◌+◌}
use Rattle.std.specs.Prelude.{length, true, false, Some, None, IfSome, Ok}
use Rattle.line_io.specs.Event.{Event, is_line}
use Rattle.line_io.specs.Event as events
use Rattle.chess_board.specs.Place.{legal}
use Rattle.protocol_tokens.specs.declared.kinds.GoKind.{GoKind}
use Rattle.protocol_tokens.specs.declared.kinds.GoKind.TheVariants as kinds
use Rattle.cecp_lines.specs.Messages.{IfaceMsg}
use Rattle.cecp_lines.specs.Messages as says
use Rattle.cecp_lines.specs.Reading.{message_or_fault}
use Rattle.cecp_lines.specs.Replies.{IsWritable}
use Rattle.uci_lines.specs.Info.{Info}
use Rattle.uci_lines.specs.Messages.{EngineMsg, OptionKind}
use Rattle.uci_lines.specs.Messages as hears
use Rattle.uci_lines.specs.Engine.{engine_message}
use Rattle.game_record.specs.declared.game.TheConstants.{MOST_PLIES}
use Rattle.game_record.specs.Game.{Game, ply_of, current_position, IsPlayablePly}
use Rattle.clock_map.specs.Clocks.{ClocksAreShort}
use Rattle.option_map.specs.WaitingOrders.Held.{held_batch_text}
use Rattle.uci_lines.specs.Orders.{Order, NewGame}
use Rattle.option_map.specs.DeclaredOptions.Spelled.{AreDeclared}
use Rattle.search_epochs.specs.declared.words.Call.{Call}
use Rattle.search_epochs.specs.declared.words.Call.TheVariants as calls
use Rattle.search_epochs.specs.declared.words.EngineState.{EngineState}
use Rattle.search_epochs.specs.declared.words.EngineState.TheVariants as states
use Rattle.search_epochs.specs.declared.words.Orders.{Orders}
use Rattle.search_epochs.specs.declared.words.Orders.TheVariants as chosen
use Rattle.search_epochs.specs.Tickets.{SearchServesCall}
use Rattle.desk_rules.specs.declared.effect.Refusal.{Refusal}
use Rattle.desk_rules.specs.declared.effect.Refusal.TheVariants as refusals
use Rattle.desk_rules.specs.declared.desk.Desk.{Desk}
use Rattle.desk_rules.specs.Desk.{Situation, is_boot, is_getting}
use Rattle.desk_rules.specs.Desk.{is_gone, current, call_before, plies}
use Rattle.desk_rules.specs.Lines.{refusal}
use Rattle.desk_rules.specs.Early.{EarlyLinesAreFew, may_wait}
use Rattle.desk_rules.specs.Steps.{Effect, Refuses, Accepts, Defers, Names, Declares}
use Rattle.desk_rules.specs.Steps.{Boots, Readies, Thinks, Shows, Forfeits, Answers, Dies}
use Rattle.desk_rules.specs.declared.pings.TheConstants.{MOST_PINGS}

-- the line of an event is a line that a peer may send
abbrev pub IsLineEvent : Event → Type 0
IsLineEvent (events.Iface line) = is_line line ≡ true
IsLineEvent (events.Engine line) = is_line line ≡ true
IsLineEvent e = Unit {0}

-- The hint, if there is one, can be played.
abbrev pub IsHintPlayable : Desk → Type 0
IsHintPlayable d = IfSome d.hint (λ m. IsPlayablePly (current_position d.game) (ply_of m))

-- The invariant of the desk between steps.
pub record DeskInvariant (d : Desk) : Type 0 where
  pub hint : IsHintPlayable d
  pub clocks : ClocksAreShort d.clocks
  pub current : IfSome d.search_info.current IsWritable
  pub options : AreDeclared d.options
  pub early : EarlyLinesAreFew d.early

-- A move of a refused line can be written.
abbrev pub IsMoveWritable : Refusal → Type 0
IsMoveWritable (refusals.Because reason) = Unit {0}
IsMoveWritable (refusals.IllegalMove m) = IsWritable m
IsMoveWritable (refusals.GameTooLong m) = IsWritable m
IsMoveWritable refusals.IllegalPosition = Unit {0}

-- some line of the interface says this
pub record IsReadFromLine (m : IfaceMsg) : Type 0 where
  pub line : List ℕ
  pub is_line : is_line line ≡ true
  pub reads : message_or_fault line ≡ Ok m

-- the line of an accepted message
pub record IsAccepted (h : Situation) (held : List Order) (m : IfaceMsg) : Type 0 where
  pub line : List ℕ
  pub is_line : is_line line ≡ true
  pub reads : message_or_fault line ≡ Ok m
  pub is_open : h.closed ≡ false
  pub passes : refusal h held m ≡ None

-- the line is early, and may wait
pub record IsDeferred (h : Situation) (line : List ℕ) : Type 0 where
  pub is_open : h.closed ≡ false
  pub in_boot : is_boot h.engine ≡ true
  pub is_line : is_line line ≡ true
  pub waits : may_wait h.desk.early line ≡ true

-- some line of the engine says this
pub record IsSaid (m : EngineMsg) : Type 0 where
  pub line : List ℕ
  pub is_line : is_line line ≡ true
  pub says : engine_message line ≡ m

pub record LineIsRefused (h : Situation) (r : Refusal) (line : List ℕ) : Type 0 where
  pub is_open : h.closed ≡ false
  pub refusal_writable : IsMoveWritable r
  pub is_line : is_line line ≡ true

-- the open search is current and for a Move
abbrev pub IsCurrentMove : EngineState → Type 0
IsCurrentMove e = current e ≡ Some kinds.Move

-- a search is open, and is not a current one for a Move
abbrev pub IsOther : EngineState → Type 0
IsOther (states.Search kinds.Move false stopped) = ⊥
IsOther (states.Search k stale stopped) = Unit {0}
IsOther e = ⊥

-- no line of the interface
abbrev pub IsNoIfaceLine : Event → Type 0
IsNoIfaceLine (events.Iface line) = ⊥
IsNoIfaceLine e = Unit {0}

-- no line is obeyed
abbrev pub IsNoLine : Effect → Type 0
IsNoLine (Accepts m) = ⊥
IsNoLine d = Unit {0}

-- what an effect says of what stood when the event came
abbrev pub EffectFitsDesk : Situation → List Order → Effect → Type 0
EffectFitsDesk h held (Refuses r line) = LineIsRefused h r line
EffectFitsDesk h held (Accepts m) = IsAccepted h held m
EffectFitsDesk h held (Defers line) = IsDeferred h line
EffectFitsDesk h held (Names text) = (h.closed ≡ false) × (is_boot h.engine ≡ true)
EffectFitsDesk h held (Declares name shape) =
    (h.closed ≡ false) × (is_boot h.engine ≡ true) × IsSaid (hears.OptionLine name shape)
EffectFitsDesk h held Boots = (h.closed ≡ false) × (is_boot h.engine ≡ true)
EffectFitsDesk h held Readies = (h.closed ≡ false) × (is_getting h.engine ≡ true)
EffectFitsDesk h held (Thinks k facts) =
    (h.closed ≡ false) × (current h.engine ≡ Some k) × IsSaid (hears.Info facts)
EffectFitsDesk h held (Shows best hint) =
    (h.closed ≡ false) × IsCurrentMove h.engine × (legal (current_position h.desk.game) best ≡ true)
EffectFitsDesk h held (Forfeits answer) = (h.closed ≡ false) × IsCurrentMove h.engine
EffectFitsDesk h held Answers = (h.closed ≡ false) × IsOther h.engine
EffectFitsDesk h held Dies = is_gone h.engine ≡ false
EffectFitsDesk h held d = Unit {0}

-- the same, whatever is held
abbrev pub IsFit : Situation → Effect → Type 0
IsFit h d = (held : List Order) × EffectFitsDesk h held d

-- a current search serves the call
abbrev pub IsServed : Situation → Type 0
IsServed h = h.closed ≡ false → (k : GoKind) → current h.engine ≡ Some k → SearchServesCall k (call_before h)

-- what the desk needs to change as a message wants
abbrev pub CanChange : Desk → IfaceMsg → Type 0
CanChange d (says.UserMove m) = IsPlayablePly (current_position d.game) (ply_of m) × (plies d.game < MOST_PLIES)
CanChange d says.Undo = 1 ≤ plies d.game
CanChange d says.Remove = 2 ≤ plies d.game
CanChange d (says.Ping n) = length d.pings < MOST_PINGS + 1
CanChange d m = Unit {0}

-- before `uciok` no more than a new game is held
abbrev pub OnlyNewGameIsHeld : List Order → Type 0
OnlyNewGameIsHeld held = (held ≡ []) ⊎ (held ≡ NewGame ∷ [])

-- what is held leaves room for the orders of an effect
abbrev pub CanHold : List Order → Effect → Type 0
CanHold held Boots = OnlyNewGameIsHeld held
CanHold held d = Unit {0}

-- at most so many orders, with at most so many bytes
abbrev pub OrdersAreFew : ℕ → ℕ → List Order → Type 0
OrdersAreFew n bytes held = (length held ≤ n) × (length (held_batch_text held) ≤ bytes)

-- a move that is entered can be played
abbrev pub CanEnter : Game → IfaceMsg → Type 0
CanEnter g (says.UserMove m) = IsPlayablePly (current_position g) (ply_of m)
CanEnter g m = Unit {0}

-- a move that is to be pondered on can be played
abbrev pub CanSearch : Game → Call → Type 0
CanSearch g (calls.Ponder h) = IsPlayablePly (current_position g) (ply_of h)
CanSearch g c = Unit {0}

-- the same of the orders that were chosen
abbrev pub ChosenOrdersCanBeWritten : Game → Orders → Type 0
ChosenOrdersCanBeWritten g (chosen.Begin c) = CanSearch g c
ChosenOrdersCanBeWritten g o = Unit {0}
