-- Whole dialogues: lists of exchanges, the newest first.
use Rattle.std.specs.Prelude.{◌≡◌, ℕ, ◌+◌, List, [], ◌∷◌, Bool, true, false, not}
use Rattle.std.specs.Prelude.{if◌then◌else◌, ◌==◌, ◌||◌, ◌&&◌, Option, Some, None}
use Rattle.chess_board.specs.declared.board.Move.{Move}
use Rattle.protocol_tokens.specs.declared.kinds.GoKind.TheVariants as kinds
use Rattle.search_epochs.specs.declared.words.EngineState.{EngineState}
use Rattle.search_epochs.specs.declared.words.EngineState.TheVariants as states
use Rattle.search_epochs.specs.declared.words.Call.{Call}
use Rattle.search_epochs.specs.declared.words.Call.TheVariants as calls
use Rattle.search_epochs.specs.declared.words.Said.TheVariants as said
use Rattle.search_epochs.specs.declared.words.Orders.{Orders}
use Rattle.search_epochs.specs.declared.words.Orders.TheVariants as orders
use Rattle.search_epochs.specs.Tickets.{Engine, Search, Word, Go, Stop, Quit, What, Says}
use Rattle.search_epochs.specs.Tickets.{Quiet, Ticketed, DialogueTurn, Settled, AllSetup}
use Rattle.search_epochs.specs.Tickets.{first_dialogue, before_orders, engine_after_orders, owed, is_due}
use Rattle.search_epochs.specs.Tickets.{is_ponder_hit, is_move_now, has_no_order, is_engine_gone, has_go, has_hit}
use Rattle.search_epochs.specs.Dialogue.{Dialogue, opening, mid_dialogue, after_settled}
use Rattle.search_epochs.specs.Dialogue.{is_unfenced, settle, words, played_of, boots}

-- one exchange: a turn, the desk's hint after it, whether the session is closed after it, and
-- the orders that are written
pub record Exchange : Type 0 where
  pub turn : DialogueTurn
  pub hint : Option Move
  pub closed : Bool
  pub orders : List Word

-- what was heard and written in all exchanges
abbrev pub dialogue : List Exchange → Ticketed
dialogue [] = first_dialogue
dialogue (x ∷ xs) = engine_after_orders (before_orders (dialogue xs) x.turn) x.orders

abbrev pub is_closed : List Exchange → Bool
is_closed [] = false
is_closed (x ∷ xs) = x.closed

-- the desk's call and hint after all exchanges
abbrev pub last_call : List Exchange → Call
last_call [] = calls.Nothing
last_call (x ∷ xs) = x.turn.call

abbrev pub last_hint : List Exchange → Option Move
last_hint [] = None
last_hint (x ∷ xs) = x.hint

-- which exchanges may come

-- of the engine of a closed session only its end is heard
abbrev pub IsDeaf : What → Type 0
IsDeaf Quiet = Unit {0}
IsDeaf (Says said.Ended) = Unit {0}
IsDeaf w = ⊥

-- An exchange that may come: only settings wait; a closed session stays closed; a step after which
-- the session is closed begins no epoch, and hears no answer.
pub record ExchangeMayCome (closed : Bool) (x : Exchange) : Type 0 where
  pub waiting : AllSetup x.turn.waiting
  pub stays_closed : closed ≡ true → x.closed ≡ true
  pub no_epoch : x.closed ≡ true → x.turn.begins_epoch ≡ false
  pub deaf : x.closed ≡ true → IsDeaf x.turn.what

-- the orders of a step after which the session is closed: `quit` if it closes it,
-- unless the engine is gone
abbrev pub closing_orders : Bool → Bool → List Word
closing_orders closed gone = if closed || gone then [] else Quit ∷ []

-- its orders are those that are settled
pub record AreLawful (t : Ticketed) (closed : Bool) (x : Exchange) : Type 0 where
  pub settled : x.closed ≡ false
      → Settled (before_orders t x.turn).engine (before_orders t x.turn).epoch
      (owed (before_orders t x.turn) x.turn.call) x.turn.waiting (is_due t x.turn)
      (is_ponder_hit t x.turn) (is_move_now x.turn.what) x.orders
  pub closing : x.closed ≡ true
      → x.orders ≡ closing_orders closed (is_engine_gone (before_orders t x.turn).engine)

abbrev pub LawfulHistory : List Exchange → Type 0
LawfulHistory [] = Unit {0}
LawfulHistory (x ∷ xs) = LawfulHistory xs × ExchangeMayCome (is_closed xs) x × AreLawful (dialogue xs) (is_closed xs) x

-- how the desk's call and hint go on

-- the answer to a current search for a Move
abbrev pub answers_at : What → ℕ → Engine → Bool
answers_at (Says said.Best) epoch (Search kinds.Move ticket s) = ticket == epoch
answers_at w epoch e = false

abbrev pub answers_call : Ticketed → What → Bool
answers_call t w = answers_at w t.epoch t.engine

abbrev pub is_engine_end : What → Bool
is_engine_end (Says said.Ended) = true
is_engine_end w = false

-- Nothing is called for afterwards, unless an epoch begins: an answer that shows no move, the
-- engine's end, the session's end.
abbrev pub ends_call : Ticketed → Exchange → Bool
ends_call t x = x.closed || (answers_call t x.turn.what || is_engine_end x.turn.what)

-- The call and the hint change only with the epoch, save that such a step ends the call. A call
-- to ponder names the hint.
pub record CallIsSteady (t : Ticketed) (call : Call) (hint : Option Move) (x : Exchange) : Type 0 where
  pub call_stays : x.turn.begins_epoch ≡ false
      → x.turn.call ≡ (if ends_call t x then calls.Nothing else call)
  pub hint_before : x.turn.hint ≡ hint
  pub hint_stays : x.turn.begins_epoch ≡ false → x.hint ≡ hint
  pub hint_called : (h : Move) → x.turn.call ≡ calls.Ponder h → x.hint ≡ Some h

abbrev pub Steady : List Exchange → Type 0
Steady [] = Unit {0}
Steady (x ∷ xs) = Steady xs × CallIsSteady (dialogue xs) (last_call xs) (last_hint xs) x

-- what the code does in an exchange: it hears, begins the epoch, and settles; after
-- the session's end it rests

abbrev pub heard_in : Dialogue → Exchange → Dialogue
heard_in v x = mid_dialogue v x.turn.what x.turn.begins_epoch

abbrev pub has_unsent : Dialogue → Exchange → Bool
has_unsent v x =
    (boots v.state x.turn.what || not (has_no_order x.turn.waiting))
    || (x.turn.fences && is_unfenced (heard_in v x) x.turn.call)

abbrev pub exchange_choice : Dialogue → Exchange → Orders
exchange_choice v x =
    if x.closed then orders.None
    else settle (heard_in v x) x.turn.call (has_unsent v x) (played_of x.turn.what)
    (is_move_now x.turn.what)

abbrev pub is_gone_state : EngineState → Bool
is_gone_state states.Gone = true
is_gone_state e = false

abbrev pub exchange_orders : Dialogue → Bool → Exchange → List Word
exchange_orders v closed x =
    if x.closed then closing_orders closed (is_gone_state (heard_in v x).state)
    else words x.turn.waiting (exchange_choice v x)

-- what it keeps after all exchanges
abbrev pub view : List Exchange → Dialogue
view [] = opening
view (x ∷ xs) = after_settled (heard_in (view xs) x) (exchange_choice (view xs) x)

-- each exchange's orders are those that the code chose
abbrev pub Chosen : List Exchange → Type 0
Chosen [] = Unit {0}
Chosen (x ∷ xs) =
    Chosen xs × ExchangeMayCome (is_closed xs) x × (x.orders ≡ exchange_orders (view xs) (is_closed xs) x)

-- what is said of a whole dialogue

-- the call for which a search was begun or renewed last
abbrev pub call_of_last_search : List Exchange → Call
call_of_last_search [] = calls.Nothing
call_of_last_search (x ∷ xs) =
    if has_go x.orders || has_hit x.orders then x.turn.call else call_of_last_search xs

-- how many `stop`s were written since the last `go`
abbrev pub stop_orders_after : ℕ → List Word → ℕ
stop_orders_after n [] = n
stop_orders_after n (Go k ∷ ws) = stop_orders_after 0 ws
stop_orders_after n (Stop ∷ ws) = stop_orders_after (n + 1) ws
stop_orders_after n (w ∷ ws) = stop_orders_after n ws

abbrev pub stop_orders_since_go : List Exchange → ℕ
stop_orders_since_go [] = 0
stop_orders_since_go (x ∷ xs) = stop_orders_after (stop_orders_since_go xs) x.orders

-- the engine at the place of an order, with these of the exchange's orders before it
abbrev pub engine_at : List Exchange → Exchange → List Word → Engine
engine_at xs x before = (engine_after_orders (before_orders (dialogue xs) x.turn) before).engine

-- an exchange without its orders
abbrev pub without_orders : Exchange → Exchange
without_orders x = record x { orders = [] }
