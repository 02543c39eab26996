-- Laws of every list of calls.
use Rattle.std.specs.Prelude.{◌≡◌, ◌⊎◌, ℕ, ◌+◌, ◌-◌, nat_lt, List, [], ◌∷◌, ◌++◌, Bool, true}
use Rattle.std.specs.Prelude.{false, ◌&&◌, if◌then◌else◌, Option, Some, None}
use Rattle.engine_revival.specs.Orders.{RevivalOrder as AnyOrder, are_same_names}
use Rattle.engine_revival.specs.Lists.{are_for_same}
use Rattle.engine_revival.specs.Orders as orders
use Rattle.engine_revival.specs.Asked.{order_of_line}
use Rattle.protocol_tokens.specs.Quit.{is_quit}
use Rattle.engine_revival.specs.declared.words.DialogueState.{DialogueState}
use Rattle.engine_revival.specs.declared.words.DialogueState.TheVariants as upper
use Rattle.engine_revival.specs.declared.words.LifeState.{LifeState}
use Rattle.engine_revival.specs.declared.words.LifeState.TheVariants as life
use Rattle.engine_revival.specs.declared.words.LifeSaid.{LifeSaid}
use Rattle.engine_revival.specs.declared.words.LifeSaid.TheVariants as said
use Rattle.engine_revival.specs.declared.words.DueOrders.{DueOrders}
use Rattle.engine_revival.specs.declared.words.DueOrders.TheVariants as due
use Rattle.engine_revival.specs.declared.words.StandInAnswer.{StandInAnswer}
use Rattle.engine_revival.specs.declared.words.StandInAnswer.TheVariants as answers
use Rattle.engine_revival.specs.declared.state.RevivalState.{RevivalState}
use Rattle.engine_revival.specs.declared.state.TheConstants.{MOST_READY}
use Rattle.engine_revival.specs.Dialogue.{after_order, after_said, said_in, is_before}
use Rattle.engine_revival.specs.Dialogue.{is_dialogue_idle, dialogue_where}
use Rattle.engine_revival.specs.Steps.{opening_revival, is_alive, gives, answer_of, readies}
use Rattle.engine_revival.specs.Steps.{upper_if_accepted, due_of, settled_orders, is_ready_order}
use Rattle.engine_revival.specs.Calls.{RevivalCall, Order, Heard, Ended, Begin, Over}
use Rattle.engine_revival.specs.Calls.{may_call, revival_after, state_after_call, orders_to_life}

-- CALLS IN A ROW, THE LAST ONE FIRST

-- the state that they leave, if so many lives may be begun
abbrev pub revival_state_of : ℕ → List RevivalCall → RevivalState
revival_state_of lives [] = opening_revival lives
revival_state_of lives (call ∷ calls) = revival_after (revival_state_of lives calls) call

-- each of them may come at its place
abbrev pub CallsMayCome : ℕ → List RevivalCall → Type 0
CallsMayCome lives [] = Unit {0}
CallsMayCome lives (call ∷ calls) = CallsMayCome lives calls × (may_call (revival_state_of lives calls) call ≡ true)

-- THE LINES TO A LIFE

-- The dialogue of a life: open, closed by `quit`, gone if the life has ended, or broken by an
-- order where it may not stand.
pub data LifeWire : Type 0 where
  Open : (state : DialogueState) → LifeWire
  Closed : LifeWire
  Gone : LifeWire
  Broken : LifeWire

abbrev pub open_or_broken : Option DialogueState → LifeWire
open_or_broken None = Broken
open_or_broken (Some state) = Open state

-- `quit` is not the first order, and does not part a `position` from its `go`.
abbrev pub QuitIsAfterAll : DialogueState → LifeWire
QuitIsAfterAll upper.Before = Broken
QuitIsAfterAll upper.Placed = Broken
QuitIsAfterAll state = Closed

-- an engine that is idle or searches
abbrev pub hears_ready : DialogueState → Bool
hears_ready upper.Idle = true
hears_ready (upper.Search kind stopped) = true
hears_ready state = false

-- What a life is given is told apart more than what is accepted: `isready` reaches it where it is
-- idle or searches, and `position` only where it is idle.
abbrev pub after_life_order : AnyOrder → DialogueState → Option DialogueState
after_life_order orders.IsReady state = dialogue_where (hears_ready state) state
after_life_order (orders.Position line) state = dialogue_where (is_dialogue_idle state) upper.Placed
after_life_order order state = after_order order state

-- After an order that is written. Nothing is written after `quit`, nor to a life that has ended.
abbrev pub wire_after_order : AnyOrder → LifeWire → LifeWire
wire_after_order orders.Quit (Open state) = QuitIsAfterAll state
wire_after_order order (Open state) = open_or_broken (after_life_order order state)
wire_after_order order wire = Broken

abbrev pub all_written : List AnyOrder → LifeWire → LifeWire
all_written [] wire = wire
all_written (order ∷ list) wire = all_written list (wire_after_order order wire)

abbrev pub wire_after_heard : LifeSaid → LifeWire → LifeWire
wire_after_heard word (Open state) = Open (after_said state word)
wire_after_heard word wire = wire

-- the effect of a call on the wire, before its orders
abbrev pub wire_after_call : RevivalCall → LifeWire → LifeWire
wire_after_call (Order line) wire = wire
wire_after_call (Heard line) wire = wire_after_heard (said_in line) wire
wire_after_call Ended wire = Gone
wire_after_call Begin wire = Open upper.Before
wire_after_call Over wire = Gone

-- the dialogue of the present life
abbrev pub wire_of : ℕ → List RevivalCall → LifeWire
wire_of lives [] = Open upper.Before
wire_of lives (call ∷ calls) =
    all_written (orders_to_life (revival_state_of lives calls) call) (wire_after_call call (wire_of lives calls))

abbrev pub is_whole : LifeWire → Bool
is_whole Broken = false
is_whole wire = true

-- The lines to each life, with the lines heard from it, are a dialogue in order: `uci` is the first
-- and comes once; settings and `position` reach only an idle engine, `isready` one that is idle or
-- searches; `go` comes directly after a `position`; `ponderhit` and `stop` reach only a search where
-- they may come; `quit` is the last; and nothing reaches a life that has ended.
abbrev pub LivesAreInOrder : Type 0
LivesAreInOrder =
    (lives : ℕ) (calls : List RevivalCall) → CallsMayCome lives calls
    → is_whole (wire_of lives calls) ≡ true

-- THE LINES UP

abbrev pub is_state_search : DialogueState → Bool
is_state_search (upper.Search kind stopped) = true
is_state_search state = false

-- where a line up may come in the upper dialogue; of `readyok` it says nothing, which may come in
-- each state (of how many see below)
abbrev pub FitsUp : LifeSaid → DialogueState → Type 0
FitsUp said.Introduction state = state ≡ upper.Boot
FitsUp said.UciOk state = state ≡ upper.Boot
FitsUp said.ReadyOk state = Unit {0}
FitsUp said.Report state = is_state_search state ≡ true
FitsUp said.Best state = is_state_search state ≡ true
FitsUp said.Nothing state = ⊥

-- A line of the engine is passed up only if the upper dialogue waits for it. So a search
-- gets one `bestmove` at most.
abbrev pub GivenFits : Type 0
GivenFits =
    (lives : ℕ) (calls : List RevivalCall) (line : List ℕ) → CallsMayCome lives calls
    → gives (revival_state_of lives calls) (said_in line) ≡ true
    → FitsUp (said_in line) (revival_state_of lives calls).upper

-- the answer that stands in for the engine's
abbrev pub answer_says : StandInAnswer → LifeSaid
answer_says answers.Nothing = said.Nothing
answer_says answers.UciOk = said.UciOk
answer_says answers.ReadyOk = said.ReadyOk
answer_says answers.NoMove = said.Best

abbrev pub IsAnswerIn : StandInAnswer → RevivalState → Type 0
IsAnswerIn answers.Nothing s = Unit {0}
IsAnswerIn answer s = (s.life ≡ life.Over) × FitsUp (answer_says answer) s.upper

-- Something stands in for the engine only if no life follows, and only if the
-- upper dialogue waits for it.
abbrev pub AnswersFit : Type 0
AnswersFit = (s : RevivalState) → IsAnswerIn (answer_of s) s

-- IDLE LIVES

abbrev pub is_idle_life : LifeState → Bool
is_idle_life life.Idle = true
is_idle_life state = false

-- After each call before an accepted `quit` no life is idle while the upper state is Search.
abbrev pub NoLifeIdles : Type 0
NoLifeIdles =
    (s : RevivalState) (call : RevivalCall) → (revival_after s call).quit ≡ false
    → is_idle_life (revival_after s call).life ≡ true → is_state_search (revival_after s call).upper ≡ false

-- WHAT A LIFE ANSWERS

-- the search that a life was asked for, by the lines written to it and heard from it: its words on a search
abbrev pub is_answer_awaited : LifeWire → LifeSaid → Bool
is_answer_awaited (Open (upper.Search kind stopped)) said.Report = true
is_answer_awaited (Open (upper.Search kind stopped)) said.Best = true
is_answer_awaited wire word = false

-- Each `info` and the `bestmove` of a life that got a `go` is passed up, until that `bestmove`.
abbrev pub AwaitedIsGiven : Type 0
AwaitedIsGiven =
    (lives : ℕ) (calls : List RevivalCall) (line : List ℕ) → CallsMayCome lives calls
    → is_answer_awaited (wire_of lives calls) (said_in line) ≡ true
    → gives (revival_state_of lives calls) (said_in line) ≡ true

-- While `bestmove` is waited for, a life that has not ended boots, or was asked for just this.
abbrev pub IsAskedIn : ℕ → List RevivalCall → Type 0
IsAskedIn lives calls =
    (revival_state_of lives calls).quit ≡ false → is_alive (revival_state_of lives calls).life ≡ true
    → is_state_search (revival_state_of lives calls).upper ≡ true
    → (wire_of lives calls ≡ Open upper.Boot)
    ⊎ (wire_of lives calls ≡ Open (revival_state_of lives calls).upper)

abbrev pub LivesAreAsked : Type 0
LivesAreAsked = (lives : ℕ) (calls : List RevivalCall) → CallsMayCome lives calls → IsAskedIn lives calls

-- SETTINGS

-- the line of an order that sets an option to a value
abbrev pub value_line : List (List ℕ) → AnyOrder → Option (List ℕ)
value_line name (orders.Value other line) = if are_same_names other name then Some line else None
value_line name order = None

abbrev pub later_or : {T : Type 0} → Option T → Option T → Option T
later_or None earlier = earlier
later_or (Some value) earlier = Some value

-- the line of the order that sets an option to a value last
abbrev pub last_value_line : List (List ℕ) → List AnyOrder → Option (List ℕ)
last_value_line name [] = None
last_value_line name (order ∷ list) = later_or (last_value_line name list) (value_line name order)

abbrev pub accepted_by : Option DialogueState → AnyOrder → List AnyOrder
accepted_by None order = []
accepted_by (Some state) order = order ∷ []

abbrev pub accepted_read : RevivalState → Option AnyOrder → List AnyOrder
accepted_read s None = []
accepted_read s (Some order) = accepted_by (upper_if_accepted s order) order

-- the order that a call brought, if it was accepted; `quit` left out
abbrev pub accepted_in : RevivalState → RevivalCall → List AnyOrder
accepted_in s (Order line) = if is_quit line then [] else accepted_read s (order_of_line line)
accepted_in s call = []

-- all accepted orders, the first one first
abbrev pub accepted_of : ℕ → List RevivalCall → List AnyOrder
accepted_of lives [] = []
accepted_of lives (call ∷ calls) =
    accepted_of lives calls ++ accepted_in (revival_state_of lives calls) call

abbrev pub orders_in_same_life : RevivalCall → List AnyOrder → List AnyOrder
orders_in_same_life Begin list = []
orders_in_same_life call list = list

-- all orders that were written to the present life, the first one first
abbrev pub life_orders : ℕ → List RevivalCall → List AnyOrder
life_orders lives [] = []
life_orders lives (call ∷ calls) =
    orders_in_same_life call (life_orders lives calls) ++ orders_to_life (revival_state_of lives calls) call

-- an order after those seen since the last `position`; `isready` is none of a search
abbrev pub seen_then : AnyOrder → List AnyOrder → List AnyOrder
seen_then orders.IsReady seen = seen
seen_then (orders.Position line) seen = orders.Position line ∷ []
seen_then order seen = seen ++ order ∷ []

-- the orders from the last `position` on
abbrev pub since_position : List AnyOrder → List AnyOrder → List AnyOrder
since_position [] seen = seen
since_position (order ∷ list) seen = since_position list (seen_then order seen)

-- Wherever a life is given a search, the orders after its settings are each `isready` that is held,
-- and those of the open upper search: all that were accepted from the last `position` on, as they
-- came. They lead from an idle engine to the state that the search is in. And unless a setting had
-- no room, this life was given of each option the line that set it to a value last, whenever that
-- was.
pub record IsGiven (lives : ℕ) (call : RevivalCall) (calls : List RevivalCall) : Type 0 where
  pub orders_are : settled_orders (state_after_call (revival_state_of lives calls) call)
      ≡ (state_after_call (revival_state_of lives calls) call).unsent
      ++ (readies (state_after_call (revival_state_of lives calls) call).held_ready
      ++ (state_after_call (revival_state_of lives calls) call).search)
  pub as_they_came : (state_after_call (revival_state_of lives calls) call).search
      ≡ since_position (accepted_of lives (call ∷ calls)) []
  pub leads : all_written (state_after_call (revival_state_of lives calls) call).search (Open upper.Idle)
      ≡ Open (state_after_call (revival_state_of lives calls) call).upper
  pub settings : (name : List (List ℕ)) → (revival_state_of lives (call ∷ calls)).full ≡ false
      → last_value_line name (life_orders lives (call ∷ calls))
      ≡ last_value_line name (accepted_of lives (call ∷ calls))

abbrev pub SearchesAreGiven : Type 0
SearchesAreGiven =
    (lives : ℕ) (call : RevivalCall) (calls : List RevivalCall) → CallsMayCome lives (call ∷ calls)
    → due_of (state_after_call (revival_state_of lives calls) call) ≡ due.Search
    → IsGiven lives call calls

-- BUTTONS AND NEW GAMES

-- an order for the present life alone: a button, or the beginning of a game
abbrev pub is_press : AnyOrder → Bool
is_press (orders.Button name line) = true
is_press orders.NewGame = true
is_press order = false

abbrev pub same_order : AnyOrder → AnyOrder → Option AnyOrder
same_order order other = if are_for_same order other then Some other else None

-- the last order that is for the same as this one
abbrev pub last_revival_order_for : AnyOrder → List AnyOrder → Option AnyOrder
last_revival_order_for order [] = None
last_revival_order_for order (other ∷ list) = later_or (last_revival_order_for order list) (same_order order other)

-- the orders that were accepted since the present life began, the first one first
abbrev pub accepted_in_life : ℕ → List RevivalCall → List AnyOrder
accepted_in_life lives [] = []
accepted_in_life lives (call ∷ calls) =
    orders_in_same_life call (accepted_in_life lives calls)
    ++ accepted_in (revival_state_of lives calls) call

-- the settings go to the life, with `isready` or with a search
abbrev pub gives_settings : DueOrders → Bool
gives_settings due.Nothing = false
gives_settings d = true

-- A life that is given settings was given, unless one had no room, each button and `ucinewgame`
-- that was accepted since it began, the last line of each, and none that a life before it was sent.
abbrev pub IsPressed : ℕ → RevivalCall → List RevivalCall → AnyOrder → Type 0
IsPressed lives call calls order =
    gives_settings (due_of (state_after_call (revival_state_of lives calls) call)) ≡ true
    → is_press order ≡ true → (revival_state_of lives (call ∷ calls)).full ≡ false
    → last_revival_order_for order (life_orders lives (call ∷ calls))
    ≡ last_revival_order_for order (accepted_in_life lives (call ∷ calls))

abbrev pub PressesAreGiven : Type 0
PressesAreGiven =
    (lives : ℕ) (call : RevivalCall) (calls : List RevivalCall) (order : AnyOrder)
    → IsPressed lives call calls order

-- EACH `isready` HAS ITS `readyok`

abbrev pub one_where : Bool → ℕ
one_where true = 1
one_where false = 0

-- how many of these are `isready`
abbrev pub ready_orders : List AnyOrder → ℕ
ready_orders [] = 0
ready_orders (order ∷ list) = one_where (is_ready_order order) + ready_orders list

-- how many `isready` were accepted
abbrev pub ready_accepted : ℕ → List RevivalCall → ℕ
ready_accepted lives calls = ready_orders (accepted_of lives calls)

abbrev pub says_ready : LifeSaid → Bool
says_ready said.ReadyOk = true
says_ready word = false

-- how many `readyok` stand in for the engine, where so many `isready` are held
abbrev pub ready_in_answer : StandInAnswer → ℕ → ℕ
ready_in_answer answers.Nothing held = 0
ready_in_answer answer held = held

-- how many `readyok` are passed up as heard
abbrev pub ready_passed_up : RevivalState → RevivalCall → ℕ
ready_passed_up s (Heard line) = one_where (says_ready (said_in line) && gives s (said_in line))
ready_passed_up s call = 0

-- how many `readyok` a call gives up
abbrev pub ready_given : RevivalState → RevivalCall → ℕ
ready_given s call =
    ready_passed_up s call
    + ready_in_answer (answer_of (state_after_call s call)) (state_after_call s call).held_ready

-- how many `readyok` were given up
abbrev pub ready_answered : ℕ → List RevivalCall → ℕ
ready_answered lives [] = 0
ready_answered lives (call ∷ calls) =
    ready_answered lives calls + ready_given (revival_state_of lives calls) call

-- how many `isready` a life owes an answer, after it owed so many
abbrev pub ready_left : RevivalCall → ℕ → ℕ
ready_left (Order line) n = n
ready_left (Heard line) n = n - one_where (says_ready (said_in line))
ready_left call n = 0

-- how many `isready` were written to the present life that it did not answer
abbrev pub ready_owed : ℕ → List RevivalCall → ℕ
ready_owed lives [] = 0
ready_owed lives (call ∷ calls) =
    ready_left call (ready_owed lives calls) + ready_orders (orders_to_life (revival_state_of lives calls) call)

abbrev pub has_booted : LifeWire → Bool
has_booted (Open state) = hears_ready state
has_booted wire = false

-- After any calls:
pub record IsReadyAnswered (lives : ℕ) (calls : List RevivalCall) : Type 0 where
  -- Each accepted `isready` has had one `readyok`, or the present life has it and owes the answer,
  -- or it is held.
  pub counted : ready_accepted lives calls
      ≡ ready_answered lives calls + (ready_owed lives calls + (revival_state_of lives calls).held_ready)
  -- None is held from a life behind its `uciok`, unless `quit` was accepted.
  pub handed_on : (revival_state_of lives calls).quit ≡ false → has_booted (wire_of lives calls) ≡ true
      → (revival_state_of lives calls).held_ready ≡ 0
  -- Where no life is left, each has had its `readyok`.
  pub none_left : (revival_state_of lives calls).life ≡ life.Over
      → ready_accepted lives calls ≡ ready_answered lives calls
  -- A `readyok` of the present life is passed up exactly if the life owes one.
  pub passed_up : (line : List ℕ) → said_in line ≡ said.ReadyOk
      → gives (revival_state_of lives calls) (said_in line) ≡ nat_lt 0 (ready_owed lives calls)
  -- In each state from `uci` on, before `quit`, an `isready` is accepted, unless MOST_READY others
  -- wait for their answers.
  pub accepted : (line : List ℕ) → is_quit line ≡ false
      → order_of_line line ≡ Some orders.IsReady → (revival_state_of lives calls).quit ≡ false
      → is_before (revival_state_of lives calls).upper ≡ false
      → nat_lt (ready_owed lives calls + (revival_state_of lives calls).held_ready) MOST_READY ≡ true
      → ready_accepted lives (Order line ∷ calls) ≡ ready_accepted lives calls + 1

abbrev pub ReadyIsAnswered : Type 0
ReadyIsAnswered =
    (lives : ℕ) (calls : List RevivalCall) → CallsMayCome lives calls → IsReadyAnswered lives calls
