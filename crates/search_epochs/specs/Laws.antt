-- The laws of the dialogue: of one turn, and of every list of exchanges.
use Rattle.std.specs.Prelude.{◌≡◌, ◌≢◌, ℕ, ◌≤◌, List, [], ◌∷◌, ◌++◌}
use Rattle.std.specs.Prelude.{map, Bool, true, false, Option, Some}
use Rattle.chess_board.specs.declared.board.Move.{Move}
use Rattle.protocol_tokens.specs.declared.kinds.GoKind.{GoKind}
use Rattle.protocol_tokens.specs.declared.kinds.GoKind.TheVariants as kinds
use Rattle.search_epochs.specs.declared.words.Call.{Call}
use Rattle.search_epochs.specs.declared.words.Call.TheVariants as calls
use Rattle.search_epochs.specs.Tickets.{Engine, Idle, Search, Gone, Word, Setup, IsReady}
use Rattle.search_epochs.specs.Tickets.{Position, Go, Stop, PonderHit, Quit, Ticketed}
use Rattle.search_epochs.specs.Tickets.{DialogueTurn, TicketWithin, LastWithin, AllSetup}
use Rattle.search_epochs.specs.Tickets.{Settled, IsLiveOnlyAt, SearchServesCall, Paired, before_orders}
use Rattle.search_epochs.specs.Tickets.{engine_after_orders, owed, is_call_spent, is_due, is_ponder_hit, is_move_now}
use Rattle.search_epochs.specs.Tickets.{is_move, is_engine_idle, has_no_order, is_no_call, has_go, has_quit_order, only}
use Rattle.search_epochs.specs.Dialogue.{dialogue_between_steps, kept_mid, mid_dialogue}
use Rattle.search_epochs.specs.Dialogue.{settled_by, after_settled, words}
use Rattle.search_epochs.specs.History.{Exchange, Steady, Chosen, LawfulHistory, dialogue, view}
use Rattle.search_epochs.specs.History.{last_hint, last_call, is_closed, call_of_last_search}
use Rattle.search_epochs.specs.History.{stop_orders_since_go, engine_at, without_orders}

-- one turn

-- the code keeps the right thing after the event: without the epoch's number it knows what
-- is stale and what is spent
abbrev pub MidIsKept : Type 0
MidIsKept =
    (t : Ticketed) (u : DialogueTurn) → TicketWithin t.epoch t.engine → LastWithin t.epoch t.last
    → mid_dialogue (dialogue_between_steps t u.hint) u.what u.begins_epoch ≡ kept_mid t u

-- the orders that are chosen are settled
abbrev pub TurnIsSettled : Type 0
TurnIsSettled =
    (t : Ticketed) (u : DialogueTurn) → AllSetup u.waiting
    → Settled (before_orders t u).engine (before_orders t u).epoch (owed (before_orders t u) u.call)
    u.waiting (is_due t u) (is_ponder_hit t u) (is_move_now u.what) (words u.waiting (settled_by t u))

-- and what is kept goes on with the tickets, if the hint afterwards is the one before, unless an
-- epoch begins, and is named by a call to ponder that is owed
abbrev pub TurnIsKept : Type 0
TurnIsKept =
    (t : Ticketed) (u : DialogueTurn) (hint : Option Move) → TicketWithin t.epoch t.engine
    → AllSetup u.waiting
    → (u.begins_epoch ≡ false → hint ≡ u.hint)
    → ((h : Move) → owed (before_orders t u) u.call ≡ calls.Ponder h → hint ≡ Some h)
    → after_settled (kept_mid t u) (settled_by t u)
    ≡ dialogue_between_steps (engine_after_orders (before_orders t u) (words u.waiting (settled_by t u))) hint

-- what is settled is one list of orders
abbrev pub SettledIsUnique : Type 0
SettledIsUnique =
    (engine : Engine) (epoch : ℕ) (owing : Call) (waiting : List Word) (due hits hurries : Bool)
    (ws ws' : List Word)
    → Settled engine epoch owing waiting due hits hurries ws
    → Settled engine epoch owing waiting due hits hurries ws' → ws ≡ ws'

-- and which list it is
abbrev pub SettledIsOnly : Type 0
SettledIsOnly =
    (engine : Engine) (epoch : ℕ) (owing : Call) (waiting : List Word) (due hits hurries : Bool)
    (ws : List Word)
    → Settled engine epoch owing waiting due hits hurries ws
    → ws ≡ only engine epoch owing waiting due hits hurries

-- whole dialogues

-- a dialogue whose orders the code chose is lawful
abbrev pub ChosenIsLawful : Type 0
ChosenIsLawful = (xs : List Exchange) → Steady xs → Chosen xs → LawfulHistory xs

-- a lawful dialogue is one whose orders the code chose
abbrev pub LawfulIsChosen : Type 0
LawfulIsChosen = (xs : List Exchange) → Steady xs → LawfulHistory xs → Chosen xs

-- in each, what the code keeps goes with the tickets
abbrev pub DialogueIsKept : Type 0
DialogueIsKept =
    (xs : List Exchange) → Steady xs → LawfulHistory xs
    → view xs ≡ dialogue_between_steps (dialogue xs) (last_hint xs)

-- two lawful dialogues in which the same is asked are the same
abbrev pub DialogueIsUnique : Type 0
DialogueIsUnique =
    (xs ys : List Exchange) → LawfulHistory xs → LawfulHistory ys → map without_orders xs ≡ map without_orders ys
    → xs ≡ ys

-- no ticket is ever above the epoch
abbrev pub TicketsAreWithin : Type 0
TicketsAreWithin =
    (xs : List Exchange)
    → TicketWithin (dialogue xs).epoch (dialogue xs).engine
    × LastWithin (dialogue xs).epoch (dialogue xs).last

-- searches

-- an open search that is not stopped is current
abbrev pub LiveIsCurrent : Type 0
LiveIsCurrent =
    (xs : List Exchange) → LawfulHistory xs → IsLiveOnlyAt (dialogue xs).epoch (dialogue xs).engine

-- a current search that is stopped is for a Move
abbrev pub StoppedIsForMove : Type 0
StoppedIsForMove =
    (xs : List Exchange) (k : GoKind) → LawfulHistory xs
    → (dialogue xs).engine ≡ Search k (dialogue xs).epoch true → k ≡ kinds.Move

-- there is no open current search beside spent
abbrev pub CurrentIsUnspent : Type 0
CurrentIsUnspent =
    (xs : List Exchange) (k : GoKind) (stopped : Bool) → LawfulHistory xs
    → (dialogue xs).engine ≡ Search k (dialogue xs).epoch stopped
    → is_call_spent (dialogue xs) ≡ false

-- at most one `stop` is written from a `go` to the next, so in a search, which ends with its answer
-- and goes on after a `ponderhit`
abbrev pub StopOrderComesOnce : Type 0
StopOrderComesOnce = (xs : List Exchange) → LawfulHistory xs → stop_orders_since_go xs ≤ 1

-- an idle engine is left idle only if nothing is owed and nothing waits
abbrev pub NothingIsLeft : Type 0
NothingIsLeft =
    (x : Exchange) (xs : List Exchange) → LawfulHistory (x ∷ xs) → x.closed ≡ false
    → is_engine_idle (dialogue (x ∷ xs)).engine ≡ true
    → (has_no_order x.turn.waiting ≡ true) × (is_no_call (owed (dialogue (x ∷ xs)) x.turn.call) ≡ true)

-- calls

-- an open current search is of the kind that is called for, and was begun or renewed for
-- just this call, hint and all
abbrev pub CurrentServes : Type 0
CurrentServes =
    (xs : List Exchange) (k : GoKind) (stopped : Bool) → Steady xs → LawfulHistory xs
    → is_closed xs ≡ false
    → (dialogue xs).engine ≡ Search k (dialogue xs).epoch stopped
    → SearchServesCall k (last_call xs) × (call_of_last_search xs ≡ last_call xs)

-- a call for a Move is never spent: a Move is owed if and only if it is called for
abbrev pub MoveIsOwed : Type 0
MoveIsOwed =
    (xs : List Exchange) → Steady xs → LawfulHistory xs
    → is_move (owed (dialogue xs) (last_call xs)) ≡ is_move (last_call xs)

-- where orders stand

-- settings, `isready`, `position` and `go` reach only an idle engine
abbrev pub order_needs_idle : Word → Bool
order_needs_idle Setup = true
order_needs_idle IsReady = true
order_needs_idle Position = true
order_needs_idle (Go k) = true
order_needs_idle w = false

abbrev pub IdleEngineGetsOrders : Type 0
IdleEngineGetsOrders =
    (x : Exchange) (xs : List Exchange) (before behind : List Word) (w : Word) → LawfulHistory (x ∷ xs)
    → x.orders ≡ before ++ w ∷ behind
    → order_needs_idle w ≡ true → engine_at xs x before ≡ Idle

-- `stop` reaches only an open search that is not stopped
abbrev pub SearchGetsStop : Type 0
SearchGetsStop =
    (x : Exchange) (xs : List Exchange) (before behind : List Word) → LawfulHistory (x ∷ xs)
    → x.orders ≡ before ++ Stop ∷ behind
    → (k : GoKind) × (ticket : ℕ) × (engine_at xs x before ≡ Search k ticket false)

-- `ponderhit` reaches only an open Ponder search that is not stopped
abbrev pub PonderGetsHit : Type 0
PonderGetsHit =
    (x : Exchange) (xs : List Exchange) (before behind : List Word) → LawfulHistory (x ∷ xs)
    → x.orders ≡ before ++ PonderHit ∷ behind
    → (ticket : ℕ) × (engine_at xs x before ≡ Search kinds.Ponder ticket false)

-- nothing reaches a gone engine
abbrev pub GoneGetsNothing : Type 0
GoneGetsNothing =
    (x : Exchange) (xs : List Exchange) (before behind : List Word) (w : Word) → LawfulHistory (x ∷ xs)
    → x.orders ≡ before ++ w ∷ behind
    → engine_at xs x before ≢ Gone

-- each `go` comes directly after a `position`, and each `position` directly before a `go`
abbrev pub GoFollowsPosition : Type 0
GoFollowsPosition = (x : Exchange) (xs : List Exchange) → LawfulHistory (x ∷ xs) → Paired x.orders

-- `quit` is written only by the step that closes the session, alone; after it nothing is written
abbrev pub QuitOrderIsLast : Type 0
QuitOrderIsLast =
    (x : Exchange) (xs : List Exchange) → LawfulHistory (x ∷ xs)
    → (x.closed ≡ false → has_quit_order x.orders ≡ false)
    × (has_quit_order x.orders ≡ true → x.orders ≡ Quit ∷ []) × (is_closed xs ≡ true → x.orders ≡ [])

-- fences

-- with FenceStops on a search is begun only where no `stop` is unfenced
abbrev pub GoIsFenced : Type 0
GoIsFenced =
    (x : Exchange) (xs : List Exchange) → LawfulHistory (x ∷ xs)
    → x.turn.fences ≡ true → has_go x.orders ≡ true
    → (before_orders (dialogue xs) x.turn).unfenced ≡ false

abbrev pub AllFence : List Exchange → Type 0
AllFence [] = Unit {0}
AllFence (x ∷ xs) = AllFence xs × (x.turn.fences ≡ true)

-- in an open search a `stop` is unfenced if and only if the search is stopped
abbrev pub IsFencedUnlessStopped : Engine → Bool → Type 0
IsFencedUnlessStopped (Search k ticket stopped) unfenced = unfenced ≡ stopped
IsFencedUnlessStopped e unfenced = Unit {0}

abbrev pub SearchIsFenced : Type 0
SearchIsFenced =
    (xs : List Exchange) → AllFence xs → LawfulHistory xs
    → IsFencedUnlessStopped (dialogue xs).engine (dialogue xs).unfenced
