-- Laws of every list of calls. The lists have the newest call first.
use Rattle.std.specs.Prelude.{ℕ, ◌≡◌, ◌+◌, ◌≤◌, ◌⊎◌, if◌then◌else◌, Bool, true, false, not}
use Rattle.std.specs.Prelude.{◌&&◌, ◌||◌, List, [], ◌∷◌, Option, Some, None, IsSome}
use Rattle.std.specs.Option.{option_or}
use Rattle.chess_board.specs.declared.board.Move.{Move}
use Rattle.protocol_tokens.specs.declared.kinds.GoKind.{GoKind}
use Rattle.protocol_tokens.specs.declared.kinds.GoKind.TheVariants as kinds
use Rattle.driver_state_machine.specs.declared.words.OpenSearch.{OpenSearch}
use Rattle.driver_state_machine.specs.declared.words.ToIface.{ToIface}
use Rattle.driver_state_machine.specs.declared.words.ToIface.TheVariants as ups
use Rattle.driver_state_machine.specs.declared.words.ToEngine.{ToEngine}
use Rattle.driver_state_machine.specs.declared.words.ToEngine.TheVariants as downs
use Rattle.driver_state_machine.specs.declared.words.DriverAction.{DriverAction}
use Rattle.driver_state_machine.specs.declared.driver_state.DriverState.{DriverState}
use Rattle.driver_state_machine.specs.declared.driver_state.Reach.TheVariants as reaches
use Rattle.driver_state_machine.specs.declared.driver_state.WantedSearch.{WantedSearch}
use Rattle.driver_state_machine.specs.declared.driver_state.DriverCall.{DriverCall}
use Rattle.driver_state_machine.specs.declared.driver_state.DriverCall.TheVariants as calls
use Rattle.driver_state_machine.specs.declared.words.AfterAnalysis.TheVariants.{Answer}
use Rattle.driver_state_machine.specs.declared.words.Phase.{Phase}
use Rattle.driver_state_machine.specs.declared.words.Phase.TheVariants.{Rests, Leaves}
use Rattle.driver_state_machine.specs.declared.words.Thought.{Thought}
use Rattle.driver_state_machine.specs.DriverState.{first_talk, driver_turn_of, quiet, is_free, is_thinking, engine_thinks}
use Rattle.driver_state_machine.specs.DriverState.{is_awaited, open_search, is_open_stage, reaches_depth}

-- the talk after these calls
abbrev pub state_after_calls : List DriverCall → DriverState
state_after_calls [] = first_talk
state_after_calls (c ∷ cs) = (driver_turn_of (state_after_calls cs) c).talk

-- the outcome of a call after these
abbrev pub action_after : List DriverCall → DriverCall → DriverAction
action_after cs c = (driver_turn_of (state_after_calls cs) c).action

-- COUNTS

abbrev pub is_accepted : DriverState → DriverCall → Bool
is_accepted t (calls.Go wanted) = is_free t
is_accepted t c = false

abbrev pub is_bestmove : ToIface → Bool
is_bestmove (ups.Best shown) = true
is_bestmove up = false

abbrev pub one_if : Bool → ℕ
one_if b = if b then 1 else 0

-- how many `go` were accepted
abbrev pub gos : List DriverCall → ℕ
gos [] = 0
gos (c ∷ cs) = one_if (is_accepted (state_after_calls cs) c) + gos cs

-- how many `bestmove` were given
abbrev pub bestmoves_given : List DriverCall → ℕ
bestmoves_given [] = 0
bestmoves_given (c ∷ cs) = one_if (is_bestmove (action_after cs c).up) + bestmoves_given cs

abbrev pub open_count : Option OpenSearch → ℕ
open_count None = 0
open_count (Some s) = 1

-- Each accepted `go` has its one `bestmove`, except the one that is open. This holds after each
-- call, so no `bestmove` comes before its `go`, and none twice.
abbrev pub AnsweredOnce : Type 0
AnsweredOnce = (cs : List DriverCall) → gos cs ≡ bestmoves_given cs + open_count (state_after_calls cs).search

-- PINGS

-- the number of the ping that is written
abbrev pub written_ping : ToEngine → Option ℕ
written_ping (downs.Analyse clocks ping) = ping
written_ping (downs.Leave ping) = Some ping
written_ping (downs.Retreat ping) = Some ping
written_ping down = None

-- the last ping that was written
abbrev pub last_ping : List DriverCall → Option ℕ
last_ping [] = None
last_ping (c ∷ cs) = option_or (written_ping (action_after cs c).down) (last_ping cs)

-- a pong, before `quit`, takes away the ping that it answers
abbrev pub less_pong : DriverCall → DriverState → Option ℕ → Option ℕ
less_pong (calls.Pong n) t ping = if is_open_stage t.stage && is_awaited ping n then None else ping
less_pong c t ping = ping

-- the ping that was written last, if its pong has not come since
abbrev pub unanswered_ping : List DriverCall → Option ℕ
unanswered_ping [] = None
unanswered_ping (c ∷ cs) =
    option_or (written_ping (action_after cs c).down) (less_pong c (state_after_calls cs) (unanswered_ping cs))

-- A ping that is awaited was written, and none after it.
abbrev pub AwaitedWasWritten : Type 0
AwaitedWasWritten =
    (cs : List DriverCall) (n : ℕ) → (state_after_calls cs).awaited ≡ Some n → last_ping cs ≡ Some n

-- A ping is awaited as long as its pong has not come.
abbrev pub AwaitedIsUnanswered : Type 0
AwaitedIsUnanswered = (cs : List DriverCall) → (state_after_calls cs).awaited ≡ unanswered_ping cs

-- WHAT AN OPEN SEARCH DOES

abbrev pub orders_thinking : ToEngine → Bool
orders_thinking (downs.Play clocks at_once) = true
orders_thinking (downs.Resume clocks) = true
orders_thinking down = false

-- The engine was set to think since the last `bestmove`.
abbrev pub has_thinking_search : List DriverCall → Bool
has_thinking_search [] = false
has_thinking_search (c ∷ cs) =
    if is_bestmove (action_after cs c).up then false
    else orders_thinking (action_after cs c).down || has_thinking_search cs

abbrev pub is_search_open : Option OpenSearch → Bool
is_search_open None = false
is_search_open (Some s) = true

-- a `stop` that reaches an open search
abbrev pub is_stop_reaching : DriverState → DriverCall → Bool
is_stop_reaching t calls.Stop = is_open_stage t.stage && is_search_open t.search
is_stop_reaching t c = false

-- a `stop` came since the last `go` that was accepted
abbrev pub got_stop : List DriverCall → Bool
got_stop [] = false
got_stop (c ∷ cs) = if is_accepted (state_after_calls cs) c then false else is_stop_reaching (state_after_calls cs) c || got_stop cs

-- a `ponderhit` that reaches an open search
abbrev pub is_ponderhit_reaching : DriverState → DriverCall → Bool
is_ponderhit_reaching t calls.PonderHit = is_open_stage t.stage && is_search_open t.search
is_ponderhit_reaching t c = false

-- a `ponderhit` came since the last `go` that was accepted
abbrev pub got_ponderhit : List DriverCall → Bool
got_ponderhit [] = false
got_ponderhit (c ∷ cs) = if is_accepted (state_after_calls cs) c then false else is_ponderhit_reaching (state_after_calls cs) c || got_ponderhit cs

-- an analysis goes on until `stop`, and one that ponders until `ponderhit` too
abbrev pub search_goes_on : GoKind → Bool → Bool → Bool
search_goes_on kinds.Move got_stop got_ponderhit = false
search_goes_on kinds.Ponder got_stop got_ponderhit = not got_stop && not got_ponderhit
search_goes_on kinds.Analyse got_stop got_ponderhit = not got_stop

-- An open search is one whose engine was set to think, an analysis that goes on, or one that waits
-- for a ping whose pong has not come.
abbrev pub IsBusy : List DriverCall → OpenSearch → Type 0
IsBusy cs s =
    (has_thinking_search cs ≡ true)
    ⊎ ((search_goes_on s.kind (got_stop cs) (got_ponderhit cs) ≡ true) ⊎ IsSome (unanswered_ping cs))

abbrev pub OpenIsBusy : Type 0
OpenIsBusy = (cs : List DriverCall) (s : OpenSearch) → (state_after_calls cs).search ≡ Some s → IsBusy cs s

-- WHEN NOTHING IS GIVEN

-- A `move`, a resignation or a result outside of thinking gives and changes nothing.
abbrev pub MovesAreIgnored : Type 0
MovesAreIgnored =
    (t : DriverState) (shown : Option Move) → is_thinking t ≡ false
    → (driver_turn_of t (calls.Moved shown) ≡ quiet t) × (driver_turn_of t calls.Resigned ≡ quiet t)

-- an open search keeps no move, and is in this phase
abbrev pub KeepsNoneIn : Phase → Option OpenSearch → Type 0
KeepsNoneIn phase None = ⊥
KeepsNoneIn phase (Some s) = (s.kept ≡ None) × (s.phase ≡ phase)

-- why a `go` is answered at once: a move is asked for and there is none, the engine has ended, or
-- the position cannot be searched
abbrev pub HasNoSearch : DriverState → WantedSearch → Type 0
HasNoSearch t w =
    ((w.first ≡ None) × (w.kind ≡ kinds.Move)) ⊎ ((t.gone ≡ true) ⊎ (w.reach ≡ reaches.Nothing))

-- why there is no move: no position can be searched, an analysis of one without a move is ended by
-- the interface, the engine's move is illegal, it gave up, or it ended
abbrev pub SearchHasNoMove : DriverState → DriverCall → Type 0
SearchHasNoMove t (calls.Go w) = (is_free t ≡ true) × HasNoSearch t w
SearchHasNoMove t calls.Stop = KeepsNoneIn Rests (open_search t)
SearchHasNoMove t calls.PonderHit = KeepsNoneIn Rests (open_search t)
SearchHasNoMove t (calls.Pong n) = KeepsNoneIn (Leaves Answer) t.search
SearchHasNoMove t (calls.Moved None) = is_thinking t ≡ true
SearchHasNoMove t calls.Resigned = is_thinking t ≡ true
SearchHasNoMove t calls.Ended = is_search_open (open_search t) ≡ true
SearchHasNoMove t c = ⊥

-- `bestmove 0000` comes only so.
abbrev pub NoMoveHasCause : Type 0
NoMoveHasCause =
    (t : DriverState) (c : DriverCall) → (driver_turn_of t c).action.up ≡ ups.Best None → SearchHasNoMove t c

-- PONGS

abbrev pub message_begins_search : ToEngine → Bool
message_begins_search (downs.Analyse clocks ping) = true
message_begins_search down = orders_thinking down

-- no ping is awaited, or this call is its pong
abbrev pub IsAnswered : Option ℕ → DriverCall → Type 0
IsAnswered None c = Unit {0}
IsAnswered (Some ping) (calls.Pong n) = ping ≡ n
IsAnswered (Some ping) c = ⊥

-- The engine is set to think or to analyse only if no ping is awaited, or by the pong.
abbrev pub PongsComeFirst : Type 0
PongsComeFirst =
    (t : DriverState) (c : DriverCall) → message_begins_search (driver_turn_of t c).action.down ≡ true
    → IsAnswered t.awaited c

-- MOVE NOW

-- `?` is written, alone or behind `go`
abbrev pub writes_prompt : ToEngine → Bool
writes_prompt downs.OrderMoveNow = true
writes_prompt (downs.Play clocks at_once) = at_once
writes_prompt down = false

abbrev pub one_more_if : Bool → ℕ → ℕ
one_more_if b n = if b then n + 1 else n

-- how often `?` was written since the last `go` that was accepted
abbrev pub prompts : List DriverCall → ℕ
prompts [] = 0
prompts (c ∷ cs) =
    one_more_if (writes_prompt (action_after cs c).down)
    (if is_accepted (state_after_calls cs) c then 0 else prompts cs)

-- the engine thinks on its move, and has reached the depth of the `go`
abbrev pub reaches_in : Option OpenSearch → Thought → Bool
reaches_in None thought = false
reaches_in (Some s) thought = engine_thinks s.phase && reaches_depth s.clocks thought

-- a thinking line by which it has
abbrev pub is_deep : DriverState → DriverCall → Bool
is_deep t (calls.Thought thought) = reaches_in (open_search t) thought
is_deep t c = false

-- such a line came since the engine was set to think
abbrev pub was_deep : List DriverCall → Bool
was_deep [] = false
was_deep (c ∷ cs) =
    if orders_thinking (action_after cs c).down then false else is_deep (state_after_calls cs) c || was_deep cs

-- While the engine thinks on its move, `?` was written once if the search was stopped or such a
-- line came, and else never.
abbrev pub PromptsAreDue : Type 0
PromptsAreDue =
    (cs : List DriverCall) → is_thinking (state_after_calls cs) ≡ true
    → prompts cs ≡ one_if (got_stop cs || was_deep cs)

-- It is written once a search at most.
abbrev pub PromptsOnce : Type 0
PromptsOnce = (cs : List DriverCall) → prompts cs ≤ 1

-- It comes with a `stop`, with such a line, or behind the `go` of a search that was stopped before.
abbrev pub HasPrompt : List DriverCall → DriverCall → Type 0
HasPrompt cs c =
    (is_stop_reaching (state_after_calls cs) c ≡ true) ⊎ ((is_deep (state_after_calls cs) c ≡ true)
    ⊎ ((got_stop cs ≡ true) × (orders_thinking (action_after cs c).down ≡ true)))

abbrev pub PromptsHaveCause : Type 0
PromptsHaveCause =
    (cs : List DriverCall) (c : DriverCall) → writes_prompt (action_after cs c).down ≡ true
    → HasPrompt cs c
