-- The state kept of an engine that is started again, and how each call changes it.
use Rattle.std.specs.Prelude.{ℕ, ◌+◌, List, [], ◌∷◌, ◌++◌, codes, Bool, true, false}
use Rattle.std.specs.Prelude.{not, ◌&&◌, ◌||◌, ◌-◌, if◌then◌else◌, nat_lt, replicate, Option, Some, None}
use Rattle.std.specs.List.{flat_map}
use Rattle.protocol_tokens.specs.declared.kinds.GoKind.TheVariants as kinds
use Rattle.protocol_tokens.specs.Quit.{is_quit}
use Rattle.engine_revival.specs.Orders.{RevivalOrder}
use Rattle.engine_revival.specs.Orders as orders
use Rattle.engine_revival.specs.Asked.{order_of_line}
use Rattle.engine_revival.specs.declared.words.DialogueState.{DialogueState}
use Rattle.engine_revival.specs.declared.words.DialogueState.TheVariants as upper
use Rattle.engine_revival.specs.declared.words.LifeState.{LifeState}
use Rattle.engine_revival.specs.declared.words.LifeState.TheVariants as life
use Rattle.engine_revival.specs.declared.words.LifeSaid.{LifeSaid}
use Rattle.engine_revival.specs.declared.words.LifeSaid.TheVariants as said
use Rattle.engine_revival.specs.declared.words.DueOrders.{DueOrders}
use Rattle.engine_revival.specs.declared.words.DueOrders.TheVariants as due
use Rattle.engine_revival.specs.declared.words.StandInAnswer.{StandInAnswer}
use Rattle.engine_revival.specs.declared.words.StandInAnswer.TheVariants as answers
use Rattle.engine_revival.specs.declared.state.RevivalState.{RevivalState}
use Rattle.engine_revival.specs.declared.state.TheConstants.{MOST_READY}
use Rattle.engine_revival.specs.Dialogue.{after_order, after_said, said_in, is_before}
use Rattle.engine_revival.specs.Lists.{revival_list_with, revival_order_can_join}
use Rattle.line_io.specs.Lines.{line_feed}

-- The state has the number of lives that may be begun and of those begun; whether `quit` was
-- accepted, and whether a setting came that no list had room for; the upper state, that is the
-- dialogue with who gives the orders, by the orders that were accepted and the lines passed up;
-- and the state of the present life. Of the lists of orders, `kept` has what each option was
-- set to last, `unsent` what the present life did not get of the settings, and `search` the
-- orders of the last search. Of the accepted `isready` that have no `readyok` yet, `asked_ready` is
-- how many the present life was given, and `held_ready` how many are held for its `uciok`.

-- the first life is begun
abbrev pub opening_revival : ℕ → RevivalState
opening_revival lives = record {
  lives = lives;
  begun = 1;
  quit = false;
  full = false;
  upper = upper.Before;
  life = life.Fresh;
  kept = [];
  unsent = [];
  search = [];
  held_ready = 0;
  asked_ready = 0;
}

-- KEPT AND UNSENT

-- A setting that either list has no room for joins neither.
abbrev pub revival_with_value : Bool → RevivalState → RevivalOrder → RevivalState
revival_with_value true s order = record s {
  kept = revival_list_with s.kept order;
  unsent = revival_list_with s.unsent order;
}
revival_with_value false s order = record s { full = true }

abbrev pub with_button : Bool → RevivalState → RevivalOrder → RevivalState
with_button true s order = record s { unsent = revival_list_with s.unsent order }
with_button false s order = record s { full = true }

-- The lists after an accepted order. Kept is of each option the last value that it was set to.
-- Unsent is that too, and each button and `ucinewgame` once, all in the order in which they came
-- last. Of a search all orders are kept, from its last `position` on. An `isready` is held.
abbrev pub state_with_kept : RevivalState → RevivalOrder → RevivalState
state_with_kept s (orders.Value name line) =
    revival_with_value
    (revival_order_can_join s.kept (orders.Value name line) && revival_order_can_join s.unsent (orders.Value name line)) s
    (orders.Value name line)
state_with_kept s (orders.Button name line) =
    with_button (revival_order_can_join s.unsent (orders.Button name line)) s (orders.Button name line)
state_with_kept s orders.NewGame = record s { unsent = revival_list_with s.unsent orders.NewGame }
state_with_kept s orders.IsReady = record s { held_ready = s.held_ready + 1 }
state_with_kept s (orders.Position line) = record s { search = orders.Position line ∷ [] }
state_with_kept s (orders.Go kind line) = record s { search = s.search ++ orders.Go kind line ∷ [] }
state_with_kept s orders.PonderHit = record s { search = s.search ++ orders.PonderHit ∷ [] }
state_with_kept s orders.Stop = record s { search = s.search ++ orders.Stop ∷ [] }
state_with_kept s order = s

-- THE LIFE

-- an order that is written to the life as it comes
abbrev pub takes_at_once : LifeState → RevivalOrder → Bool
takes_at_once life.Fresh orders.Uci = true
takes_at_once life.Search orders.Stop = true
takes_at_once life.Search orders.PonderHit = true
takes_at_once state order = false

abbrev pub after_at_once : LifeState → RevivalOrder → LifeState
after_at_once life.Fresh orders.Uci = life.Boot
after_at_once state order = state

-- a life that got `uci` and has not ended
abbrev pub is_served : LifeState → Bool
is_served life.Boot = true
is_served life.Idle = true
is_served life.Search = true
is_served state = false

-- a life that has not ended
abbrev pub is_alive : LifeState → Bool
is_alive life.Ended = false
is_alive life.Over = false
is_alive state = true

-- true if a life has ended, and what follows is not known yet
abbrev pub is_ended : LifeState → Bool
is_ended life.Ended = true
is_ended state = false

abbrev pub life_after_said : LifeState → LifeSaid → LifeState
life_after_said life.Boot said.UciOk = life.Idle
life_after_said life.Search said.Best = life.Idle
life_after_said state s = state

-- WHAT IS WRITTEN TO A LIFE BEHIND ITS `uciok`

abbrev pub due_if_held : Bool → DueOrders
due_if_held true = due.Settings
due_if_held false = due.Nothing

-- What a life behind its `uciok` gets, unless `quit` was accepted: an idle one the open search, and
-- each one the `isready` that are held.
abbrev pub due_to : LifeState → Bool → DialogueState → Bool → DueOrders
due_to life.Idle false (upper.Search kind stopped) is_held = due.Search
due_to life.Idle false up is_held = due_if_held is_held
due_to life.Search false up is_held = due_if_held is_held
due_to state quit up is_held = due.Nothing

-- `isready` so often
abbrev pub readies : ℕ → List RevivalOrder
readies n = replicate n orders.IsReady

-- the unsent orders, each `isready` that is held, and the orders of the open search
abbrev pub due_orders : DueOrders → List RevivalOrder → ℕ → List RevivalOrder → List RevivalOrder
due_orders due.Nothing unsent held search = []
due_orders due.Settings unsent held search = unsent ++ readies held
due_orders due.Search unsent held search = unsent ++ (readies held ++ search)

abbrev pub after_due : DueOrders → RevivalState → RevivalState
after_due due.Nothing s = s
after_due due.Settings s = record s {
  unsent = [];
  held_ready = 0;
  asked_ready = s.asked_ready + s.held_ready;
}
after_due due.Search s = record s {
  life = life.Search;
  unsent = [];
  held_ready = 0;
  asked_ready = s.asked_ready + s.held_ready;
}

-- WHAT STANDS IN FOR AN ENGINE THAT HAS NO MORE LIVES

-- It boots, is ready as often as it was asked, and moves nowhere: in a search for a move, and in one
-- that is stopped.
abbrev pub answer_to : LifeState → DialogueState → StandInAnswer
answer_to life.Over upper.Boot = answers.UciOk
answer_to life.Over (upper.Search kinds.Move stopped) = answers.NoMove
answer_to life.Over (upper.Search kind true) = answers.NoMove
answer_to life.Over up = answers.ReadyOk
answer_to state up = answers.Nothing

abbrev pub after_answer : StandInAnswer → RevivalState → RevivalState
after_answer answers.Nothing s = s
after_answer answers.ReadyOk s = record s { held_ready = 0 }
after_answer answer s = record s { upper = upper.Idle; held_ready = 0 }

-- `readyok` so often, each on a line
abbrev pub readyoks : ℕ → List ℕ
readyoks n = flat_map (λ word. word ++ line_feed ∷ []) (replicate n (codes "readyok"))

-- where so many `isready` are held
abbrev pub stand_in_text : StandInAnswer → ℕ → List ℕ
stand_in_text answers.Nothing held = []
stand_in_text answers.UciOk held = (codes "uciok" ++ line_feed ∷ []) ++ readyoks held
stand_in_text answers.ReadyOk held = readyoks held
stand_in_text answers.NoMove held = readyoks held ++ (codes "bestmove 0000" ++ line_feed ∷ [])

-- WHAT IS GIVEN UP AS HEARD

-- Names, options and `uciok` while the upper engine boots; `readyok` of a life that was asked and
-- owes it; what a life says of its search.
abbrev pub is_given : LifeSaid → LifeState → DialogueState → Bool → Bool
is_given said.Introduction state upper.Boot is_owed = true
is_given said.UciOk state upper.Boot is_owed = true
is_given said.ReadyOk state up is_owed = is_owed
is_given said.Report life.Search up is_owed = true
is_given said.Best life.Search up is_owed = true
is_given s state up is_owed = false

abbrev pub gives : RevivalState → LifeSaid → Bool
gives s word = is_given word s.life s.upper (nat_lt 0 s.asked_ready)

-- the line, if it is passed up
abbrev pub line_passed_up : RevivalState → List ℕ → List ℕ
line_passed_up s line = if gives s (said_in line) then line ++ line_feed ∷ [] else []

-- EACH CALL, BEFORE WHAT FOLLOWS OF IT

abbrev pub state_if_accepted : Option DialogueState → RevivalState → RevivalOrder → RevivalState
state_if_accepted None s order = s
state_if_accepted (Some up) s order = record (state_with_kept s order) {
  upper = up;
  life = after_at_once s.life order;
}

abbrev pub is_ready_order : RevivalOrder → Bool
is_ready_order orders.IsReady = true
is_ready_order order = false

-- true if one more `isready` may wait for its `readyok`
abbrev pub has_ready_room : RevivalState → Bool
has_ready_room s = nat_lt (s.held_ready + s.asked_ready) MOST_READY

-- No order is accepted after `quit`, and no `isready` while as many as there may be have no answer.
abbrev pub is_order_refused : RevivalState → RevivalOrder → Bool
is_order_refused s order = s.quit || (is_ready_order order && not (has_ready_room s))

abbrev pub upper_if_accepted : RevivalState → RevivalOrder → Option DialogueState
upper_if_accepted s order = if is_order_refused s order then None else after_order order s.upper

abbrev pub state_after_reading : RevivalState → Option RevivalOrder → RevivalState
state_after_reading s None = s
state_after_reading s (Some order) = state_if_accepted (upper_if_accepted s order) s order

abbrev pub with_quit : RevivalState → RevivalState
with_quit s = record s { quit = true }

-- An order came. `quit` is accepted once, in every state.
abbrev pub state_after_line : RevivalState → List ℕ → RevivalState
state_after_line s line =
    if is_quit line then with_quit s else state_after_reading s (order_of_line line)

abbrev pub accepted_at_once : Option DialogueState → LifeState → RevivalOrder → List RevivalOrder
accepted_at_once None state order = []
accepted_at_once (Some up) state order = if takes_at_once state order then order ∷ [] else []

abbrev pub read_at_once : RevivalState → Option RevivalOrder → List RevivalOrder
read_at_once s None = []
read_at_once s (Some order) = accepted_at_once (upper_if_accepted s order) s.life order

-- `quit` is written at once to a life that got `uci` and has not ended.
abbrev pub quit_to : Bool → LifeState → List RevivalOrder
quit_to quit state = if not quit && is_served state then orders.Quit ∷ [] else []

-- the orders that are written to the life as they come
abbrev pub at_once : RevivalState → List ℕ → List RevivalOrder
at_once s line =
    if is_quit line then quit_to s.quit s.life else read_at_once s (order_of_line line)

-- how many `readyok` are owed then
abbrev pub owed_ready_after : LifeSaid → ℕ → ℕ
owed_ready_after said.ReadyOk n = n - 1
owed_ready_after word n = n

-- The life was heard.
abbrev pub state_once_heard : RevivalState → LifeSaid → RevivalState
state_once_heard s word = record s {
  upper = (if gives s word then after_said s.upper word else s.upper);
  life = life_after_said s.life word;
  asked_ready = owed_ready_after word s.asked_ready;
}

-- What a life that has ended did not answer is held again.
abbrev pub with_all_held : RevivalState → RevivalState
with_all_held s = record s { held_ready = s.held_ready + s.asked_ready; asked_ready = 0 }

-- The life has ended.
abbrev pub state_once_ended : RevivalState → RevivalState
state_once_ended s = record (with_all_held s) { life = life.Ended }

-- true if another life may begin
abbrev pub may_begin : RevivalState → Bool
may_begin s = nat_lt s.begun s.lives && not s.quit && not s.full

-- Another life begins. It got none of the settings, and `uci` if that came.
abbrev pub state_at_new_life : RevivalState → RevivalState
state_at_new_life s = record s {
  begun = s.begun + 1;
  life = (if is_before s.upper then life.Fresh else life.Boot);
  unsent = s.kept;
}

abbrev pub first_order : DialogueState → List RevivalOrder
first_order up = if is_before up then [] else orders.Uci ∷ []

-- The life has ended, and no other follows.
abbrev pub state_once_over : RevivalState → RevivalState
state_once_over s = record (with_all_held s) { life = life.Over }

-- AFTER EACH CALL

abbrev pub due_of : RevivalState → DueOrders
due_of s = due_to s.life s.quit s.upper (nat_lt 0 s.held_ready)

abbrev pub answer_of : RevivalState → StandInAnswer
answer_of s = answer_to s.life s.upper

abbrev pub state_once_settled : RevivalState → RevivalState
state_once_settled s = after_answer (answer_of s) (after_due (due_of s) s)

abbrev pub settled_orders : RevivalState → List RevivalOrder
settled_orders s = due_orders (due_of s) s.unsent s.held_ready s.search

abbrev pub settled_answers : RevivalState → List ℕ
settled_answers s = stand_in_text (answer_of s) s.held_ready
