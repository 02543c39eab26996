-- A lawful trace as a dialogue with the engine: one exchange for each step but the opening.
use Rattle.std.specs.Prelude.{◌≡◌, ℕ, ◌+◌, ◌≤◌, List, [], ◌∷◌, map}
use Rattle.std.specs.Prelude.{length, Bool, true, false, if◌then◌else◌}
use Rattle.uci_lines.specs.Orders.{Order}
use Rattle.uci_lines.specs.Orders as orders
use Rattle.protocol_tokens.specs.declared.kinds.GoKind.{GoKind}
use Rattle.policy_rules.specs.declared.setting_rules.settings.Settings.{Settings}
use Rattle.policy_rules.specs.SettingRules.Policy.{IsProper}
use Rattle.search_epochs.specs.History as history
use Rattle.search_epochs.specs.History.{Exchange}
use Rattle.search_epochs.specs.Tickets.{Search, SearchServesCall}
use Rattle.desk_rules.specs.Desk.{call_before}
use Rattle.desk_rules.specs.Orders.{dialogue_word_of}
use Rattle.adapter_core.specs.Ends.{is_open}
use Rattle.adapter_core.specs.Trace.{State, Step, LawfulTrace, state, situation_of_state}
use Rattle.adapter_core.specs.Trace.{turn_of_event, desk_of, closed_after}
use Rattle.adapter_core.specs.Shown.{moves_shown}

-- the meaning of a step to the dialogue
abbrev pub exchange : State → Step → Exchange
exchange s step = record {
  turn = turn_of_event s step.event;
  hint = (desk_of s step.event).hint;
  closed = closed_after s step.event;
  orders = map dialogue_word_of step.orders;
}

-- the exchanges of a trace: the opening writes `uci`, with which the dialogue begins
abbrev pub exchanges : Settings → List Step → List Exchange
exchanges o [] = []
exchanges o (step ∷ trace) =
    if is_open step.event then exchanges o trace
    else exchange (state o trace) step ∷ exchanges o trace

-- The exchanges are a lawful dialogue, and its dialogue is that of the state.
pub record IsDialogueOf (s : State) (xs : List Exchange) : Type 0 where
  pub lawful : history.LawfulHistory xs
  pub dialogue : history.dialogue xs ≡ s.dialogue
  pub closed : history.is_closed xs ≡ s.ends.closed

-- Each lawful trace is a lawful dialogue, so that all laws of lawful dialogues are laws of it.
abbrev pub TracesAreDialogues : Settings → Type 0
TracesAreDialogues o =
    (trace : List Step) → LawfulTrace o trace → IsDialogueOf (state o trace) (exchanges o trace)

-- SEARCHES

-- how many `stop`s were written since the last `go`
abbrev pub stop_lines_after : ℕ → List Order → ℕ
stop_lines_after n [] = n
stop_lines_after n (orders.Go ponder control depth ∷ later) = stop_lines_after 0 later
stop_lines_after n (orders.Stop ∷ later) = stop_lines_after (n + 1) later
stop_lines_after n (order ∷ later) = stop_lines_after n later

abbrev pub stop_lines_since_go : List Step → ℕ
stop_lines_since_go [] = 0
stop_lines_since_go (step ∷ trace) = stop_lines_after (stop_lines_since_go trace) step.orders

-- At most one `stop` is written from a `go` to the next.
abbrev pub StopLineComesOnce : Settings → Type 0
StopLineComesOnce o = (trace : List Step) → LawfulTrace o trace → stop_lines_since_go trace ≤ 1

abbrev pub orders_begin_search : List Order → Bool
orders_begin_search [] = false
orders_begin_search (orders.Go ponder control depth ∷ later) = true
orders_begin_search (order ∷ later) = orders_begin_search later

-- how many moves were shown since the last `go`; those of a step that writes
-- `go` were shown before it
abbrev pub shown_since_go : List Step → ℕ
shown_since_go [] = 0
shown_since_go (step ∷ trace) =
    if orders_begin_search step.orders then 0 else shown_since_go trace + length (moves_shown step.replies)

-- A search is answered by at most one shown move: from a `go` to the next, with the step that
-- writes the next, one is shown or none.
abbrev pub SearchesShowOnce : Settings → Type 0
SearchesShowOnce o =
    (step : Step) (trace : List Step) → LawfulTrace o (step ∷ trace)
    → shown_since_go trace + length (moves_shown step.replies) ≤ 1

-- THE CALL

-- The dialogue is steady, and what is called for and the hint are those of the desk.
pub record IsSteadyOf (s : State) (xs : List Exchange) : Type 0 where
  pub steady : history.Steady xs
  pub call : history.last_call xs ≡ call_before (situation_of_state s)
  pub hint : history.last_hint xs ≡ s.desk.hint

-- With proper settings the dialogue of each lawful trace is steady, so that it is no premise
-- of the laws of dialogues.
abbrev pub TracesAreSteady : Settings → Type 0
TracesAreSteady o =
    IsProper o → (trace : List Step) → LawfulTrace o trace
    → IsSteadyOf (state o trace) (exchanges o trace)

-- An open current search is of the kind that is called for, and was begun or renewed for just
-- this call, hint and all.
abbrev pub SearchesServe : Settings → Type 0
SearchesServe o =
    IsProper o → (trace : List Step) (k : GoKind) (stopped : Bool) → LawfulTrace o trace
    → (state o trace).ends.closed ≡ false
    → (state o trace).dialogue.engine ≡ Search k (state o trace).dialogue.epoch stopped
    → SearchServesCall k (call_before (situation_of_state (state o trace)))
    × (history.call_of_last_search (exchanges o trace) ≡ call_before (situation_of_state (state o trace)))
