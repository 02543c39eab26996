-- Early lines: settings that come before the engine's options are known.
use Rattle.std.specs.Prelude.{◌≡◌, ◌≢◌, ℕ, List, [], ◌∷◌, ◌++◌, map, true, false, if◌then◌else◌}
use Rattle.std.specs.List.{flat_map}
use Rattle.std.specs.Option.{option_to_list}
use Rattle.line_io.specs.Event as events
use Rattle.cecp_lines.specs.Replies.{Reply, Pong}
use Rattle.uci_lines.specs.Orders.{Order, IsReady}
use Rattle.option_map.specs.WaitingOrders.Held.{with_orders}
use Rattle.policy_rules.specs.declared.setting_rules.settings.Settings.{Settings}
use Rattle.search_epochs.specs.declared.words.EngineState.TheVariants as states
use Rattle.search_epochs.specs.Tickets.{is_move}
use Rattle.desk_rules.specs.declared.desk.Desk.{Desk}
use Rattle.desk_rules.specs.declared.effect.Refusal.{Refusal}
use Rattle.desk_rules.specs.Desk.{Situation}
use Rattle.desk_rules.specs.Steps.{Effect, Refuses, Defers, Boots, classify}
use Rattle.desk_rules.specs.Orders.{asked_by_effect, ponder_at_boot, analysis_at_boot}
use Rattle.desk_rules.specs.Replies.{reply_row, list_where}
use Rattle.adapter_core.specs.Trace.{State, Step, LawfulTrace, AreSettled, state, effect}
use Rattle.adapter_core.specs.Trace.{situation_of_state, trace_state_after, owed_after}
use Rattle.trace_laws.specs.Wire.{wire, Boot}

-- the line, if it is early and may wait
abbrev pub deferred : Effect → List (List ℕ)
deferred (Defers line) = line ∷ []
deferred d = []

-- the early lines that came, the oldest first
abbrev pub early_lines : Settings → List Step → List (List ℕ)
early_lines o [] = []
early_lines o (step ∷ trace) =
    early_lines o trace ++ deferred (effect (state o trace) step.event)

-- All early lines that came wait in Boot while the session is open. None waits once Boot was left,
-- in a closed session, or without the setting.
pub record LinesWaitInBoot (o : Settings) (trace : List Step) : Type 0 where
  pub wait : wire trace ≡ Boot → (state o trace).ends.closed ≡ false
      → (state o trace).desk.early ≡ early_lines o trace
  pub left : wire trace ≢ Boot → (state o trace).desk.early ≡ []
  pub closed : (state o trace).ends.closed ≡ true → (state o trace).desk.early ≡ []
  pub off : o.early_settings ≡ false → (state o trace).desk.early ≡ []

abbrev pub EarlyLinesWait : Settings → Type 0
EarlyLinesWait o = (trace : List Step) → LawfulTrace o trace → LinesWaitInBoot o trace

-- the desk right after Boot was left: the options count as declared, and no line waits
abbrev pub booted_desk : Desk → Desk
booted_desk d = record d { booted = true; due = false; early = [] }

-- and the situation then
abbrev pub once_booted : Situation → Situation
once_booted h = record h { engine = states.Getting; desk = booted_desk h.desk }

-- what would come of a line if it came then, with nothing held
abbrev pub effect_once_booted : Situation → List ℕ → Effect
effect_once_booted h line = classify (once_booted h) [] (events.Iface line)

-- what would be answered to it, and what it would ask for
abbrev pub answer_once_booted : Situation → List ℕ → List Reply
answer_once_booted h line = reply_row (once_booted h) (effect_once_booted h line)

abbrev pub orders_once_booted : Situation → List ℕ → List Order
orders_once_booted h line = asked_by_effect (once_booted h) (effect_once_booted h line)

-- The step that leaves Boot answers each early line, in turn, as if it came right after Boot was
-- left: behind the feature list, if that is due, and before pongs. What the lines ask for joins
-- what was held, before the settings for pondering and analysis.
pub record EarlyLinesAreAnswered (s : State) (step : Step) : Type 0 where
  pub replies : step.replies ≡
      list_where s.desk.due (booted_desk s.desk)
      ++ flat_map (answer_once_booted (situation_of_state s)) s.desk.early
      ++ (if is_move (owed_after s step.event) then [] else map Pong s.desk.pings)
  pub orders : step.orders ≡
      with_orders s.held
      (flat_map (orders_once_booted (situation_of_state s)) s.desk.early
      ++ option_to_list (ponder_at_boot s.desk) ++ option_to_list (analysis_at_boot s.desk))
      ++ IsReady ∷ []

abbrev pub EarlyLinesComeInTime : Settings → Type 0
EarlyLinesComeInTime o =
    (step : Step) (trace : List Step) → LawfulTrace o (step ∷ trace)
    → effect (state o trace) step.event ≡ Boots → EarlyLinesAreAnswered (state o trace) step

-- the same, if these lines waited
abbrev pub with_early : State → List (List ℕ) → State
with_early s lines = record s { desk = record s.desk { early = lines } }

-- An early line that is refused when Boot is left changes nothing and asks for nothing: without it
-- the step has the same orders, and leaves the same.
abbrev pub RefusedEarlyLinesChangeNothing : Settings → Type 0
RefusedEarlyLinesChangeNothing o =
    (step : Step) (trace : List Step) (before behind : List (List ℕ)) (line : List ℕ)
    → LawfulTrace o (step ∷ trace) → effect (state o trace) step.event ≡ Boots
    → (state o trace).desk.early ≡ before ++ line ∷ behind
    → (r : Refusal) (text : List ℕ)
    → effect_once_booted (situation_of_state (state o trace)) line ≡ Refuses r text
    → AreSettled (with_early (state o trace) (before ++ behind)) step.event step.orders
    × (trace_state_after (with_early (state o trace) (before ++ behind)) step
    ≡ trace_state_after (state o trace) step)
