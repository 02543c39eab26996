-- The settings that were asked for and those that were written.
use Rattle.std.specs.Prelude.{◌≡◌, List, [], ◌∷◌, ◌++◌, true, if◌then◌else◌, Option, Some, None}
use Rattle.uci_lines.specs.Orders.{Order}
use Rattle.option_map.specs.WaitingOrders.Held.{held_for_same}
use Rattle.policy_rules.specs.declared.setting_rules.settings.Settings.{Settings}
use Rattle.desk_rules.specs.Orders.{asked_by_effect}
use Rattle.adapter_core.specs.Trace.{Step, LawfulTrace, state, situation_of_state, effect}
use Rattle.trace_laws.specs.Dialogue.{orders_begin_search}

-- the settings that were asked for, the oldest first
abbrev pub asked_for : Settings → List Step → List Order
asked_for o [] = []
asked_for o (step ∷ trace) =
    asked_for o trace
    ++ asked_by_effect (situation_of_state (state o trace)) (effect (state o trace) step.event)

-- the orders that were written, the oldest first
abbrev pub orders_written : List Step → List Order
orders_written [] = []
orders_written (step ∷ trace) = orders_written trace ++ step.orders

abbrev pub latest : Option Order → Option Order → Option Order
latest None before = before
latest (Some order) before = Some order

-- the last of these orders that is for the same game, or for the value of the
-- same option, as this one
abbrev pub last_order_for : Order → List Order → Option Order
last_order_for order [] = None
last_order_for order (other ∷ later) =
    latest (last_order_for order later) (if held_for_same order other then Some other else None)

-- The value asked for last is the value written last, or is held.
abbrev pub LastAskedStands : Settings → Type 0
LastAskedStands o =
    (trace : List Step) (order : Order) → LawfulTrace o trace
    → last_order_for order (orders_written trace ++ (state o trace).held)
    ≡ last_order_for order (asked_for o trace)

-- So if a search is begun, the last value that was written for an option is the
-- last one that was asked for.
abbrev pub SearchesHaveSettings : Settings → Type 0
SearchesHaveSettings o =
    (step : Step) (trace : List Step) (order : Order) → LawfulTrace o (step ∷ trace)
    → orders_begin_search step.orders ≡ true
    → last_order_for order (orders_written (step ∷ trace)) ≡ last_order_for order (asked_for o (step ∷ trace))
