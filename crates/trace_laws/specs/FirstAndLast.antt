-- The first order and the last one.
use Rattle.std.specs.Prelude.{◌≡◌, List, [], ◌∷◌, ◌++◌, Bool, true, false}
use Rattle.uci_lines.specs.Orders.{Order}
use Rattle.uci_lines.specs.Orders as orders
use Rattle.policy_rules.specs.declared.setting_rules.settings.Settings.{Settings}
use Rattle.adapter_core.specs.Trace.{Step, LawfulTrace}
use Rattle.trace_laws.specs.Values.{orders_written}

-- one of these orders is `uci`
abbrev pub has_uci : List Order → Bool
has_uci [] = false
has_uci (orders.Uci ∷ later) = true
has_uci (order ∷ later) = has_uci later

-- `uci` is the first of these orders, and no later one.
pub record BeginsWithUci (written : List Order) : Type 0 where
  pub later : List Order
  pub first : written ≡ orders.Uci ∷ later
  pub once : has_uci later ≡ false

-- Once a session is opened, `uci` was written first, and it is written once.
abbrev pub UciIsFirst : Settings → Type 0
UciIsFirst o =
    (step : Step) (trace : List Step) → LawfulTrace o (step ∷ trace)
    → BeginsWithUci (orders_written (step ∷ trace))

-- Nothing is written behind a `quit`. So it is written once at most, and last.
abbrev pub QuitIsLast : Settings → Type 0
QuitIsLast o =
    (trace : List Step) (before behind : List Order) → LawfulTrace o trace
    → orders_written trace ≡ before ++ orders.Quit ∷ behind → behind ≡ []
