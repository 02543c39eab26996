-- The limits of every core that stands for a lawful trace.
use Rattle.std.specs.Prelude.{◌≡◌, ℕ, ◌≤◌, List, length, Bool, false}
use Rattle.protocol_tokens.specs.declared.kinds.GoKind.{GoKind}
use Rattle.option_map.specs.WaitingOrders.Held.{held_batch_text}
use Rattle.option_map.specs.declared.waiting_orders.held.TheConstants.{MOST_ORDERS, MOST_BYTES}
use Rattle.policy_rules.specs.declared.setting_rules.settings.Settings.{Settings}
use Rattle.policy_rules.specs.SettingRules.Policy.{IsProper}
use Rattle.search_epochs.specs.declared.words.EngineState.TheVariants as states
use Rattle.search_epochs.specs.Tickets.{SearchServesCall}
use Rattle.desk_rules.specs.declared.pings.TheConstants.{MOST_PINGS}
use Rattle.desk_rules.specs.Desk.{call_before}
use Rattle.adapter_core.specs.Trace.{Step, LawfulTrace}
use Rattle.adapter_core.specs.Parts.{CoreParts, situation_of_parts}
use Rattle.adapter_core.specs.Represents.{Represents}

-- Orders are held up to their number and their bytes, pings up to their number, and in a session
-- that is not closed an open current search is of the kind that is called for.
pub record IsWithinLimits (core : CoreParts) : Type 0 where
  pub orders : length core.held ≤ MOST_ORDERS
  pub bytes : length (held_batch_text core.held) ≤ MOST_BYTES
  pub pings : length core.desk.pings ≤ MOST_PINGS
  pub search :
      (k : GoKind) (stopped : Bool) → core.ends.closed ≡ false
      → core.dialogue.state ≡ states.Search k false stopped
      → SearchServesCall k (call_before (situation_of_parts core))

abbrev pub CoresAreWithinLimits : Settings → Type 0
CoresAreWithinLimits o =
    (core : CoreParts) (trace : List Step) → IsProper o → LawfulTrace o trace → Represents o core trace
    → IsWithinLimits core
