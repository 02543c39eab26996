-- A core before its first step.
use Rattle.std.proofs.Common.{◌≡◌, [], ap}
use Rattle.policy_rules.specs.declared.setting_rules.settings.Settings.{Settings}
use Rattle.adapter_core.specs.Ends.{at_start}
use Rattle.adapter_core.specs.Parts.{CoreParts}
use Rattle.adapter_core.specs.Represents.{Represents}

-- a core before its first step may open
pub ends_at_first : (o : Settings) (core : CoreParts) → Represents o core [] → core.ends ≡ at_start
ends_at_first o core st = ap (λ (v : CoreParts). v.ends) st.0

pub settings_at_first : (o : Settings) (core : CoreParts) → Represents o core [] → core.settings ≡ o
settings_at_first o core st = ap (λ (v : CoreParts). v.settings) st.0
