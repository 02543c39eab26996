-- For each list of events that may come there is a lawful trace with them.
use Rattle.std.specs.Prelude.{◌≡◌, List, [], ◌∷◌, map, true}
use Rattle.line_io.specs.Event.{Event}
use Rattle.policy_rules.specs.declared.setting_rules.settings.Settings.{Settings}
use Rattle.policy_rules.specs.SettingRules.Policy.{IsProper}
use Rattle.adapter_core.specs.declared.ends.Ends.{Ends}
use Rattle.adapter_core.specs.Ends.{may, ends_after, at_start}
use Rattle.adapter_core.specs.Trace.{Step, LawfulTrace, event_of_step}

-- which sides have ended after these events, the newest first
abbrev pub ends_of : List Event → Ends
ends_of [] = at_start
ends_of (e ∷ es) = ends_after (ends_of es) e

-- each of the events may come after those before it
abbrev pub EachMayCome : List Event → Type 0
EachMayCome [] = Unit {0}
EachMayCome (e ∷ es) = EachMayCome es × (may (ends_of es) e ≡ true)

-- there is a lawful trace with these events
pub record HasTrace (o : Settings) (es : List Event) : Type 0 where
  pub trace : List Step
  pub lawful : LawfulTrace o trace
  pub events : map event_of_step trace ≡ es

-- With proper settings each list of events that may come has a lawful trace.
abbrev pub TracesExist : Settings → Type 0
TracesExist o = IsProper o → (es : List Event) → EachMayCome es → HasTrace o es

-- And the events of each lawful trace may come.
abbrev pub EventsMayCome : Settings → Type 0
EventsMayCome o = (trace : List Step) → LawfulTrace o trace → EachMayCome (map event_of_step trace)
