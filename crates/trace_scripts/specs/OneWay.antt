-- A script is read back in one way only.
use Rattle.std.specs.Prelude.{◌≡◌, List, true}
use Rattle.policy_rules.specs.declared.setting_rules.settings.Settings.{Settings}
use Rattle.policy_rules.specs.SettingRules.Policy.{IsProper}
use Rattle.adapter_core.specs.Trace.{Step, LawfulTrace, state}
use Rattle.trace_scripts.specs.Script.{script1, script2}

-- the session was opened
abbrev pub IsOpened : Settings → List Step → Type 0
IsOpened settings trace = (state settings trace).ends.opened ≡ true

-- Two lawful traces of opened sessions with the same script of version 1 are equal.
abbrev pub HasOneTrace : Settings → Type 0
HasOneTrace settings =
    (t t' : List Step) → LawfulTrace settings t → LawfulTrace settings t'
    → IsOpened settings t → IsOpened settings t'
    → script1 t ≡ script1 t' → t ≡ t'

-- Two lawful traces with the same script of version 2 or 3 are equal, and so are their settings.
abbrev pub HasOneSession : Settings → Type 0
HasOneSession settings =
    (settings' : Settings) (t t' : List Step) → IsProper settings → IsProper settings'
    → LawfulTrace settings t → LawfulTrace settings' t'
    → script2 settings t ≡ script2 settings' t' → (settings ≡ settings') × (t ≡ t')
