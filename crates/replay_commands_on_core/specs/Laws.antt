-- The laws of every session.
use Rattle.policy_rules.specs.declared.setting_rules.settings.Settings.{Settings}
use Rattle.trace_laws.specs.Laws.{HasLaws}
use Rattle.script_replay.specs.Versions.{Version, settings_by}

-- The laws hold of every session of a script, whose settings are those of its header, or of
-- the words if it has none.
abbrev pub HaveLaws : Settings → Type 0
HaveLaws o = (version : Version) → HasLaws (settings_by version o)
