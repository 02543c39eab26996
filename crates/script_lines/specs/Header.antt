-- The header of a script: the session's settings.
use Rattle.std.specs.Prelude.{◌≡◌, ℕ, List, ◌∷◌, ◌++◌, codes, if◌then◌else◌, Option, Some, None}
use Rattle.std.specs.List.{flat_map}
use Rattle.std.specs.Option.{option_map}
use Rattle.std.specs.Str.{bytes_eq}
use Rattle.protocol_tokens.specs.Bytes.{blank, equals}
use Rattle.protocol_tokens.specs.Tokens.{rest_after_token, tokens}
use Rattle.policy_rules.specs.declared.setting_rules.settings.Settings.{Settings}
use Rattle.policy_rules.specs.declared.setting_rules.table.Setting.{Setting}
use Rattle.policy_rules.specs.SettingRules.Policy.{IsProper, usual}
use Rattle.policy_rules.specs.SettingRules.Table.{first_settings, has_usual_rest, later_settings, name_of}
use Rattle.policy_rules.specs.SettingRules.Table.{setting_value, setting_value_text}
use Rattle.policy_rules.specs.SettingRules.Table.{stated_settings, unusual_in}
use Rattle.policy_rules.specs.SettingRules.Words.{choices_of, with_choices}

-- the word NAME=VALUE of a setting
abbrev pub setting_word_of : Settings → Setting → List ℕ
setting_word_of s setting = name_of setting ++ equals ∷ setting_value_text (setting_value s setting)

-- the words of these settings, with a blank before each
abbrev pub words_text : Settings → List Setting → List ℕ
words_text s list = flat_map (λ setting. blank ∷ setting_word_of s setting) list

-- the words of those of these settings that have not their usual value
abbrev pub unusual_text : Settings → List Setting → List ℕ
unusual_text s list = words_text s (unusual_in list s)

abbrev pub header_with : List ℕ → List Setting → Settings → List ℕ
header_with version list s = version ++ words_text s list

-- what a header of version 3 states: the stated settings, and later ones whose value is not usual
abbrev pub stated_in : Settings → List Setting
stated_in s = stated_settings ++ unusual_in later_settings s

-- the header of these settings, without its line feed: of version 2 if it can state them all
unfoldable pub header_text : Settings → List ℕ
header_text s =
    if has_usual_rest s then header_with (codes "#2") first_settings s
    else header_with (codes "#3") (stated_in s) s

-- The line is the header of these settings, and they are proper.
pub record SpellsHeader (line : List ℕ) (settings : Settings) : Type 0 where
  pub proper : IsProper settings
  pub text : line ≡ header_text settings

-- the settings that words choose, beginning with the usual ones
abbrev pub header_settings_in : List (List ℕ) → Option Settings
header_settings_in words = option_map (with_choices usual) (choices_of words)

abbrev pub if_written : List ℕ → Option Settings → Option Settings
if_written line None = None
if_written line (Some s) = if bytes_eq (header_text s) line then Some s else None

-- the settings that a line states as a header: its words choose them, and it is what is written
-- of them
abbrev pub header_of : List ℕ → Option Settings
header_of line = if_written line (header_settings_in (tokens (rest_after_token line)))
