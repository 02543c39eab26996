-- The choices of words NAME=VALUE.
use Rattle.std.specs.Prelude.{ℕ, ◌+◌, List, [], ◌∷◌, map, take, drop, position, Bool, true, false}
use Rattle.std.specs.Prelude.{◌&&◌, ◌==◌, if◌then◌else◌, nat_le, codes, Option, Some, None}
use Rattle.std.specs.List.{before_first}
use Rattle.std.specs.Option.{option_map, option_and_then}
use Rattle.std.specs.Map.{lookup}
use Rattle.std.specs.Str.{bytes_eq}
use Rattle.protocol_tokens.specs.Bytes.{equals}
use Rattle.protocol_tokens.specs.Numbers.{digits}
use Rattle.policy_rules.specs.SettingRules.Table.{name_of, range_of_setting, settings, with_choice}
use Rattle.policy_rules.specs.declared.setting_rules.settings.Settings.{Settings}
use Rattle.policy_rules.specs.declared.setting_rules.table.Setting.{Setting}
use Rattle.policy_rules.specs.declared.setting_rules.table.Range.{Range}
use Rattle.policy_rules.specs.declared.setting_rules.table.Range.TheVariants as ranges
use Rattle.policy_rules.specs.declared.setting_rules.table.Value.{Value}
use Rattle.policy_rules.specs.declared.setting_rules.table.Value.TheVariants.{Truth, Number}
use Rattle.policy_rules.specs.declared.setting_rules.table.Choice.{Choice}
use Rattle.policy_rules.specs.declared.setting_rules.words.TheConstants.{NUMBER_PLACES}

-- the setting of a name
abbrev pub setting_named : List ℕ → Option Setting
setting_named name = lookup (bytes_eq name) (map (λ setting. (name_of setting, setting)) settings)

abbrev pub truth_in : List ℕ → Option Bool
truth_in text =
    if bytes_eq text (codes "true") then Some true
    else (if bytes_eq text (codes "false") then Some false else None)

abbrev pub within : ℕ → ℕ → Option ℕ → Option ℕ
within least most None = None
within least most (Some n) = if nat_le least n && nat_le n most then Some n else None

-- a number of so many digits at most, within the range
abbrev pub number_in_range : ℕ → ℕ → ℕ → List ℕ → Option ℕ
number_in_range places least most text = within least most (digits places text)

-- the value of a range that a text spells
abbrev pub range_value : Range → List ℕ → Option Value
range_value ranges.Truth text = option_map (λ b. Truth b) (truth_in text)
range_value (ranges.Number least most) text =
    option_map (λ n. Number n) (number_in_range NUMBER_PLACES least most text)

abbrev pub is_equals : ℕ → Bool
is_equals b = b == equals

-- the name in a word NAME=VALUE
abbrev pub name_in : List ℕ → List ℕ
name_in word = before_first is_equals word

abbrev pub choice_for : Setting → List ℕ → Option Choice
choice_for setting text =
    option_map (λ value. record { setting = setting; value = value })
    (range_value (range_of_setting setting) text)

abbrev pub choice_at : Option ℕ → List ℕ → Option Choice
choice_at None word = None
choice_at (Some at) word =
    option_and_then (λ setting. choice_for setting (drop (at + 1) word))
    (setting_named (take at word))

-- what a word NAME=VALUE chooses
abbrev pub choice_of : List ℕ → Option Choice
choice_of word = choice_at (position is_equals word) word

abbrev pub with_first : Option Choice → Option (List Choice) → Option (List Choice)
with_first None others = None
with_first (Some choice) None = None
with_first (Some choice) (Some others) = Some (choice ∷ others)

-- what the words choose, if each of them chooses something
abbrev pub choices_of : List (List ℕ) → Option (List Choice)
choices_of [] = Some []
choices_of (word ∷ words) = with_first (choice_of word) (choices_of words)

-- the settings with these chosen anew, one after the other
abbrev pub with_choices : Settings → List Choice → Settings
with_choices s [] = s
with_choices s (choice ∷ choices) = with_choices (with_choice s choice) choices
