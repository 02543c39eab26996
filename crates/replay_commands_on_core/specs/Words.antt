-- The meaning of arguments of settings.
use Rattle.std.specs.Prelude.{ℕ, List, [], ◌∷◌, Bool, true, not, ◌&&◌, if◌then◌else◌, Option, None}
use Rattle.std.specs.List.{list_any}
use Rattle.std.specs.Option.{option_map}
use Rattle.std.specs.Str.{bytes_eq}
use Rattle.policy_rules.specs.declared.setting_rules.settings.Settings.{Settings}
use Rattle.policy_rules.specs.SettingRules.Policy.{usual}
use Rattle.policy_rules.specs.SettingRules.Words.{choices_of, name_in, with_choices}

-- one of the words has this name
abbrev pub has_name : List ℕ → List (List ℕ) → Bool
has_name name arguments = list_any (λ word. bytes_eq (name_in word) name) arguments

-- each name stands at most once
abbrev pub are_different : List (List ℕ) → Bool
are_different [] = true
are_different (word ∷ arguments) = not (has_name (name_in word) arguments) && are_different arguments

-- the settings after the words, if each chooses something and no name stands twice
abbrev pub settings_after : Settings → List (List ℕ) → Option Settings
settings_after s arguments =
    if are_different arguments then option_map (with_choices s) (choices_of arguments) else None

-- the settings that the arguments give: a name that is not given has its usual value
abbrev pub settings_of : List (List ℕ) → Option Settings
settings_of arguments = settings_after usual arguments
