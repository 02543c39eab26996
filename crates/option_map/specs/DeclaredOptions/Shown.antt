-- The questions to the options by name.
use Rattle.std.specs.Prelude.{ℕ, List, codes, Bool, true, false, Option, Some, None}
use Rattle.option_map.specs.DeclaredOptions.Settings.{OptionSetting, SettingKind, Check, Spin, Text, option_by_name}

abbrev pub check_spelling : List ℕ → SettingKind → Option (List ℕ)
check_spelling name (Check on) = Some name
check_spelling name _ = None

abbrev pub check_of : Option OptionSetting → Option (List ℕ)
check_of None = None
check_of (Some o) = check_spelling o.name o.kind

-- the declared spelling of a check option
abbrev pub check_named : List ℕ → List OptionSetting → Option (List ℕ)
check_named name os = check_of (option_by_name name os)

abbrev pub is_spin : SettingKind → Bool
is_spin (Spin default min max) = true
is_spin _ = false

abbrev pub is_text : SettingKind → Bool
is_text (Text default) = true
is_text _ = false

abbrev pub has_kind : (SettingKind → Bool) → Option OptionSetting → Bool
has_kind test None = false
has_kind test (Some o) = test o.kind

-- `Hash` is a declared spin
abbrev pub takes_memory : List OptionSetting → Bool
takes_memory os = has_kind is_spin (option_by_name (codes "Hash") os)

-- `Threads` is a declared spin
abbrev pub takes_cores : List OptionSetting → Bool
takes_cores os = has_kind is_spin (option_by_name (codes "Threads") os)

-- `NalimovPath` is a declared string
abbrev pub takes_tables : List OptionSetting → Bool
takes_tables os = has_kind is_text (option_by_name (codes "NalimovPath") os)
