-- The form in which options are kept: their names and kinds in a table, their texts in one buffer.
use Rattle.std.specs.Prelude.{◌≡◌, ℕ, ◌+◌, ◌≤◌, List, [], length, map, take, drop}
use Rattle.std.specs.List.{AllByRecursion}
use Rattle.line_io.specs.Out.{Text as Buffer}
use Rattle.arrayvec.specs.ArrayVec.{ArrayVec}
use Rattle.option_map.specs.declared.declared_options.setting.TextSpan.{TextSpan}
use Rattle.option_map.specs.declared.declared_options.setting.SettingKind.{SettingKind as SeenKind}
use Rattle.option_map.specs.declared.declared_options.setting.SettingKind.TheVariants as seen
use Rattle.option_map.specs.declared.declared_options.setting.OptionSetting.{OptionSetting as Seen}
use Rattle.option_map.specs.declared.declared_options.stored.StoredKind.{StoredKind}
use Rattle.option_map.specs.declared.declared_options.stored.StoredKind.TheVariants as stored
use Rattle.option_map.specs.declared.declared_options.stored.Stored.{Stored}
use Rattle.option_map.specs.DeclaredOptions.Names.{folded}
use Rattle.option_map.specs.DeclaredOptions.Choices.{choices_in, with_quotes}
use Rattle.option_map.specs.DeclaredOptions.Settings.{OptionSetting, SettingKind, Check}
use Rattle.option_map.specs.DeclaredOptions.Settings.{Spin, Combo, Button, Text, text_size}
use Rattle.option_map.specs.declared.declared_options.names.TheConstants.{MOST_OPTION_NAME}
use Rattle.option_map.specs.declared.declared_options.options.TheConstants.{MOST_OPTIONS, FEATURE_BYTES}

-- an option that is looked at
abbrev pub kind_seen : SeenKind → SettingKind
kind_seen (seen.Check on) = Check on
kind_seen (seen.Spin default min max) = Spin default min max
kind_seen (seen.Combo choices) = Combo (choices_in choices.now)
kind_seen seen.Button = Button
kind_seen (seen.Text default) = Text default.now

abbrev pub setting_seen : Seen → OptionSetting
setting_seen o = record {
  name = o.name.now;
  kind = kind_seen o.kind;
  hidden = o.hidden;
  text_feature = o.text_feature;
}

-- the part of the texts
abbrev pub text_at : List ℕ → TextSpan → List ℕ
text_at texts s = take s.len (drop s.at texts)

abbrev pub kind_in : List ℕ → StoredKind → SettingKind
kind_in texts (stored.Check on) = Check on
kind_in texts (stored.Spin default min max) = Spin default min max
kind_in texts (stored.Combo choices) = Combo (choices_in (text_at texts choices))
kind_in texts stored.Button = Button
kind_in texts (stored.Text default) = Text (text_at texts default)

abbrev pub setting_in : List ℕ → Stored → OptionSetting
setting_in texts o = record {
  name = o.name.items;
  kind = kind_in texts o.kind;
  hidden = o.hidden;
  text_feature = o.text_feature;
}

abbrev pub stored_settings_in : List ℕ → List (ArrayVec ℕ × Stored) → List OptionSetting
stored_settings_in texts entries = map (λ e. setting_in texts e.1) entries

-- the part that is kept of the texts of an option
abbrev pub kind_kept : SettingKind → List ℕ
kind_kept (Combo choices) = with_quotes choices
kind_kept (Text default) = default
kind_kept _ = []

abbrev pub IsSpanIn : ℕ → TextSpan → Type 0
IsSpanIn n s = s.at + s.len ≤ n

-- the texts of an option lie within so many bytes
abbrev pub IsKindIn : ℕ → StoredKind → Type 0
IsKindIn n (stored.Check on) = Unit {0}
IsKindIn n (stored.Spin default min max) = Unit {0}
IsKindIn n (stored.Combo choices) = IsSpanIn n choices
IsKindIn n stored.Button = Unit {0}
IsKindIn n (stored.Text default) = IsSpanIn n default

-- an entry is under its folded name, and its texts are there
pub record IsEntry (n : ℕ) (e : ArrayVec ℕ × Stored) : Type 0 where
  pub key : e.0.items ≡ folded e.1.name.items
  pub short : length e.1.name.items ≤ MOST_OPTION_NAME
  pub within : IsKindIn n e.1.kind

abbrev pub AreStored : ℕ → List (ArrayVec ℕ × Stored) → Type 0
AreStored n entries = AllByRecursion (IsEntry n) entries

-- the invariant of the table, its room, the buffer and the bytes of all feature lines
pub record AreKept (texts : Buffer) (entries : List (ArrayVec ℕ × Stored))
    (spare bytes : ℕ) : Type 0 where
  pub stored : AreStored (length texts.text) entries
  pub places : MOST_OPTIONS ≤ length entries + spare
  pub few : length entries ≤ MOST_OPTIONS
  pub size : bytes ≡ text_size (stored_settings_in texts.text entries)
  pub fits : bytes ≤ FEATURE_BYTES
  pub within : length texts.text ≤ bytes
  pub room : texts.room ≡ FEATURE_BYTES
