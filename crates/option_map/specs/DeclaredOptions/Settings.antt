-- The options as they are kept, in the order of declaration.
use Rattle.std.specs.Prelude.{ℕ, ℤ, ◌+◌, List, [], ◌∷◌, ◌++◌, length, sum_by, codes, Bool, true}
use Rattle.std.specs.Prelude.{false, ◌||◌, if◌then◌else◌, nat_le, nat_lt, Option, Some, None}
use Rattle.std.specs.Fmt.{signed_decimal}
use Rattle.std.specs.List.{flat_map}
use Rattle.uci_lines.specs.Messages.{OptionKind}
use Rattle.uci_lines.specs.Messages as shapes
use Rattle.option_map.specs.declared.declared_options.declared.Declared.{Declared}
use Rattle.option_map.specs.declared.declared_options.declared.Declared.TheVariants.{Unshowable, Double, Full, Done}
use Rattle.option_map.specs.declared.declared_options.style.FeatureStyle.{FeatureStyle}
use Rattle.option_map.specs.declared.declared_options.style.TextFeature.{TextFeature}
use Rattle.option_map.specs.DeclaredOptions.Names.{same_text, holds, is_hidden, is_bad_name}
use Rattle.option_map.specs.DeclaredOptions.Styles.{is_not_plain, text_feature, text_word}
use Rattle.option_map.specs.DeclaredOptions.Choices.{with_star, are_bad_values, choices_text}
use Rattle.line_io.specs.Lines.{line_feed}
use Rattle.protocol_tokens.specs.Bytes.{quote}
use Rattle.option_map.specs.declared.declared_options.options.TheConstants.{FEATURE_BYTES, MOST_OPTIONS}

-- The kind of an option, with what is shown of its default. The choices of a combo are its values,
-- one of them perhaps with a star.
pub data SettingKind : Type 0 where
  Check : (on : Bool) → SettingKind
  Spin : (default min max : ℤ) → SettingKind
  Combo : (choices : List (List ℕ)) → SettingKind
  Button : SettingKind
  Text : (default : List ℕ) → SettingKind

pub record OptionSetting : Type 0 where
  pub name : List ℕ
  pub kind : SettingKind
  -- no feature line shows it, and no line sets it by its name
  pub hidden : Bool
  -- what its feature is called, if it is a string
  pub text_feature : TextFeature

-- the part that is kept of an option that is shown
abbrev pub shown_kind : OptionKind → SettingKind
shown_kind (shapes.Check on) = Check on
shown_kind (shapes.Spin default min max) = Spin default min max
shown_kind (shapes.Combo default values) = Combo (with_star default values)
shown_kind shapes.Button = Button
shown_kind (shapes.Text default) = Text default

-- Texts of hidden options are read by nothing.
abbrev pub hidden_kind : OptionKind → SettingKind
hidden_kind (shapes.Check on) = Check on
hidden_kind (shapes.Spin default min max) = Spin default min max
hidden_kind (shapes.Combo default values) = Combo []
hidden_kind shapes.Button = Button
hidden_kind (shapes.Text default) = Text []

abbrev pub kept_kind : Bool → OptionKind → SettingKind
kept_kind hidden shape = if hidden then hidden_kind shape else shown_kind shape

abbrev pub kept_as : Bool → TextFeature → List ℕ → OptionKind → OptionSetting
kept_as hidden feature name shape = record {
  name = name;
  kind = kept_kind hidden shape;
  hidden = hidden;
  text_feature = feature;
}

-- the part that is kept of an option, by the style in which it is shown
abbrev pub setting_from_option : FeatureStyle → List ℕ → OptionKind → OptionSetting
setting_from_option style name shape =
    kept_as (is_hidden style.strength name) (text_feature style name) name shape

-- THE FEATURE LINE OF AN OPTION

abbrev pub bit_text : Bool → List ℕ
bit_text true = codes "1"
bit_text false = codes "0"

abbrev pub spin_feature_text : ℤ → ℤ → ℤ → List ℕ
spin_feature_text default min max =
    codes " -spin " ++ signed_decimal default ++ codes " " ++ signed_decimal min ++ codes " "
    ++ signed_decimal max

abbrev pub setting_kind_text : TextFeature → SettingKind → List ℕ
setting_kind_text feature (Check on) = codes " -check " ++ bit_text on
setting_kind_text feature (Spin default min max) = spin_feature_text default min max
setting_kind_text feature (Combo choices) = codes " -combo " ++ choices_text choices
setting_kind_text feature Button = codes " -button"
setting_kind_text feature (Text default) = text_word feature ++ default

abbrev pub feature_line : OptionSetting → List ℕ
feature_line o =
    codes "feature option=\"" ++ o.name ++ setting_kind_text o.text_feature o.kind ++ codes "\""

-- its length, if it has one
abbrev pub shown_length : OptionSetting → ℕ
shown_length o = if o.hidden then 0 else length (feature_line o)

abbrev pub text_size : List OptionSetting → ℕ
text_size os = sum_by shown_length os

abbrev pub feature_text : OptionSetting → List ℕ
feature_text o = if o.hidden then [] else feature_line o ++ line_feed ∷ []

-- the feature lines of the options that are not hidden
abbrev pub features : List OptionSetting → List ℕ
features os = flat_map feature_text os

-- A length, if it is not above the most.
abbrev pub if_within : ℕ → ℕ → Option ℕ
if_within most n = if nat_le n most then Some n else None

-- DECLARING

abbrev pub is_bad_shape : OptionKind → Bool
is_bad_shape (shapes.Combo default values) = holds quote default || are_bad_values values
is_bad_shape (shapes.Text default) = holds quote default
is_bad_shape _ = false

-- no feature line can show it, or no order can set it
abbrev pub cannot_be_shown : List ℕ → OptionKind → Bool
cannot_be_shown name shape = is_bad_name name || is_bad_shape shape

-- or it is not to be shown in this style
abbrev pub is_unshowable : FeatureStyle → List ℕ → OptionKind → Bool
is_unshowable style name shape = cannot_be_shown name shape || is_not_plain style name shape

-- the option of a name, case ignored
abbrev pub option_by_name : List ℕ → List OptionSetting → Option OptionSetting
option_by_name name [] = None
option_by_name name (o ∷ os) = if same_text name o.name then Some o else option_by_name name os

abbrev pub is_combo_full : List OptionSetting → OptionSetting → Bool
is_combo_full os o =
    nat_le MOST_OPTIONS (length os) || nat_lt FEATURE_BYTES (text_size os + shown_length o)

abbrev pub declared_beside : Option OptionSetting → List OptionSetting → OptionSetting → Declared
declared_beside (Some other) os o = Double
declared_beside None os o = if is_combo_full os o then Full else Done

-- the outcome of a declaration
abbrev pub declaration_outcome : FeatureStyle → List OptionSetting → List ℕ → OptionKind → Declared
declaration_outcome style os name shape =
    if is_unshowable style name shape then Unshowable
    else declared_beside (option_by_name name os) os (setting_from_option style name shape)

abbrev pub grown_by : Declared → List OptionSetting → OptionSetting → List OptionSetting
grown_by Done os o = os ++ o ∷ []
grown_by Unshowable os o = os
grown_by Double os o = os
grown_by Full os o = os

-- the options after a declaration
abbrev pub after_declared :
    FeatureStyle → List OptionSetting → List ℕ → OptionKind → List OptionSetting
after_declared style os name shape =
    grown_by (declaration_outcome style os name shape) os (setting_from_option style name shape)
