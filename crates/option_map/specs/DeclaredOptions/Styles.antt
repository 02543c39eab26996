-- How the options and the name of an engine are shown.
use Rattle.std.specs.Prelude.{ℕ, List, map, codes, Bool, false, ◌&&◌, ◌||◌, ◌==◌, nat_eq, nat_lt}
use Rattle.std.specs.Prelude.{if◌then◌else◌}
use Rattle.std.specs.List.{list_any, ends_with}
use Rattle.protocol_tokens.specs.Bytes.{blank}
use Rattle.protocol_tokens.specs.Tokens.{trimmed}
use Rattle.uci_lines.specs.Messages.{OptionKind}
use Rattle.uci_lines.specs.Messages as shapes
use Rattle.option_map.specs.DeclaredOptions.Names.{folded}
use Rattle.option_map.specs.declared.declared_options.plain.TheConstants.{DELETE}
use Rattle.option_map.specs.declared.declared_options.style.FeatureStyle.{FeatureStyle}
use Rattle.option_map.specs.declared.declared_options.style.TextFeature.{TextFeature}
use Rattle.option_map.specs.declared.declared_options.style.TextFeature.TheVariants.{AsString, AsPath, AsFile}

-- PLAIN TEXTS

-- the bytes of ASCII that are no characters
abbrev pub is_control : ℕ → Bool
is_control b = nat_lt b blank || b == DELETE

abbrev pub has_control : List ℕ → Bool
has_control text = list_any is_control text

-- such a byte is in the default or in a value
abbrev pub is_control_shape : OptionKind → Bool
is_control_shape (shapes.Combo default values) = has_control default || list_any has_control values
is_control_shape (shapes.Text default) = has_control default
is_control_shape _ = false

-- Where texts are plain, an option is not shown that has such a byte in one of its texts.
abbrev pub is_not_plain : FeatureStyle → List ℕ → OptionKind → Bool
is_not_plain style name shape = style.plain && (has_control name || is_control_shape shape)

abbrev pub blanked_byte : ℕ → ℕ
blanked_byte b = if is_control b then blank else b

-- a text with a blank for each such byte
abbrev pub blanked_text : List ℕ → List ℕ
blanked_text text = map blanked_byte text

-- The engine's name has these blanks before its ends are cut.
abbrev pub name_in_style : FeatureStyle → List ℕ → List ℕ
name_in_style style said = if style.plain then trimmed (blanked_text said) else said

-- PATHS AND FILES

abbrev pub ends_as_path : List ℕ → Bool
ends_as_path name =
    ends_with nat_eq name (codes "path") || ends_with nat_eq name (codes "dir")
    || ends_with nat_eq name (codes "folder")

abbrev pub ends_as_file : List ℕ → Bool
ends_as_file name = ends_with nat_eq name (codes "file") || ends_with nat_eq name (codes "book")

abbrev pub feature_by_end : List ℕ → TextFeature
feature_by_end name =
    if ends_as_path name then AsPath else (if ends_as_file name then AsFile else AsString)

-- what the feature of a string option of this name is called, case ignored
abbrev pub text_feature : FeatureStyle → List ℕ → TextFeature
text_feature style name = if style.paths then feature_by_end (folded name) else AsString

abbrev pub text_word : TextFeature → List ℕ
text_word AsString = codes " -string "
text_word AsPath = codes " -path "
text_word AsFile = codes " -file "
