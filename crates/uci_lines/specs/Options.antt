-- The declarations of options.
use Rattle.std.specs.Prelude.{ℤ, int_lt, ℕ, List, [], ◌∷◌, codes, Bool, true}
use Rattle.std.specs.Prelude.{false, if◌then◌else◌, Option, Some, None}
use Rattle.std.specs.Int.{int_min, int_max}
use Rattle.std.specs.Option.{option_or}
use Rattle.protocol_tokens.specs.Tokens.{tokens, trimmed, first_token, rest_after_token}
use Rattle.protocol_tokens.specs.Numbers.{signed_number}
use Rattle.uci_lines.specs.declared.range.SpinRange.{SpinRange as Numbers}
use Rattle.uci_lines.specs.Cuts.{Found, found_token, is_word}
use Rattle.uci_lines.specs.Choices.{values, default_value}
use Rattle.uci_lines.specs.Messages.{OptionKind, Check, Spin, Combo, Button}
use Rattle.uci_lines.specs.Messages.{Text, EngineMsg, OptionLine, Nothing}

-- true if `default` is followed by `true`
abbrev pub is_on : Option Found → Bool
is_on None = false
is_on (Some part) = is_word (codes "true") (first_token part.after)

-- the three numbers of a spin, as far as they were heard
pub record SpinRange : Type 0 where
  pub default : Option ℤ
  pub min : Option ℤ
  pub max : Option ℤ

abbrev pub range_of_spin : Numbers → SpinRange
range_of_spin n = record { default = n.default; min = n.min; max = n.max }

abbrev pub first_signed : List (List ℕ) → Option ℤ
first_signed [] = None
first_signed (t ∷ ts) = signed_number t

-- the meaning of a token for the range, with the tokens after it
abbrev pub limited : SpinRange → List ℕ → List (List ℕ) → SpinRange
limited r t ts =
    if is_word (codes "default") t
    then record { default = option_or (first_signed ts) r.default; min = r.min; max = r.max }
    else (if is_word (codes "min") t
    then record { default = r.default; min = option_or (first_signed ts) r.min; max = r.max }
    else (if is_word (codes "max") t
    then record { default = r.default; min = r.min; max = option_or (first_signed ts) r.max }
    else r))

abbrev pub range_from : SpinRange → List (List ℕ) → SpinRange
range_from r [] = r
range_from r (t ∷ ts) = range_from (limited r t ts) ts

abbrev pub no_range : SpinRange
no_range = record { default = None; min = None; max = None }

-- The default is moved into the range.
abbrev pub spin : Option ℤ → Option ℤ → Option ℤ → Option OptionKind
spin (Some default) (Some min) (Some max) =
    if int_lt max min then None else Some (Spin (int_max min (int_min default max)) min max)
spin _ _ _ = None

abbrev pub spin_in : SpinRange → Option OptionKind
spin_in r = spin r.default r.min r.max

-- `<empty>` is the empty text
abbrev pub option_text_shown : List ℕ → List ℕ
option_text_shown text = if is_word (codes "<empty>") text then [] else text

abbrev pub text_after : Option Found → List ℕ
text_after None = []
text_after (Some part) = option_text_shown (trimmed part.after)

-- the kind of an option by its word, with the rest of the line
abbrev pub shape_named : List ℕ → List ℕ → Option OptionKind
shape_named word text =
    if is_word (codes "check") word
    then Some (Check (is_on (found_token (is_word (codes "default")) true text)))
    else (if is_word (codes "spin") word then spin_in (range_from no_range (tokens text))
    else (if is_word (codes "combo") word then Some (Combo (default_value text) (values text))
    else (if is_word (codes "button") word then Some Button
    else (if is_word (codes "string") word
    then Some (Text (text_after (found_token (is_word (codes "default")) true text)))
    else None))))

abbrev pub uci_option_line : List ℕ → Option OptionKind → EngineMsg
uci_option_line name None = Nothing
uci_option_line name (Some shape) = OptionLine name shape

-- the name is before the first `type`
abbrev pub option_with : Option Found → EngineMsg
option_with None = Nothing
option_with (Some part) =
    uci_option_line (trimmed part.before) (shape_named (first_token part.after) (rest_after_token part.after))

-- the text behind `option`
unfoldable pub option_said : List ℕ → EngineMsg
option_said text =
    if is_word (codes "name") (first_token text)
    then option_with (found_token (is_word (codes "type")) true (rest_after_token text))
    else Nothing
