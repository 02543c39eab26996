-- The options that an engine declares (UCI, April 2006, "option").
use Rattle.std.specs.Prelude.{ℤ, int_lt, ℕ, List, [], ◌∷◌, codes, Bool, true, false, not, ◌&&◌, ◌||◌}
use Rattle.std.specs.Prelude.{if◌then◌else◌, Option, Some, None}
use Rattle.std.specs.Option.{option_or}
use Rattle.std.specs.Str.{str_eq_ignore_ascii_case}
use Rattle.protocol_tokens.specs.Numbers.{signed_number}
use Rattle.uci_lines.specs.Cuts.{is_word}
use Rattle.uci_lines.specs.Messages.{EngineMsg, OptionKind, OptionLine, Check, Spin, Combo}
use Rattle.engine_conduct.specs.Words.{behind_word, has_token}

-- the tokens behind the type
abbrev pub behind_kind : Option (List (List ℕ)) → List (List ℕ)
behind_kind None = []
behind_kind (Some []) = []
behind_kind (Some (kind ∷ ts)) = ts

-- "default false"
abbrev pub is_off_option : List ℕ → Bool
is_off_option name =
    str_eq_ignore_ascii_case name (codes "UCI_Chess960")
    || str_eq_ignore_ascii_case name (codes "UCI_ShowCurrLine")
    || str_eq_ignore_ascii_case name (codes "UCI_ShowRefutations")
    || str_eq_ignore_ascii_case name (codes "UCI_LimitStrength")

abbrev pub is_no_truth : List (List ℕ) → Bool
is_no_truth [] = true
is_no_truth (t ∷ ts) = not (is_word (codes "true") t) && not (is_word (codes "false") t)

-- "a checkbox that can either be true or false"
abbrev pub breaks_check : List ℕ → Bool → Option (List (List ℕ)) → Bool
breaks_check name on None = on && is_off_option name
breaks_check name on (Some default) = is_no_truth default || (on && is_off_option name)

abbrev pub first_signed_default : List ℕ → List (List ℕ) → Option ℤ
first_signed_default t [] = None
first_signed_default t (next ∷ ts) = if is_word (codes "default") t then signed_number next else None

-- the number behind the last `default` that has one
abbrev pub spin_default : Option ℤ → List (List ℕ) → Option ℤ
spin_default found [] = found
spin_default found (t ∷ ts) = spin_default (option_or (first_signed_default t ts) found) ts

-- "a spin wheel that can be an integer in a certain range"
abbrev pub breaks_spin : Option ℤ → ℤ → ℤ → Bool
breaks_spin None min max = false
breaks_spin (Some default) min max = int_lt default min || int_lt max default

abbrev pub is_among : List ℕ → List (List ℕ) → Bool
is_among value [] = false
is_among value (other ∷ others) = if str_eq_ignore_ascii_case value other then true else is_among value others

-- "a combo box that can have different predefined strings as a value"
abbrev pub breaks_combo : List ℕ → List (List ℕ) → List (List ℕ) → Bool
breaks_combo default values ts = has_token (codes "default") ts && not (is_among default values)

-- by the tokens behind the type
abbrev pub breaks_kind : List ℕ → OptionKind → List (List ℕ) → Bool
breaks_kind name (Check on) ts = breaks_check name on (behind_word (codes "default") ts)
breaks_kind name (Spin default min max) ts = breaks_spin (spin_default None ts) min max
breaks_kind name (Combo default values) ts = breaks_combo default values ts
breaks_kind name kind ts = false

abbrev pub breaks_default : EngineMsg → List (List ℕ) → Bool
breaks_default (OptionLine name kind) ts = breaks_kind name kind ts
breaks_default m ts = false
