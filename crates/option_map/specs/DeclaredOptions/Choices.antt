-- The values of a combo, as they are shown.
use Rattle.std.specs.Prelude.{ℕ, ◌+◌, length, List, [], ◌∷◌, ◌++◌, codes, Bool, true}
use Rattle.std.specs.Prelude.{false, ◌||◌, ◌==◌, nat_eq, if◌then◌else◌, Option, Some, None}
use Rattle.std.specs.List.{flat_map, onto_first, list_any, starts_with}
use Rattle.option_map.specs.DeclaredOptions.Names.{same_text, holds, is_quote}
use Rattle.protocol_tokens.specs.Bytes.{star, quote}

-- A star is before the first value that equals the default.
abbrev pub with_star : List ℕ → List (List ℕ) → List (List ℕ)
with_star default [] = []
with_star default (v ∷ vs) =
    if same_text default v then (star ∷ v) ∷ vs else v ∷ with_star default vs

-- a choice without its star
abbrev pub unstarred : List ℕ → List ℕ
unstarred [] = []
unstarred (b ∷ bs) = if b == star then bs else b ∷ bs

-- true if `///` is in a text
abbrev pub has_bars : List ℕ → Bool
has_bars [] = false
has_bars (b ∷ bs) = starts_with nat_eq (b ∷ bs) (codes "///") || has_bars bs

abbrev pub begins_with_star : List ℕ → Bool
begins_with_star [] = false
begins_with_star (b ∷ bs) = b == star

abbrev pub is_empty_value : List ℕ → Bool
is_empty_value [] = true
is_empty_value (b ∷ bs) = false

-- a value that cannot be shown among others
abbrev pub is_bad_value : List ℕ → Bool
is_bad_value v = is_empty_value v || holds quote v || has_bars v || begins_with_star v

abbrev pub are_bad_values : List (List ℕ) → Bool
are_bad_values [] = true
are_bad_values (v ∷ vs) = list_any is_bad_value (v ∷ vs)

abbrev pub with_bars : List ℕ → List ℕ
with_bars choice = codes " /// " ++ choice

-- the choices with ` /// ` between
abbrev pub choices_text : List (List ℕ) → List ℕ
choices_text [] = []
choices_text (c ∷ cs) = c ++ flat_map with_bars cs

-- the first value that equals a text, case ignored
abbrev pub chosen : List ℕ → List (List ℕ) → Option (List ℕ)
chosen text [] = None
chosen text (c ∷ cs) = if same_text text (unstarred c) then Some (unstarred c) else chosen text cs

-- the length of values with five bytes before each
abbrev pub bars_length : List (List ℕ) → ℕ
bars_length [] = 0
bars_length (v ∷ vs) = 5 + length v + bars_length vs

-- HOW CHOICES ARE KEPT

-- each with a quote at its end
abbrev pub with_quotes : List (List ℕ) → List ℕ
with_quotes cs = flat_map (λ c. c ++ quote ∷ []) cs

-- the texts before each quote
abbrev pub choices_in : List ℕ → List (List ℕ)
choices_in [] = []
choices_in (b ∷ bs) = if is_quote b then [] ∷ choices_in bs else onto_first b (choices_in bs)
