-- The text written of a combo's values is read as the same values.
use Rattle.std.proofs.Common.{◌≡◌, ℕ, List, [], ◌∷◌, ◌++◌, true, not, codes, refl, sym, ap, ◌∙◌, subst, inl, inr, append_assoc}
use Rattle.std.specs.List.{list_all}
use Rattle.std.proofs.lemmas.List.{append-nil}
use Rattle.protocol_tokens.specs.Tokens.{tokens, trimmed}
use Rattle.protocol_tokens.proofs.Trims.{trimmed_again}
use Rattle.protocol_tokens.proofs.TokenLists.{tokens_trimmed}
use Rattle.uci_lines.specs.Cuts.{Found, is_choice}
use Rattle.uci_lines.specs.Spells.{begins_white, IsNoneOf, FirstTokenPasses, UpToChoice, HasValues}
use Rattle.uci_interface_lines.specs.Said.{spaced_text, each_value}
use Rattle.uci_lines.proofs.Prefixes.{BeginsWhite}
use Rattle.uci_interface_lines.proofs.Kept.{Solid, solid_over, solid_token, solid_trimmed, spaced_trimmed, spaced_white, spaced_tokens, white_over, blank_ends, blank_tokens, blank_trimmed}

-- a value as it is read: trimmed, and without a word with which a part begins
pub record IsClean (value : List ℕ) : Type 0 where
  pub trim : trimmed value ≡ value
  pub none : IsNoneOf is_choice (tokens value)

pub AllClean : List (List ℕ) → Type 0
AllClean [] = Unit {0}
AllClean (v ∷ vs) = IsClean v × AllClean vs

clean_of : (text value : List ℕ) → IsNoneOf is_choice (tokens text) → value ≡ trimmed text → IsClean value
clean_of text value n e = record {
  trim = ap trimmed e ∙ trimmed_again text ∙ sym e;
  none = ap (λ v. list_all (λ t. not (is_choice t)) (tokens v)) e ∙ ap (λ ts. list_all (λ t. not (is_choice t)) ts) (tokens_trimmed text) ∙ n;
}

pub clean_up : (text value : List ℕ) → UpToChoice text value → IsClean value
clean_up text value (inl h) = clean_of text value h.0 h.1
clean_up text value (inr h) = clean_of (h.0).before value (h.1).none_before h.2

pub all_clean : (text : List ℕ) (vs : List (List ℕ)) → HasValues text vs → AllClean vs
unfolding AllClean
all_clean text _ (HasValues.Ended h) = tt
all_clean text _ (HasValues.Var {value = value} {values = vs} part f w u h) = (clean_up part.after value u, all_clean part.after vs h)
all_clean text _ (HasValues.Default {values = vs} part f w h) = all_clean part.after vs h

none_spaced : (value : List ℕ) → IsClean value → IsNoneOf is_choice (tokens (spaced_text value ++ []))
none_spaced value c = subst (λ (ts : List (List ℕ)). IsNoneOf is_choice ts) (sym (ap tokens (append-nil (spaced_text value)) ∙ spaced_tokens value)) c.none

-- the part with which the next value begins
next_part : List ℕ → List ℕ → List (List ℕ) → Found
next_part value w vs = record { before = spaced_text value ++ (32 ∷ []); word = codes "var"; after = spaced_text w ++ each_value vs }

pub each_white : (vs : List (List ℕ)) → BeginsWhite (each_value vs)
each_white [] = tt
each_white (v ∷ vs) = refl

next_first : (value w : List ℕ) (vs : List (List ℕ)) → IsClean value → FirstTokenPasses is_choice (spaced_text value ++ each_value (w ∷ vs)) (next_part value w vs)
unfolding next_part
next_first value w vs c = record {
  whole = sym (append_assoc (spaced_text value) (32 ∷ []) (codes "var" ++ (spaced_text w ++ each_value vs)));
  token = refl;
  passes = refl;
  stands_apart = blank_ends true (spaced_text value);
  ends_there = as_white (spaced_text w ++ each_value vs) (white_over (spaced_text w) (each_value vs) (spaced_white w) (each_white vs));
  none_before = subst (λ (ts : List (List ℕ)). IsNoneOf is_choice ts) (sym (blank_tokens (spaced_text value) ∙ spaced_tokens value)) c.none;
}
  where
    as_white : (text : List ℕ) → BeginsWhite text → begins_white text ≡ true
    as_white [] h = refl
    as_white (b ∷ bs) h = h

next_trim : (value : List ℕ) → IsClean value → value ≡ trimmed (spaced_text value ++ (32 ∷ []))
next_trim [] c = refl
next_trim (b ∷ bs) c = sym (blank_trimmed (b ∷ bs) c.trim)

pub value_up : (value : List ℕ) (vs : List (List ℕ)) → IsClean value → UpToChoice (spaced_text value ++ each_value vs) value
unfolding next_part
value_up value [] c = inl (none_spaced value c, sym (ap trimmed (append-nil (spaced_text value)) ∙ spaced_trimmed value ∙ c.trim))
value_up value (w ∷ vs) c = inr (next_part value w vs, next_first value w vs c, next_trim value c)

pub values_again : (value : List ℕ) (vs : List (List ℕ)) → IsClean value → AllClean vs → HasValues (spaced_text value ++ each_value vs) vs
unfolding AllClean next_part
values_again value [] c h = HasValues.Ended (none_spaced value c)
values_again value (w ∷ vs) c h = HasValues.Var (next_part value w vs) (next_first value w vs c) refl (value_up w vs h.0) (values_again w vs h.0 h.1)

-- a text that ends with the last value ends with no white space
pub solid_spaced : (xs value : List ℕ) → Solid xs → trimmed value ≡ value → Solid (xs ++ spaced_text value)
solid_spaced xs [] s h = subst (λ (t : List ℕ). Solid t) (sym (append-nil xs)) s
solid_spaced xs (b ∷ bs) s h = solid_over xs (32 ∷ b ∷ bs) (solid_over (32 ∷ []) (b ∷ bs) (solid_trimmed b bs h))

pub solid_each : (xs : List ℕ) (vs : List (List ℕ)) → Solid xs → AllClean vs → Solid (xs ++ each_value vs)
unfolding AllClean
solid_each xs [] s h = subst (λ (t : List ℕ). Solid t) (sym (append-nil xs)) s
solid_each xs (v ∷ vs) s h =
    let prefix : Solid (codes " var" ++ spaced_text v) = solid_spaced (codes " var") v (solid_over (codes " ") (codes "var") (solid_token (codes "var") refl)) (h.0).trim in
    solid_over xs (codes " var" ++ spaced_text v ++ each_value vs) (solid_each (codes " var" ++ spaced_text v) vs prefix h.1)
