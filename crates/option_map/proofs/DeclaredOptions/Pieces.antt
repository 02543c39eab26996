-- Choices that are kept, one after the other.
use Rattle.std.proofs.Common.{◌≡◌, ◌||◌, ◌==◌, ℕ, ◌+◌, ◌<◌, List, [], ◌∷◌, ◌++◌, Bool, true, false, cond, not, take, drop, length, refl, ap, ◌∙◌, arith, add-one, append_assoc, one-add}
use Rattle.std.specs.List.{onto_first, before_first, after_first, position_or_len, list_any}
use Rattle.std.proofs.lemmas.Bool.{or_parts}
use Rattle.option_map.specs.DeclaredOptions.Names.{is_quote, holds, same_text}
use Rattle.option_map.specs.DeclaredOptions.Choices.{choices_in, with_quotes, with_star, is_bad_value, are_bad_values, is_empty_value, has_bars, begins_with_star}

first_no : (x : ℕ) (b : List ℕ) (ps : List (List ℕ)) (rest : List (List ℕ)) → rest ≡ b ∷ ps → onto_first x rest ≡ (x ∷ b) ∷ ps
first_no x b ps rest e = rw e refl

pub choices_first : (x : ℕ) (xs : List ℕ) → choices_in (x ∷ xs) ≡ before_first is_quote (x ∷ xs) ∷ choices_in (after_first is_quote (x ∷ xs))
choices_first x [] =
    elim (is_quote x) as (λ v. cond v ([] ∷ choices_in []) (onto_first x (choices_in []))
    ≡ take (cond (not v) (1 + 0) 0) (x ∷ []) ∷ choices_in (drop (cond (not v) (1 + 0) 0 + 1) (x ∷ [])))
    [ true ↦ refl | false ↦ refl ]
choices_first x (y ∷ ys) =
    let n = position_or_len is_quote (y ∷ ys) in
    elim (is_quote x) as (λ v. cond v ([] ∷ choices_in (y ∷ ys)) (onto_first x (choices_in (y ∷ ys)))
    ≡ take (cond (not v) (1 + n) 0) (x ∷ y ∷ ys) ∷ choices_in (drop (cond (not v) (1 + n) 0 + 1) (x ∷ y ∷ ys))) [
      | true ↦ refl
      | false ↦ rw (one-add, add-one) (first_no x _ _ _ (choices_first y ys) ∙ rw add-one refl)
    ]

-- the same of a text that is there
pub some_choices : (text choice others : List ℕ) → 0 < length text → choice ≡ before_first is_quote text → others ≡ after_first is_quote text → choices_in text ≡ choice ∷ choices_in others
some_choices [] choice others h e f = absurd (omega arith)
some_choices (x ∷ xs) choice others h e f = rw (e, f) (choices_first x xs)

-- A choice without a quote is read back.
onto : (w : Bool) (b : ℕ) (c : List ℕ) (rest tail : List (List ℕ)) → w ≡ false → rest ≡ c ∷ tail → cond w ([] ∷ rest) (onto_first b rest) ≡ (b ∷ c) ∷ tail
onto w b c rest tail e f = rw (e, f) refl

one_back : (c more : List ℕ) → holds 34 c ≡ false → choices_in (c ++ 34 ∷ more) ≡ c ∷ choices_in more
one_back [] more h = refl
one_back (b ∷ bs) more h =
    let parts = or_parts (b == 34) (holds 34 bs) h in
    onto (is_quote b) b bs (choices_in (bs ++ 34 ∷ more)) (choices_in more) parts.0 (one_back bs more parts.1)

abbrev pub any_quote : List (List ℕ) → Bool
any_quote cs = list_any (holds 34) cs

pub choices_back : (cs : List (List ℕ)) → any_quote cs ≡ false → choices_in (with_quotes cs) ≡ cs
choices_back [] h = refl
choices_back (c ∷ cs) h =
    let parts = or_parts (holds 34 c) (any_quote cs) h in
    ap choices_in (append_assoc c (34 ∷ []) (with_quotes cs)) ∙ one_back c (with_quotes cs) parts.0 ∙ ap (λ (t : List (List ℕ)). c ∷ t) (choices_back cs parts.1)

-- A star is no quote.
starred_step : (w : Bool) (v : List ℕ) (vs rest : List (List ℕ)) → holds 34 v ≡ false → any_quote vs ≡ false → any_quote rest ≡ false → any_quote (cond w ((42 ∷ v) ∷ vs) (v ∷ rest)) ≡ false
starred_step true v vs rest h k r = rw (h, k) refl
starred_step false v vs rest h k r = rw (h, r) refl

pub starred_quotes : (default : List ℕ) (vs : List (List ℕ)) → any_quote vs ≡ false → any_quote (with_star default vs) ≡ false
starred_quotes default [] h = refl
starred_quotes default (v ∷ vs) h =
    let parts = or_parts (holds 34 v) (any_quote vs) h in
    starred_step (same_text default v) v vs (with_star default vs) parts.0 parts.1 (starred_quotes default vs parts.1)

no_quote : (n h b s : Bool) → (n || h || b || s) ≡ false → h ≡ false
no_quote true h b s e = absurd (cc)
no_quote false true b s e = absurd (cc)
no_quote false false b s e = refl

pub good_quotes : (vs : List (List ℕ)) → list_any is_bad_value vs ≡ false → any_quote vs ≡ false
good_quotes [] h = refl
good_quotes (v ∷ vs) h =
    let parts = or_parts (is_bad_value v) (list_any is_bad_value vs) h in
    rw (no_quote (is_empty_value v) (holds 34 v) (has_bars v) (begins_with_star v) parts.0, good_quotes vs parts.1) refl

pub any_bad : (vs : List (List ℕ)) → are_bad_values vs ≡ false → list_any is_bad_value vs ≡ false
any_bad [] h = refl
any_bad (v ∷ vs) h = h

-- The choices of a combo that can be shown are read back.
pub combo_back : (default : List ℕ) (vs : List (List ℕ)) → (holds 34 default || are_bad_values vs) ≡ false → choices_in (with_quotes (with_star default vs)) ≡ with_star default vs
combo_back default vs h =
    choices_back (with_star default vs) (starred_quotes default vs (good_quotes vs (any_bad vs (or_parts (holds 34 default) (are_bad_values vs) h).1)))
