-- Lists cut at a byte when each piece has only bytes above it.
use Rattle.std.proofs.Common.{◌≡◌, ℕ, suc, ◌<◌, ◌≤◌, List, [], ◌∷◌, ◌++◌, Bool, true, false, ltb, length, get_or, refl, ap, ◌∙◌, arith}
use Rattle.std.specs.List.{AllByRecursion, slice_split, onto_first, join_with_byte, filter}
use Rattle.std.proofs.lemmas.Bool.Decides.{nat_tests}
use Rattle.std.proofs.lemmas.List.Splits.{slice_split-cons_yes, slice_split-cons_no}
use Rattle.protocol_tokens.specs.Tokens.{is_white, tokens}
use Rattle.fen_text.specs.Squares.{is_slash}

-- each byte is above this one
abbrev pub Above : ℕ → List ℕ → Type 0
Above low bytes = AllByRecursion (λ b. low < b) bytes

pub above-append : (low : ℕ) (xs ys : List ℕ) → Above low xs → Above low ys → Above low (xs ++ ys)
above-append low [] ys a b = b
above-append low (x ∷ xs) ys a b = (a.0, above-append low xs ys a.1 b)

pub above_less : (low lower : ℕ) (xs : List ℕ) → lower ≤ low → Above low xs → Above lower xs
above_less low lower [] l a = tt
above_less low lower (x ∷ xs) l a = let h : low < x = a.0 in (omega arith, above_less low lower xs l a.1)

pub above_each : (low : ℕ) (xs : List ℕ) → ((k : ℕ) → k < length xs → low < get_or xs k 0) → Above low xs
above_each low [] h = tt
above_each low (x ∷ xs) h = (h 0 (omega arith), above_each low xs (λ k l. h (suc k) (omega arith)))

-- the test holds of no byte above this one
abbrev pub Spares : ℕ → (ℕ → Bool) → Type 0
Spares low test = (b : ℕ) → low < b → test b ≡ false

pub white_spares : Spares 32 is_white
white_spares b h = grind (arith, nat_tests)

pub slash_spares : Spares 47 is_slash
slash_spares b h = grind (arith, nat_tests)

pub split_whole : (low : ℕ) (test : ℕ → Bool) → Spares low test → (xs : List ℕ) → Above low xs → slice_split test xs ≡ xs ∷ []
split_whole low test spared [] a = refl
split_whole low test spared (x ∷ xs) a = slice_split-cons_no test x xs (spared x a.0) ∙ ap (onto_first x) (split_whole low test spared xs a.1)

pub split_first : (low : ℕ) (test : ℕ → Bool) → Spares low test → (xs : List ℕ) (c : ℕ) (ys : List ℕ) → Above low xs → test c ≡ true → slice_split test (xs ++ c ∷ ys) ≡ xs ∷ slice_split test ys
split_first low test spared [] c ys a cut = slice_split-cons_yes test c ys cut
split_first low test spared (x ∷ xs) c ys a cut = slice_split-cons_no test x (xs ++ c ∷ ys) (spared x a.0) ∙ ap (onto_first x) (split_first low test spared xs c ys a.1 cut)

-- a field without white space
abbrev pub IsWord : List ℕ → Type 0
IsWord bytes = (0 < length bytes) × Above 32 bytes

split_words : (x : List ℕ) (xs : List (List ℕ)) → IsWord x → AllByRecursion IsWord xs → slice_split is_white (join_with_byte 32 (x ∷ xs)) ≡ x ∷ xs
split_words x [] w ws = split_whole 32 is_white white_spares x w.1
split_words x (y ∷ ys) w ws = split_first 32 is_white white_spares x 32 (join_with_byte 32 (y ∷ ys)) w.1 refl ∙ ap (λ zs. x ∷ zs) (split_words y ys ws.0 ws.1)

abbrev pub is_field : List ℕ → Bool
is_field bytes = ltb 0 (length bytes)

words_stay : (xs : List (List ℕ)) → AllByRecursion IsWord xs → filter is_field xs ≡ xs
words_stay [] ws = refl
words_stay (x ∷ xs) ws =
    let w : 0 < length x = ws.0.0 in
    let e : is_field x ≡ true = grind (arith, nat_tests) in
    rw e (ap (λ ys. x ∷ ys) (words_stay xs ws.1))

-- the fields of words with one blank between are these words
pub fields_of_words : (x : List ℕ) (xs : List (List ℕ)) → IsWord x → AllByRecursion IsWord xs → tokens (join_with_byte 32 (x ∷ xs)) ≡ x ∷ xs
fields_of_words x xs w ws = ap (filter is_field) (split_words x xs w ws) ∙ words_stay (x ∷ xs) (w, ws)
