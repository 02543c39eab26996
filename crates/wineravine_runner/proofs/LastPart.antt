-- What stands behind the last slash, byte by byte.
use Rattle.std.proofs.Common.{◌≡◌, ◌∙◌, ℕ, Bool, true, false, ◌==◌, ◌&&◌, not, if◌then◌else◌, List, [], ◌∷◌, ◌++◌, refl, sym, ap, drop, length, ◌≤◌}
use Rattle.std.proofs.lemmas.List.{append_assoc, append-nil, drop_all}
use Rattle.std.specs.Path.{has_no_slash}
use Rattle.protocol_tokens.specs.Bytes.{slash}
use Rattle.wineravine_runner.specs.LogNames.{behind_slash, next_part}

-- the part since the last slash, of which so much was read, and the rest of the text
abbrev pub last_part : List ℕ → List ℕ → List ℕ
last_part part [] = part
last_part part (b ∷ bs) = last_part (next_part part b) bs

whole : (bs : List ℕ) → (if has_no_slash bs then bs else behind_slash bs) ≡ behind_slash bs
whole [] = refl
whole (b ∷ bs) = by (has_no_slash (b ∷ bs))
  where
    by : (t : Bool) → (if t then b ∷ bs else (if t then b ∷ bs else behind_slash bs)) ≡ (if t then b ∷ bs else behind_slash bs)
    by true = refl
    by false = refl

-- one byte more, by whether it is a slash, and whether the rest has none
one_more : (is_slash none : Bool) (part : List ℕ) (b : ℕ) (bs : List ℕ) (read later : List ℕ)
    → later ≡ (if none then read ++ bs else behind_slash bs) → (is_slash ≡ true → read ≡ []) → (is_slash ≡ false → read ≡ part ++ b ∷ [])
    → (if none then bs else behind_slash bs) ≡ behind_slash bs
    → later ≡ (if not is_slash && none then part ++ b ∷ bs else (if not is_slash && none then b ∷ bs else behind_slash bs))
one_more true true part b bs read later e new same all = e ∙ ap (λ (r : List ℕ). r ++ bs) (new refl) ∙ all
one_more true false part b bs read later e new same all = e
one_more false true part b bs read later e new same all = e ∙ ap (λ (r : List ℕ). r ++ bs) (same refl) ∙ append_assoc part (b ∷ []) bs
one_more false false part b bs read later e new same all = e

-- one byte more, by what comes of the rest
by_byte : (is_slash : Bool) (part : List ℕ) (b : ℕ) (bs : List ℕ) → ((read : List ℕ) → last_part read bs ≡ (if has_no_slash bs then read ++ bs else behind_slash bs))
    → last_part (if is_slash then [] else part ++ b ∷ []) bs
    ≡ (if not is_slash && has_no_slash bs then part ++ b ∷ bs else (if not is_slash && has_no_slash bs then b ∷ bs else behind_slash bs))
by_byte true part b bs rest = one_more true (has_no_slash bs) part b bs [] _ (rest []) (λ e. refl) (λ e. let z : true ≡ false = e in cc) (whole bs)
by_byte false part b bs rest = one_more false (has_no_slash bs) part b bs (part ++ b ∷ []) _ (rest (part ++ b ∷ [])) (λ e. let z : false ≡ true = e in cc) (λ e. refl) (whole bs)

pub read_is : (part bs : List ℕ) → last_part part bs ≡ (if has_no_slash bs then part ++ bs else behind_slash bs)
read_is part [] = sym (append-nil part)
read_is part (b ∷ bs) = by_byte (b == slash) part b bs (λ read. read_is read bs)

pub last_part_is : (text : List ℕ) → last_part [] text ≡ behind_slash text
last_part_is text = read_is [] text ∙ whole text

-- all of the text was read
pub all_read : (part text : List ℕ) (n : ℕ) → length text ≤ n → last_part part (drop n text) ≡ last_part [] text → part ≡ behind_slash text
all_read part text n end read =
    ap (last_part part) (sym (drop_all n text end)) ∙ read ∙ last_part_is text
