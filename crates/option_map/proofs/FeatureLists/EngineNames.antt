-- The name of an engine with blanks for its control bytes.
use Rattle.std.proofs.Common.{◌≡◌, ℕ, zero, suc, ◌+◌, ◌<◌, List, [], ◌∷◌, Bool, true, false, ◌||◌, ◌==◌, cond, true≢false, length, take, get_or, refl, sym, ap, ◌∙◌, arith, codes, nat_lt}
use Rattle.std.proofs.lemmas.Bool.Decides.{nat_tests}
use Rattle.std.proofs.lemmas.List.{take-map, length-map}
use Rattle.protocol_tokens.specs.Tokens.{is_white, trim_right}
use Rattle.protocol_tokens.proofs.Trims.{last_white, last_black}
use Rattle.option_map.specs.DeclaredOptions.Names.{holds}
use Rattle.option_map.specs.DeclaredOptions.Styles.{is_control, blanked_byte, blanked_text}
use Rattle.option_map.specs.FeatureLists.Features.{shown_name, is_unfit}

get_mapped : (xs : List ℕ) (n : ℕ) → n < length xs → get_or (blanked_text xs) n 0 ≡ blanked_byte (get_or xs n 0)
get_mapped [] n h = absurd (omega (arith, h))
get_mapped (x ∷ xs) zero h = refl
get_mapped (x ∷ xs) (suc n) h = get_mapped xs n (omega (arith, h))

pub last_white_blanked : (xs : List ℕ) (n : ℕ) → length xs ≡ n + 1 → is_white (blanked_byte (get_or xs n 0)) ≡ true → trim_right (blanked_text (take n xs)) ≡ trim_right (blanked_text xs)
last_white_blanked xs n e w =
    ap trim_right (sym (take-map blanked_byte n xs))
    ∙ last_white (blanked_text xs) n (length-map xs blanked_byte ∙ e) (ap is_white (get_mapped xs n (omega (arith, e))) ∙ w)

pub last_black_blanked : (xs : List ℕ) (n : ℕ) → length xs ≡ n + 1 → is_white (blanked_byte (get_or xs n 0)) ≡ false → trim_right (blanked_text xs) ≡ blanked_text xs
last_black_blanked xs n e w = last_black (blanked_text xs) n (length-map xs blanked_byte ∙ e) (ap is_white (get_mapped xs n (omega (arith, e))) ∙ w)

-- A blank comes for no quote.
quote_by : (w : Bool) (b : ℕ) → is_control b ≡ w → (cond w 32 b == 34) ≡ (b == 34)
quote_by true b e = by (b == 34) refl
  where
    by : (q : Bool) → (b == 34) ≡ q → false ≡ q
    by false h = refl
    by true h =
        let is : b ≡ 34 = grind (arith, nat_tests, h) in
        let other : is_control b ≡ false = ap is_control is in
        absurd (true≢false (sym e ∙ other))
quote_by false b e = refl

holds_by : (a b v w : Bool) → a ≡ b → v ≡ w → (a || v) ≡ (b || w)
holds_by a b v w e f = rw (e, f) refl

holds_blanked : (t : List ℕ) → holds 34 (blanked_text t) ≡ holds 34 t
holds_blanked [] = refl
holds_blanked (b ∷ bs) = holds_by (blanked_byte b == 34) (b == 34) (holds 34 (blanked_text bs)) (holds 34 bs) (quote_by (is_control b) b refl) (holds_blanked bs)

unfit_blanked : (t : List ℕ) → is_unfit (blanked_text t) ≡ is_unfit t
unfit_blanked t =
    ap (λ n. nat_lt n 1 || nat_lt 256 n || holds 34 (blanked_text t)) (length-map t blanked_byte)
    ∙ ap (λ q. nat_lt (length t) 1 || nat_lt 256 (length t) || q) (holds_blanked t)

shown_by : (v w : Bool) (t : List ℕ) → v ≡ w → blanked_text (cond w (codes "UCI engine") t) ≡ cond v (codes "UCI engine") (blanked_text t)
shown_by true true t e = refl
shown_by false false t e = refl
shown_by true false t e = absurd (cc)
shown_by false true t e = absurd (cc)

-- The blanks may come before the name is looked at, or after.
pub shown_blanked : (t : List ℕ) → blanked_text (shown_name t) ≡ shown_name (blanked_text t)
shown_blanked t = shown_by (is_unfit (blanked_text t)) (is_unfit t) t (unfit_blanked t)
