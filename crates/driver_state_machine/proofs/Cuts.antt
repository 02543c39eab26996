-- Each cut takes a byte or more.
use Rattle.std.proofs.Common.{◌≡◌, ℕ, zero, suc, ◌+◌, ◌<◌, ◌≤◌, List, [], ◌∷◌, length, drop, take, Bool, true, false, cond, eqb, Option, Some, None, IfSome, refl, sym, ap, subst, ◌∙◌, arith}
use Rattle.std.specs.List.{before_first, after_first, position_or_len}
use Rattle.std.proofs.lemmas.List.{length-drop, length-take}
use Rattle.std.proofs.lemmas.Bool.Decides.{nat_tests}
use Rattle.protocol_tokens.specs.Tokens.{is_white, trim_left, token_end}
use Rattle.driver_state_machine.specs.Parts.{Feature, CutFeature, ends_name, is_quote, cut_with_feature, feature_value_cut, cut_without_feature, cut_by, cut_of, onto, parts_from, parts_within, feature_parts, FitsIn, IsNamed}
use Rattle.protocol_tokens.proofs.Lengths.{trim_left_length}

drop_short : (n : ℕ) (xs : List ℕ) → length (drop n xs) ≤ length xs
drop_short n xs = omega (arith, length-drop n xs)

-- the bytes before and after a place
halves : (n : ℕ) (xs : List ℕ) → length (take n xs) + length (drop n xs) ≤ length xs
halves n xs = omega (arith, length-drop n xs, length-take n xs)

halves_more : (n : ℕ) (xs : List ℕ) → length (take n xs) + length (drop (n + 1) xs) ≤ length xs
halves_more n xs = omega (arith, length-drop (n + 1) xs, length-take n xs)

-- the rest that a cut leaves

quoted_rest : (q : Bool) (name : List ℕ) (b : ℕ) (bs : List ℕ) → length (cond q (cut_with_feature name (before_first is_quote bs) (after_first is_quote bs)) (cut_with_feature name (before_first is_white (b ∷ bs)) (drop (token_end (b ∷ bs)) (b ∷ bs)))).rest ≤ length (b ∷ bs)
quoted_rest true name b bs = omega (arith, drop_short (position_or_len is_quote bs + 1) bs)
quoted_rest false name b bs = drop_short (token_end (b ∷ bs)) (b ∷ bs)

value_rest : (name bs : List ℕ) → length (feature_value_cut name bs).rest ≤ length bs
value_rest name [] = omega arith
value_rest name (b ∷ bs) = quoted_rest (eqb b 34) name b bs

rest_by : (equals : Bool) (name bs behind : List ℕ) (n : ℕ) → length bs ≤ n → length behind ≤ n → length (cond equals (feature_value_cut name bs) (cut_without_feature behind)).rest ≤ n
rest_by true name bs behind n h k = omega (arith, value_rest name bs)
rest_by false name bs behind n h k = omega (arith, drop_short (token_end behind) behind)

rest_within : (name after behind : List ℕ) (n : ℕ) → length after ≤ suc n → length behind ≤ n → length (cut_by name after behind).rest ≤ n
rest_within [] after behind n h k = omega (arith, drop_short (token_end behind) behind)
rest_within (c ∷ cs) [] behind n h k = omega (arith, drop_short (token_end behind) behind)
rest_within (c ∷ cs) (b ∷ bs) behind n h k = rest_by (eqb b 61) (c ∷ cs) bs behind n (omega arith) k

pub rest_short : (b : ℕ) (bs : List ℕ) → length (cut_of (b ∷ bs) bs).rest ≤ length bs
rest_short b bs = rest_within (before_first ends_name (b ∷ bs)) (drop (position_or_len ends_name (b ∷ bs)) (b ∷ bs)) bs (length bs) (drop_short (position_or_len ends_name (b ∷ bs)) (b ∷ bs)) (omega arith)

-- the name, the value and the rest are within the text

quoted_fits : (q : Bool) (name : List ℕ) (b : ℕ) (bs text : List ℕ) → length name + length (b ∷ bs) + 1 ≤ length text → FitsIn text (cond q (cut_with_feature name (before_first is_quote bs) (after_first is_quote bs)) (cut_with_feature name (before_first is_white (b ∷ bs)) (drop (token_end (b ∷ bs)) (b ∷ bs))))
quoted_fits true name b bs text h = omega (arith, halves_more (position_or_len is_quote bs) bs)
quoted_fits false name b bs text h = omega (arith, halves (token_end (b ∷ bs)) (b ∷ bs))

value_fits : (name bs text : List ℕ) → length name + length bs + 1 ≤ length text → FitsIn text (feature_value_cut name bs)
value_fits name [] text h = omega arith
value_fits name (b ∷ bs) text h = quoted_fits (eqb b 34) name b bs text h

fits_by : (equals : Bool) (name bs behind text : List ℕ) → length name + length bs + 1 ≤ length text → FitsIn text (cond equals (feature_value_cut name bs) (cut_without_feature behind))
fits_by true name bs behind text h = value_fits name bs text h
fits_by false name bs behind text h = tt

fits_within : (name after behind text : List ℕ) → length name + length after ≤ length text → FitsIn text (cut_by name after behind)
fits_within [] after behind text h = tt
fits_within (c ∷ cs) [] behind text h = tt
fits_within (c ∷ cs) (b ∷ bs) behind text h = fits_by (eqb b 61) (c ∷ cs) bs behind text (omega arith)

pub cut_fits : (text : List ℕ) (b : ℕ) (bs : List ℕ) → trim_left text ≡ b ∷ bs → FitsIn text (cut_of (b ∷ bs) bs)
cut_fits text b bs e =
    let whole : length (trim_left text) ≡ suc (length bs) = ap length e in
    fits_within (before_first ends_name (b ∷ bs)) (drop (position_or_len ends_name (b ∷ bs)) (b ∷ bs)) bs text (omega (arith, halves (position_or_len ends_name (b ∷ bs)) (b ∷ bs), trim_left_length text))

pub cut_shorter : (text : List ℕ) (b : ℕ) (bs : List ℕ) → trim_left text ≡ b ∷ bs → length (cut_of (b ∷ bs) bs).rest < length text
cut_shorter text b bs e =
    let whole : length (trim_left text) ≡ suc (length bs) = ap length e in
    omega (arith, rest_short b bs, trim_left_length text)

-- a feature has a name

quoted_named : (q : Bool) (c : ℕ) (cs : List ℕ) (b : ℕ) (bs : List ℕ) → IsNamed (cond q (cut_with_feature (c ∷ cs) (before_first is_quote bs) (after_first is_quote bs)) (cut_with_feature (c ∷ cs) (before_first is_white (b ∷ bs)) (drop (token_end (b ∷ bs)) (b ∷ bs))))
quoted_named true c cs b bs = omega arith
quoted_named false c cs b bs = omega arith

value_named : (c : ℕ) (cs bs : List ℕ) → IsNamed (feature_value_cut (c ∷ cs) bs)
value_named c cs [] = omega arith
value_named c cs (b ∷ bs) = quoted_named (eqb b 34) c cs b bs

named_by : (equals : Bool) (c : ℕ) (cs bs behind : List ℕ) → IsNamed (cond equals (feature_value_cut (c ∷ cs) bs) (cut_without_feature behind))
named_by true c cs bs behind = value_named c cs bs
named_by false c cs bs behind = tt

named_within : (name after behind : List ℕ) → IsNamed (cut_by name after behind)
named_within [] after behind = tt
named_within (c ∷ cs) [] behind = tt
named_within (c ∷ cs) (b ∷ bs) behind = named_by (eqb b 61) c cs bs behind

pub cut_named : (prefix : List ℕ) (cut : CutFeature) → cut ≡ cut_of prefix (drop 1 prefix) → IsNamed cut
cut_named prefix cut f = rw f (named_within (before_first ends_name prefix) (drop (position_or_len ends_name prefix) prefix) (drop 1 prefix))

-- more cuts than bytes change nothing

from_same : (t : List ℕ) (f g : List ℕ → List Feature) → ((r : List ℕ) → length r < length t → f r ≡ g r) → parts_from t f ≡ parts_from t g
from_same [] f g h = refl
from_same (b ∷ bs) f g h = ap (λ (fs : List Feature). onto (cut_of (b ∷ bs) bs).part fs) (h (cut_of (b ∷ bs) bs).rest (omega (arith, rest_short b bs)))

parts_same : (n m : ℕ) (text : List ℕ) → length text ≤ n → length text ≤ m → parts_within n text ≡ parts_within m text
parts_same zero zero text h k = refl
parts_same zero (suc m) [] h k = refl
parts_same zero (suc m) (b ∷ bs) h k = absurd (omega arith)
parts_same (suc n) zero [] h k = refl
parts_same (suc n) zero (b ∷ bs) h k = absurd (omega arith)
parts_same (suc n) (suc m) text h k =
    from_same (trim_left text) (λ rest. parts_within n rest) (λ rest. parts_within m rest)
    (λ r small. parts_same n m r (omega (arith, trim_left_length text)) (omega (arith, trim_left_length text)))

pub parts_none : (text : List ℕ) → trim_left text ≡ [] → feature_parts text ≡ []
unfolding feature_parts
parts_none text e =
    parts_same (length text) (suc (length text)) text (omega arith) (omega arith)
    ∙ ap (λ (t : List ℕ). parts_from t (λ rest. parts_within (length text) rest)) e

pub parts_some : (text : List ℕ) (b : ℕ) (bs : List ℕ) → trim_left text ≡ b ∷ bs → feature_parts text ≡ onto (cut_of (b ∷ bs) bs).part (feature_parts (cut_of (b ∷ bs) bs).rest)
unfolding feature_parts
parts_some text b bs e =
    parts_same (length text) (suc (length text)) text (omega arith) (omega arith)
    ∙ ap (λ (t : List ℕ). parts_from t (λ rest. parts_within (length text) rest)) e
    ∙ ap (λ (fs : List Feature). onto (cut_of (b ∷ bs) bs).part fs) (parts_same (length text) (length (cut_of (b ∷ bs) bs).rest) (cut_of (b ∷ bs) bs).rest (omega (arith, cut_shorter text b bs e)) (omega arith))

-- the same, as a call that cuts knows it

pub prefix_none : (text prefix : List ℕ) → prefix ≡ trim_left text → eqb (length prefix) 0 ≡ true → feature_parts text ≡ []
prefix_none text [] e h = parts_none text (sym e)
prefix_none text (b ∷ bs) e h = absurd (grind (arith, nat_tests))

pub prefix_parts : (text prefix : List ℕ) (cut : CutFeature) → prefix ≡ trim_left text → eqb (length prefix) 0 ≡ false → cut ≡ cut_of prefix (drop 1 prefix) → feature_parts text ≡ onto cut.part (feature_parts cut.rest)
prefix_parts text [] cut e h f = absurd (cc)
prefix_parts text (b ∷ bs) cut e h f = rw f (parts_some text b bs (sym e))

pub prefix_shorter : (text prefix : List ℕ) (cut : CutFeature) → prefix ≡ trim_left text → eqb (length prefix) 0 ≡ false → cut ≡ cut_of prefix (drop 1 prefix) → length cut.rest < length text
prefix_shorter text [] cut e h f = absurd (cc)
prefix_shorter text (b ∷ bs) cut e h f = rw f (cut_shorter text b bs (sym e))

pub prefix_fits : (text prefix : List ℕ) (cut : CutFeature) → prefix ≡ trim_left text → eqb (length prefix) 0 ≡ false → cut ≡ cut_of prefix (drop 1 prefix) → FitsIn text cut
prefix_fits text [] cut e h f = absurd (cc)
prefix_fits text (b ∷ bs) cut e h f = rw f (cut_fits text b bs (sym e))
