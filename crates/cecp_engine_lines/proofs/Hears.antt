-- A line that reads as a reply is its text.
use Rattle.std.proofs.Common.{◌≡◌, ℕ, ℤ, zero, suc, ◌+◌, ◌^◌, ◌<◌, ◌≤◌, List, [], ◌∷◌, ◌++◌, Bool, true, false, ◌&&◌, eqb, ltb, leb, cond, length, take, drop, get_or, Option, Some, None, refl, sym, ap, ◌∙◌, subst, arith}
use Rattle.std.specs.Prelude.{position}
use Rattle.std.specs.Option.{option_map}
use Rattle.std.specs.List.{position_or_len, before_first, after_first}
use Rattle.std.specs.Str.Parse.{starts_with_minus}
use Rattle.std.specs.Fmt.{decimal, signed_decimal}
use Rattle.std.proofs.lemmas.Bool.Decides.{nat_tests, Decides-eqb}
use Rattle.std.proofs.lemmas.Option.{cond_some, some_pair_parts}
use Rattle.std.proofs.lemmas.List.Sums.{split_at_first, passes_at_first}
use lib.IntN.{pos, negsuc}
use mir.Val.{SFits}
use mir.Syntax.{w64}
use Rattle.cecp_engine_lines.specs.ReplyReading.{number_in_64_bits, positive_score, negative_score, written_signed, is_space, cut_at, with_rest, field_of, number_field, score_field}
use Rattle.cecp_engine_lines.proofs.Plain.{written_is}

-- a text cut at the first byte of a kind
pub at_byte : (k : ℕ) (xs : List ℕ) (at : ℕ) → position (λ b. eqb b k) xs ≡ Some at → xs ≡ take at xs ++ (k ∷ drop (at + 1) xs)
at_byte k xs at h =
    let c = cond_some (ltb (position_or_len (λ b. eqb b k) xs) (length xs)) (position_or_len (λ b. eqb b k) xs) at h in
    let lt : position_or_len (λ b. eqb b k) xs < length xs = grind (arith, nat_tests, c.0) in
    let byte : get_or xs (position_or_len (λ b. eqb b k) xs) 0 ≡ k = (Decides-eqb (get_or xs (position_or_len (λ b. eqb b k) xs) 0) k).0 (passes_at_first (λ b. eqb b k) xs 0 lt) in
    split_at_first (λ b. eqb b k) xs 0 lt
    ∙ ap (λ b. before_first (λ c. eqb c k) xs ++ (b ∷ after_first (λ c. eqb c k) xs)) byte
    ∙ ap (λ n. take n xs ++ (k ∷ drop (n + 1) xs)) c.1

pub map_some : {A B : Type 0} (f : A → B) (o : Option A) (y : B) → option_map f o ≡ Some y → (x : A) × (o ≡ Some x) × (f x ≡ y)
map_some f None y h = absurd (cc)
map_some f (Some x) y h = (x, refl, cc)

with_parts : {A : Type 0} (o : Option A) (others : List ℕ) (p : A × List ℕ) → with_rest o others ≡ Some p → (o ≡ Some p.0) × (others ≡ p.1)
with_parts None others p h = absurd (cc)
with_parts (Some x) others p h = let k = some_pair_parts x p.0 others p.1 h in (ap Some k.0, k.1)

field_by : {A : Type 0} (read : List ℕ → Option A) (text : List ℕ) (o : Option ℕ) (p : A × List ℕ) → position is_space text ≡ o → field_of read (cut_at o text) ≡ Some p → (t : List ℕ) × (read t ≡ Some p.0) × (text ≡ t ++ (32 ∷ p.1))
field_by read text None p e h = absurd (cc)
field_by read text (Some at) p e h =
    let k = with_parts (read (take at text)) (drop (at + 1) text) p h in
    (take at text, k.0, at_byte 32 text at e ∙ ap (λ r. take at text ++ (32 ∷ r)) k.1)

pub number_is : (text : List ℕ) (p : ℕ × List ℕ) → number_field text ≡ Some p → (text ≡ decimal p.0 ++ (32 ∷ p.1)) × (p.0 < 2 ^ 64)
number_is text p h =
    let f = field_by number_in_64_bits text (position is_space text) p refl h in
    let w = written_is f.0 p.0 f.1 in
    (f.2 ∙ ap (λ t. t ++ (32 ∷ p.1)) w.0, w.1)

-- A SCORE

minus_by : (text : List ℕ) → starts_with_minus text ≡ true → text ≡ 45 ∷ drop 1 text
minus_by [] h = absurd (cc)
minus_by (c ∷ cs) h = let same : c ≡ 45 = (Decides-eqb c 45).0 h in ap (λ b. b ∷ cs) same

negative_is : (o : Option ℕ) (z : ℤ) → negative_score o ≡ Some z → (n : ℕ) × (o ≡ Some n) × (signed_decimal z ≡ 45 ∷ decimal n) × SFits w64 z
negative_is None z h = absurd (cc)
negative_is (Some zero) z h = absurd (cc)
negative_is (Some (suc k)) z h =
    let c = cond_some (leb 1 (suc k) && leb (suc k) (2 ^ 63)) (negsuc k) z h in
    let le : suc k ≤ 2 ^ 63 = grind (arith, nat_tests, c.0) in
    (suc k, refl, sym (ap signed_decimal c.1), subst (SFits w64) c.1 (record { sfits = omega arith }))

positive_is : (o : Option ℕ) (z : ℤ) → positive_score o ≡ Some z → (n : ℕ) × (o ≡ Some n) × (signed_decimal z ≡ decimal n) × SFits w64 z
positive_is None z h = absurd (cc)
positive_is (Some n) z h =
    let c = cond_some (ltb n (2 ^ 63)) (pos n) z h in
    let lt : n < 2 ^ 63 = grind (arith, nat_tests, c.0) in
    (n, refl, sym (ap signed_decimal c.1), subst (SFits w64) c.1 (record { sfits = omega arith }))

signed_by : (text : List ℕ) (b : Bool) (z : ℤ) → starts_with_minus text ≡ b → cond b (negative_score (number_in_64_bits (drop 1 text))) (positive_score (number_in_64_bits text)) ≡ Some z → (text ≡ signed_decimal z) × SFits w64 z
signed_by text true z e h =
    let n = negative_is (number_in_64_bits (drop 1 text)) z h in
    let w = written_is (drop 1 text) n.0 n.1 in
    (minus_by text e ∙ ap (λ ds. 45 ∷ ds) w.0 ∙ sym n.2, n.3)
signed_by text false z e h =
    let n = positive_is (number_in_64_bits text) z h in
    let w = written_is text n.0 n.1 in
    (w.0 ∙ sym n.2, n.3)

pub score_is : (text : List ℕ) (p : ℤ × List ℕ) → score_field text ≡ Some p → (text ≡ signed_decimal p.0 ++ (32 ∷ p.1)) × SFits w64 p.0
score_is text p h =
    let f = field_by written_signed text (position is_space text) p refl h in
    let w = signed_by f.0 (starts_with_minus f.0) p.0 refl f.1 in
    (f.2 ∙ ap (λ t. t ++ (32 ∷ p.1)) w.0, w.1)
