-- Numbers of any size are written with digits, of which there is one at least and at most 64.
use Rattle.std.proofs.Common.{◌≡◌, ℕ, zero, suc, ◌/◌, ◌%◌, ◌+◌, ◌<◌, ◌≤◌, List, [], ◌∷◌, length, Bool, true, false, cond, ◌==◌, ltb, decimal, refl, arith}
use Rattle.std.specs.List.{list_all}
use Rattle.std.specs.Char.{is_ascii_digit}
use Rattle.std.specs.Fmt.{digits, digits_onto, digit_glyph}
use Rattle.std.proofs.lemmas.Bool.Decides.{nat_tests}

glyph : (d : ℕ) → d < 10 → is_ascii_digit (digit_glyph false d) ≡ true
glyph d h = let t : ltb d 10 ≡ true = grind (arith, nat_tests) in rw t (grind (arith, nat_tests))

low : (n : ℕ) → n % 10 < 10
low n = omega arith

onto_by : (b : Bool) (xs ys : List ℕ) → list_all is_ascii_digit xs ≡ true → list_all is_ascii_digit ys ≡ true → list_all is_ascii_digit (cond b xs ys) ≡ true
onto_by true xs ys h k = h
onto_by false xs ys h k = k

onto_digits : (k n : ℕ) (acc : List ℕ) → list_all is_ascii_digit acc ≡ true → list_all is_ascii_digit (digits_onto k 10 false n acc) ≡ true
onto_digits zero n acc h = h
onto_digits (suc k) n acc h =
    let more : list_all is_ascii_digit (digit_glyph false (n % 10) ∷ acc) ≡ true = rw (glyph (n % 10) (low n), h) refl in
    onto_by (n / 10 == 0) (digit_glyph false (n % 10) ∷ acc) (digits_onto k 10 false (n / 10) (digit_glyph false (n % 10) ∷ acc)) more (onto_digits k (n / 10) (digit_glyph false (n % 10) ∷ acc) more)

longer_by : (b : Bool) (m : ℕ) (xs ys : List ℕ) → m < length xs → m < length ys → m < length (cond b xs ys)
longer_by true m xs ys h k = h
longer_by false m xs ys h k = k

onto_long : (k n : ℕ) (acc : List ℕ) → 0 < length acc → 0 < length (digits_onto k 10 false n acc)
onto_long zero n acc h = h
onto_long (suc k) n acc h =
    let more : 0 < length (digit_glyph false (n % 10) ∷ acc) = omega arith in
    longer_by (n / 10 == 0) 0 (digit_glyph false (n % 10) ∷ acc) (digits_onto k 10 false (n / 10) (digit_glyph false (n % 10) ∷ acc)) more (onto_long k (n / 10) (digit_glyph false (n % 10) ∷ acc) more)

some_onto : (k n : ℕ) → 0 < k → 0 < length (digits_onto k 10 false n [])
some_onto zero n h = absurd (omega (arith, h))
some_onto (suc k) n h =
    let more : 0 < length (digit_glyph false (n % 10) ∷ []) = omega arith in
    longer_by (n / 10 == 0) 0 (digit_glyph false (n % 10) ∷ []) (digits_onto k 10 false (n / 10) (digit_glyph false (n % 10) ∷ [])) more (onto_long k (n / 10) (digit_glyph false (n % 10) ∷ []) more)

few_by : (b : Bool) (m : ℕ) (xs ys : List ℕ) → length xs ≤ m → length ys ≤ m → length (cond b xs ys) ≤ m
few_by true m xs ys h k = h
few_by false m xs ys h k = k

onto_few : (k n : ℕ) (acc : List ℕ) → length (digits_onto k 10 false n acc) ≤ k + length acc
onto_few zero n acc = omega arith
onto_few (suc k) n acc =
    let later : length (digits_onto k 10 false (n / 10) (digit_glyph false (n % 10) ∷ acc)) ≤ suc k + length acc = omega (arith, onto_few k (n / 10) (digit_glyph false (n % 10) ∷ acc)) in
    few_by (n / 10 == 0) (suc k + length acc) (digit_glyph false (n % 10) ∷ acc) (digits_onto k 10 false (n / 10) (digit_glyph false (n % 10) ∷ acc)) (omega arith) later

pub record AreDigits (ds : List ℕ) : Type 0 where
  pub some : 0 < length ds
  pub few : length ds ≤ 64
  pub all : list_all is_ascii_digit ds ≡ true

pub numeral : (n : ℕ) → AreDigits (decimal n)
unfolding digits
numeral n = record { some = some_onto 64 n (omega arith); few = omega (arith, onto_few 64 n []); all = onto_digits 64 n [] refl }
