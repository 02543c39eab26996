-- Numbers as they are written, in both directions.
use Rattle.std.proofs.Common.{◌≡◌, ◌↔◌, ℕ, suc, ◌+◌, ◌%◌, ◌<◌, ◌≤◌, ◌^◌, List, [], ◌∷◌, length, Bool, true, false, cond, ◌&&◌, Option, Some, None, decimal, refl, sym, ap, ◌∙◌, arith, lit<}
use Rattle.std.specs.Prelude.{◌==◌}
use Rattle.std.specs.Str.{bytes_eq}
use Rattle.std.proofs.lemmas.Bool.Decides.{nat_tests}
use Rattle.std.proofs.lemmas.Option.{cond_some}
use Rattle.std.proofs.lemmas.Slice.Eq.{bytes_eq-Decides}
use Rattle.std.proofs.lemmas.Fmt.{length-decimal-le}
use Rattle.std.proofs.lemmas.Bool.{and_parts}
use Rattle.protocol_tokens.specs.Numbers.{digits}
use Rattle.protocol_tokens.proofs.Sizes.{digits_small}
use Rattle.protocol_tokens.proofs.Written.{digits_decimal}
use Rattle.script_lines.specs.StepLine.{as_written, numeral, step_number_line, SpellsStep, step_of, step_number}

pub same_text : (text : List ℕ) → bytes_eq text text ≡ true
same_text text = (bytes_eq-Decides text text).1 refl

by_digits : (most n : ℕ) (text : List ℕ) (o : Option ℕ) → digits most text ≡ o → as_written o text ≡ Some n → (n < 10 ^ most) × (text ≡ decimal n)
by_digits most n text None e h = absurd (cc)
by_digits most n text (Some k) e h =
    let both = cond_some (bytes_eq (decimal k) text) k n h in
    let same : decimal k ≡ text = (bytes_eq-Decides (decimal k) text).0 both.0 in
    (digits_small most text n (e ∙ ap Some both.1), sym same ∙ ap decimal both.1)

-- a numeral is what is written of its number
pub numeral_is : (most n : ℕ) (text : List ℕ) → numeral most text ≡ Some n → (n < 10 ^ most) × (text ≡ decimal n)
numeral_is most n text h = by_digits most n text (digits most text) refl h

-- what is written of a number is its numeral
pub numeral_again : (most n : ℕ) → 0 < most → most ≤ 18 → n < 10 ^ most → numeral most (decimal n) ≡ Some n
numeral_again most n some few h =
    ap (λ o. as_written o (decimal n)) (digits_decimal most n some few h) ∙ ap (λ b. cond b (Some n) None) (same_text (decimal n))

step_by : (a b : ℕ) (text : List ℕ) (n : ℕ) → step_of (a ∷ b ∷ text) ≡ Some n → SpellsStep (a ∷ b ∷ text) n
step_by a b text n h =
    let both = step_tests (a == 35 && b == 32) h in
    let signs = and_parts (a == 35) (b == 32) both.0 in
    let number = numeral_is 18 n text both.1 in
    record {
      below = number.0;
      text = ap (λ x. x ∷ b ∷ text) (same_code a 35 signs.0) ∙ ap (λ x. 35 ∷ x ∷ text) (same_code b 32 signs.1) ∙ ap (λ t. 35 ∷ 32 ∷ t) number.1;
    }
  where
    same_code : (x y : ℕ) → (x == y) ≡ true → x ≡ y
    same_code x y e = grind (arith, nat_tests)

    step_tests : (t : Bool) → cond t (numeral 18 text) None ≡ Some n → (t ≡ true) × (numeral 18 text ≡ Some n)
    step_tests true e = (refl, e)
    step_tests false e = absurd (cc)

pub step_spelled : (line : List ℕ) (n : ℕ) → step_of line ≡ Some n → SpellsStep line n
step_spelled [] n h = absurd (cc)
step_spelled (a ∷ []) n h = absurd (cc)
step_spelled (a ∷ b ∷ text) n h = step_by a b text n h

pub step_again : (n : ℕ) → n < 10 ^ 18 → step_of (step_number_line n) ≡ Some n
step_again n h = numeral_again 18 n (omega arith) (omega arith) h

pub step_exact : (line : List ℕ) (n : ℕ) → (step_of line ≡ Some n) ↔ SpellsStep line n
step_exact line n = (step_spelled line n, λ s. ap step_of s.text ∙ step_again n s.below)

pub step_length : (n : ℕ) → n < 10 ^ 18 → length (step_number_line n) ≤ 20
step_length n h = omega (arith, length-decimal-le 18 n (lit< tt) h (omega arith))

pub number_below : (k : ℕ) → step_number k < 10 ^ 18
number_below k = omega arith

pub number_next : (number k : ℕ) → number ≡ step_number k → (number + 1) % 10 ^ 18 ≡ step_number (suc k)
number_next number k h = omega arith
