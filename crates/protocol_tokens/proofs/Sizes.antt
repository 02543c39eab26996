-- The sizes of the numbers that texts spell.
use Rattle.std.proofs.Common.{◌≡◌, ℕ, zero, suc, ◌+◌, ◌-◌, ◌*◌, ◌^◌, ◌<◌, ◌≤◌, List, [], ◌∷◌, Bool, true, false, ◌&&◌, cond, ltb, leb, length, take, drop, position, Option, Some, None, refl, sym, subst, arith, lit<}
use Rattle.std.proofs.Math.Nat.{pow-le-pow_right}
use Rattle.std.proofs.lemmas.Nat.{mul-le}
use Rattle.std.proofs.lemmas.Bool.Decides.{nat_tests}
use Rattle.std.proofs.lemmas.Int.Digits.{digits_value-lt}
use Rattle.std.specs.Prelude.{ℤ, pos, neg_ℤ, nat_abs}
use Rattle.std.specs.List.{list_all}
use Rattle.std.specs.Option.{option_map}
use Rattle.std.specs.Char.{is_ascii_digit, digit_value}
use Rattle.std.specs.Str.Parse.{digits_value, AllDigits, starts_with_minus}
use Rattle.std.proofs.lemmas.Bool.{and_parts}
use Rattle.protocol_tokens.specs.Numbers.{is_digits, digits, number, centis, positive, negative, is_point, thousandths, milliseconds, seconds, seconds_at}
use Rattle.protocol_tokens.proofs.Digits.{digit}

digit_small : (c : ℕ) → is_ascii_digit c ≡ true → digit_value c < 10
digit_small c h = let d = digit c h in omega arith

pub all_digits : (cs : List ℕ) → list_all is_ascii_digit cs ≡ true → AllDigits 10 cs
all_digits [] h = tt
all_digits (c ∷ cs) h = let both = and_parts (is_ascii_digit c) (list_all is_ascii_digit cs) h in (digit_small c both.0, all_digits cs both.1)

value_small : (most : ℕ) (t : List ℕ) → is_digits most t ≡ true → digits_value 10 t < 10 ^ most
value_small most t h =
    let prefix = and_parts (ltb 0 (length t) && leb (length t) most) (list_all is_ascii_digit t) h in
    let within : length t ≤ most = grind (arith, nat_tests, and_parts (ltb 0 (length t)) (leb (length t) most) prefix.0) in
    let small : digits_value 10 t < 10 ^ length t = digits_value-lt 10 t (all_digits t prefix.1) in
    let wide : 10 ^ length t ≤ 10 ^ most = pow-le-pow_right (lit< tt) within in
    omega arith

digits_step : (b : Bool) (most v n : ℕ) → (b ≡ true → v < 10 ^ most) → cond b (Some v) None ≡ Some n → n < 10 ^ most
digits_step true most v n f e = let s = f refl in let k : v ≡ n = cc in subst (λ x. x < 10 ^ most) k s
digits_step false most v n f e = absurd (cc)

-- so many digits write no larger number
pub digits_small : (most : ℕ) (t : List ℕ) (n : ℕ) → digits most t ≡ Some n → n < 10 ^ most
digits_small most t n e = digits_step (is_digits most t) most (digits_value 10 t) n (value_small most t) e

whole_and_part : (a b : Option ℕ) (ms : ℕ) → ((n : ℕ) → a ≡ Some n → n < 10 ^ 6) → ((n : ℕ) → b ≡ Some n → n < 10 ^ 6) → milliseconds a b ≡ Some ms → ms < 10 ^ 10
whole_and_part None b ms f g e = absurd (cc)
whole_and_part (Some w) None ms f g e = absurd (cc)
whole_and_part (Some w) (Some p) ms f g e = let x = f w refl in let y = g p refl in let k : w * 1000 + p ≡ ms = cc in omega arith

part_small : (d : Option ℕ) (l p : ℕ) → ((n : ℕ) → d ≡ Some n → n < 10 ^ 3) → option_map (λ n. n * 10 ^ (3 - l)) d ≡ Some p → p < 10 ^ 6
part_small None l p f e = absurd (cc)
part_small (Some n) l p f e =
    let x : n < 10 ^ 3 = f n refl in
    let places : 3 - l ≤ 3 = omega arith in
    let y : 10 ^ (3 - l) ≤ 10 ^ 3 = pow-le-pow_right (lit< tt) places in
    let low : n ≤ 999 = omega arith in
    let product : n * 10 ^ (3 - l) ≤ 999 * 10 ^ 3 = mul-le n (10 ^ (3 - l)) 999 (10 ^ 3) low y in
    let k : n * 10 ^ (3 - l) ≡ p = cc in
    subst (λ x. x < 10 ^ 6) k (omega arith)

zero_small : (n : ℕ) → Some 0 ≡ Some n → n < 10 ^ 6
zero_small n e = let k : 0 ≡ n = cc in subst (λ x. x < 10 ^ 6) k (lit< tt)

seconds_at_small : (at : Option ℕ) (t : List ℕ) (ms : ℕ) → seconds_at at t ≡ Some ms → ms < 10 ^ 10
seconds_at_small None t ms e = whole_and_part (digits 6 t) (Some 0) ms (digits_small 6 t) zero_small e
seconds_at_small (Some at) t ms e =
    let part = drop (at + 1) t in
    whole_and_part (digits 6 (take at t)) (thousandths part) ms (digits_small 6 (take at t))
    (λ n. part_small (digits 3 part) (length part) n (digits_small 3 part)) e

pub seconds_small : (t : List ℕ) (ms : ℕ) → seconds t ≡ Some ms → ms < 10 ^ 10
seconds_small t ms e = seconds_at_small (position is_point t) t ms e

pos_small : (d : Option ℕ) (z : ℤ) → ((n : ℕ) → d ≡ Some n → n < 10 ^ 9) → positive d ≡ Some z → nat_abs z < 10 ^ 9
pos_small None z f e = absurd (cc)
pos_small (Some n) z f e = let k : pos n ≡ z = cc in subst (λ x. nat_abs x < 10 ^ 9) k (f n refl)

size_of_negative : (n : ℕ) → nat_abs (neg_ℤ (pos n)) ≡ n
size_of_negative zero = refl
size_of_negative (suc n) = refl

neg_small : (d : Option ℕ) (z : ℤ) → ((n : ℕ) → d ≡ Some n → n < 10 ^ 9) → negative d ≡ Some z → nat_abs z < 10 ^ 9
neg_small None z f e = absurd (cc)
neg_small (Some n) z f e = let k : neg_ℤ (pos n) ≡ z = cc in subst (λ x. nat_abs x < 10 ^ 9) k (subst (λ x. x < 10 ^ 9) (sym (size_of_negative n)) (f n refl))

centis_step : (b : Bool) (t : List ℕ) (z : ℤ) → cond b (negative (number (drop 1 t))) (positive (number t)) ≡ Some z → nat_abs z < 10 ^ 9
centis_step true t z e = neg_small (number (drop 1 t)) z (digits_small 9 (drop 1 t)) e
centis_step false t z e = pos_small (number t) z (digits_small 9 t) e

pub centis_small : (t : List ℕ) (z : ℤ) → centis t ≡ Some z → nat_abs z < 10 ^ 9
centis_small t z e = centis_step (starts_with_minus t) t z e
