-- The canonical spelling of a message spells it: the words and the arguments.
use Rattle.std.proofs.Common.{◌≡◌, ℕ, ℤ, zero, suc, ◌+◌, ◌-◌, ◌*◌, ◌/◌, ◌%◌, ◌^◌, ◌<◌, ◌≤◌, List, [], ◌∷◌, ◌++◌, Bool, true, false, not, eqb, ltb, cond, length, take, drop, Option, Some, None, refl, ap, ◌∙◌, subst, arith}
use Rattle.std.specs.Prelude.{position}
use Rattle.std.specs.List.{list_all}
use Rattle.std.specs.Int.RustNames.{unsigned_abs}
use Rattle.std.specs.Fmt.{decimal, signed_decimal}
use Rattle.std.specs.Char.{is_ascii_digit}
use Rattle.std.specs.Str.Parse.{digits_value, starts_with_minus}
use Rattle.std.proofs.lemmas.Bool.Decides.{nat_tests}
use Rattle.std.proofs.lemmas.Option.{cond_some}
use Rattle.std.proofs.lemmas.Int.Digits.{digits_value-lt}
use Rattle.std.proofs.lemmas.List.Folds.{list_all-append}
use Rattle.std.proofs.lemmas.Bool.{and_parts}
use lib.IntN.{pos, neg_ℤ}
use Rattle.protocol_tokens.specs.Tokens.{is_white, is_token}
use Rattle.protocol_tokens.specs.Numbers.{digits, number, centis, positive, negative, milliseconds, thousandths, seconds_at, seconds, is_point, seconds_text, three_digits, is_digits}
use Rattle.protocol_tokens.proofs.TokenLists.{tokens_more, tokens_alone}
use Rattle.protocol_tokens.proofs.Written.{decimal_token, signed_token, number_decimal, centis_decimal_read, seconds_read}
use Rattle.protocol_tokens.proofs.Sizes.{all_digits, digits_small}
use Rattle.cecp_lines.specs.Reading.{HasArgument}
use Rattle.cecp_engine_lines.proofs.Hears.{map_some}

-- a word, a blank and a token that reads as a value
pub one_word : {A : Type 0} (read : List ℕ → Option A) (word t : List ℕ) (x : A) → is_token word ≡ true → is_token t ≡ true → read t ≡ Some x → HasArgument (word ++ (32 ∷ t)) word read x
one_word read word t x a b e = (t, tokens_more word t 32 a refl ∙ ap (λ ts. word ∷ ts) (tokens_alone t b), e)

-- HOW LARGE WHAT IS READ CAN BE

digits_tests : (most : ℕ) (t : List ℕ) → is_digits most t ≡ true → (0 < length t) × (length t ≤ most) × (list_all is_ascii_digit t ≡ true)
digits_tests most t h = (grind (arith, nat_tests), grind (arith, nat_tests), grind (arith, nat_tests))

pub number_below : (t : List ℕ) (n : ℕ) → number t ≡ Some n → n < 10 ^ 9
number_below t n h = digits_small 9 t n h

negated_below : (n : ℕ) → n < 10 ^ 9 → unsigned_abs (neg_ℤ (pos n)) < 10 ^ 9
negated_below zero h = omega arith
negated_below (suc n) h = h

centis_by : (t : List ℕ) (b : Bool) (z : ℤ) → cond b (negative (number (drop 1 t))) (positive (number t)) ≡ Some z → unsigned_abs z < 10 ^ 9
centis_by t true z h =
    let m = map_some (λ k. neg_ℤ (pos k)) (number (drop 1 t)) z h in
    subst (λ (y : ℤ). unsigned_abs y < 10 ^ 9) m.2 (negated_below m.0 (number_below (drop 1 t) m.0 m.1))
centis_by t false z h =
    let m = map_some (λ k. pos k) (number t) z h in
    subst (λ (y : ℤ). unsigned_abs y < 10 ^ 9) m.2 (number_below t m.0 m.1)

pub centis_below : (t : List ℕ) (z : ℤ) → centis t ≡ Some z → unsigned_abs z < 10 ^ 9
centis_below t z h = centis_by t (starts_with_minus t) z h

milliseconds_below : (a b : Option ℕ) (ms : ℕ) → ((s : ℕ) → a ≡ Some s → s < 10 ^ 6) → ((p : ℕ) → b ≡ Some p → p < 1000) → milliseconds a b ≡ Some ms → ms < 10 ^ 9
milliseconds_below (Some s) (Some p) ms k l h =
    let x = k s refl in
    let y = l p refl in
    let same : s * 1000 + p ≡ ms = cc in
    omega arith
milliseconds_below (Some s) None ms k l h = absurd (cc)
milliseconds_below None b ms k l h = absurd (cc)

scaled_by : (d n : ℕ) (text : List ℕ) → d ≡ length text → 0 < d → d ≤ 3 → n < 10 ^ d → n * 10 ^ (3 - d) < 1000
scaled_by zero n text e a b h = absurd (omega arith)
scaled_by (suc zero) n text e a b h = omega arith
scaled_by (suc (suc zero)) n text e a b h = omega arith
scaled_by (suc (suc (suc zero))) n text e a b h = omega arith
scaled_by (suc (suc (suc (suc d)))) n text e a b h = absurd (omega arith)

thousandths_below : (text : List ℕ) (p : ℕ) → thousandths text ≡ Some p → p < 1000
thousandths_below text p h =
    let m = map_some (λ n. n * 10 ^ (3 - length text)) (digits 3 text) p h in
    let c = cond_some (is_digits 3 text) (digits_value 10 text) m.0 m.1 in
    let tests = digits_tests 3 text c.0 in
    let lt : digits_value 10 text < 10 ^ length text = digits_value-lt 10 text (all_digits text tests.2) in
    let low : m.0 < 10 ^ length text = subst (λ (n : ℕ). n < 10 ^ length text) c.1 lt in
    subst (λ (n : ℕ). n < 1000) m.2 (scaled_by (length text) m.0 text refl tests.0 tests.1 low)

nothing_below : (p : ℕ) → ◌≡◌ {A = Option ℕ} (Some 0) (Some p) → p < 1000
nothing_below p h = let e : 0 ≡ p = cc in omega arith

seconds_by : (t : List ℕ) (o : Option ℕ) (ms : ℕ) → seconds_at o t ≡ Some ms → ms < 10 ^ 9
seconds_by t None ms h = milliseconds_below (digits 6 t) (Some 0) ms (digits_small 6 t) nothing_below h
seconds_by t (Some at) ms h = milliseconds_below (digits 6 (take at t)) (thousandths (drop (at + 1) t)) ms (digits_small 6 (take at t)) (thousandths_below (drop (at + 1) t)) h

pub seconds_below : (t : List ℕ) (ms : ℕ) → seconds t ≡ Some ms → ms < 10 ^ 9
seconds_below t ms h = seconds_by t (position is_point t) ms h

-- TOKENS

pub black_over : (c : ℕ) → 33 ≤ c → not (is_white c) ≡ true
black_over c h = grind (arith, nat_tests)

-- a token followed by black bytes
pub longer_token : (t more : List ℕ) → is_token t ≡ true → list_all (λ b. not (is_white b)) more ≡ true → is_token (t ++ more) ≡ true
longer_token [] more h k = absurd (cc)
longer_token (x ∷ t) more h k =
    let both = and_parts (ltb 0 (length (x ∷ t))) (list_all (λ b. not (is_white b)) (x ∷ t)) h in
    let some : ltb 0 (suc (length (t ++ more))) ≡ true = grind (arith, nat_tests) in
    let black : list_all (λ b. not (is_white b)) ((x ∷ t) ++ more) ≡ true = list_all-append (λ b. not (is_white b)) (x ∷ t) more ∙ rw (both.1, k) refl in
    rw (some, black) refl

three_black : (n : ℕ) → list_all (λ b. not (is_white b)) (46 ∷ three_digits n) ≡ true
three_black n =
    let a = black_over (48 + n / 100) (omega arith) in
    let b = black_over (48 + n / 10 % 10) (omega arith) in
    let c = black_over (48 + n % 10) (omega arith) in
    rw (a, b, c) refl

seconds_token_by : (ms : ℕ) (b : Bool) → ms < 10 ^ 9 → is_token (cond b (decimal (ms / 1000)) (decimal (ms / 1000) ++ (46 ∷ three_digits (ms % 1000)))) ≡ true
seconds_token_by ms true h = decimal_token (ms / 1000) (omega arith)
seconds_token_by ms false h = longer_token (decimal (ms / 1000)) (46 ∷ three_digits (ms % 1000)) (decimal_token (ms / 1000) (omega arith)) (three_black (ms % 1000))

pub seconds_token : (ms : ℕ) → ms < 10 ^ 9 → is_token (seconds_text ms) ≡ true
seconds_token ms h = seconds_token_by ms (eqb (ms % 1000) 0) h

-- A WORD AND ITS VALUE

pub number_again : (word line : List ℕ) (n : ℕ) → is_token word ≡ true → HasArgument line word number n → HasArgument (word ++ (32 ∷ decimal n)) word number n
number_again word line n w h = let low = number_below h.0 n h.2 in one_word number word (decimal n) n w (decimal_token n (omega arith)) (number_decimal n low)

pub centis_again : (word line : List ℕ) (z : ℤ) → is_token word ≡ true → HasArgument line word centis z → HasArgument (word ++ (32 ∷ signed_decimal z)) word centis z
centis_again word line z w h = let low = centis_below h.0 z h.2 in one_word centis word (signed_decimal z) z w (signed_token z (omega arith)) (centis_decimal_read z low)

pub seconds_again : (word line : List ℕ) (ms : ℕ) → is_token word ≡ true → HasArgument line word seconds ms → HasArgument (word ++ (32 ∷ seconds_text ms)) word seconds ms
seconds_again word line ms w h = let low = seconds_below h.0 ms h.2 in one_word seconds word (seconds_text ms) ms w (seconds_token ms low) (seconds_read ms low)
