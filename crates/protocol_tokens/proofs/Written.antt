-- The text written of a number is read again.
use Rattle.std.proofs.Common.{◌≡◌, ℕ, suc, ◌+◌, ◌*◌, ◌/◌, ◌%◌, ◌^◌, ◌<◌, ◌≤◌, List, [], ◌∷◌, ◌++◌, Bool, true, false, not, ◌&&◌, eqb, cond, ltb, leb, length, drop, Some, refl, ◌∙◌, ap, arith, lit<}
use Rattle.std.proofs.Math.Seq.{take-append_seam, drop-append-add}
use Rattle.std.proofs.lemmas.List.{length-append}
use Rattle.std.proofs.Math.Nat.{pow-le-pow_right}
use Rattle.std.proofs.lemmas.Fmt.{decimal_is_IsNumeral, length-decimal-le}
use Rattle.std.proofs.lemmas.Bool.Decides.{nat_tests}
use Rattle.std.specs.List.{list_all, prefix_len}
use Rattle.std.specs.Int.RustNames.{unsigned_abs}
use lib.IntN.{ℤ, pos, negsuc}
use Rattle.std.specs.Fmt.{decimal, signed_decimal}
use Rattle.std.specs.Char.{is_ascii_digit, digit_value}
use Rattle.std.specs.Str.Parse.{digits_value, AllDigits, starts_with_minus}
use Rattle.std.proofs.lemmas.Bool.{and_parts}
use Rattle.protocol_tokens.specs.Numbers.{digits, number, count, signed_number, centis, is_point, thousandths, seconds, three_digits, seconds_text}
use Rattle.protocol_tokens.specs.Tokens.{is_white, is_token}
use Rattle.protocol_tokens.proofs.Runs.{all_of, prefix_whole, prefix_stops}

digit_of : (c : ℕ) → digit_value c < 10 → is_ascii_digit c ≡ true
digit_of c h = grind (arith, nat_tests)

all_digits : (cs : List ℕ) → AllDigits 10 cs → list_all is_ascii_digit cs ≡ true
all_digits [] h = refl
all_digits (c ∷ cs) h = rw (digit_of c h.0, all_digits cs h.1) refl

tested : (ds : List ℕ) (most : ℕ) → 0 < length ds → length ds ≤ most → (ltb 0 (length ds) && leb (length ds) most) ≡ true
tested ds most a b = grind (arith, nat_tests)

pub digits_read : (most : ℕ) (ds : List ℕ) → 0 < length ds → length ds ≤ most → list_all is_ascii_digit ds ≡ true → digits most ds ≡ Some (digits_value 10 ds)
digits_read most ds a b h = grind (arith, nat_tests)

small_power : (most : ℕ) → most ≤ 18 → 10 ^ most ≤ 2 ^ 63
small_power most h = let p : 10 ^ most ≤ 10 ^ 18 = pow-le-pow_right (lit< tt) h in omega arith

pub digits_decimal : (most n : ℕ) → 0 < most → most ≤ 18 → n < 10 ^ most → digits most (decimal n) ≡ Some n
digits_decimal most n low high h =
    let small : n < 2 ^ 64 = omega (arith, small_power most high) in
    let is = decimal_is_IsNumeral n small in
    digits_read most (decimal n) is.0.0 (length-decimal-le most n low h small) (all_digits (decimal n) is.0.1) ∙ ap Some is.1

pub number_decimal : (n : ℕ) → n < 10 ^ 9 → number (decimal n) ≡ Some n
number_decimal n h = digits_decimal 9 n (omega arith) (omega arith) h

pub count_decimal : (n : ℕ) → n < 10 ^ 18 → count (decimal n) ≡ Some n
count_decimal n h = digits_decimal 18 n (omega arith) (omega arith) h

first_is_digit : (c : ℕ) → is_ascii_digit c ≡ true → eqb c 45 ≡ false
first_is_digit c h = grind (arith, nat_tests)

-- digits begin with no sign
pub no_sign : (ds : List ℕ) → 0 < length ds → list_all is_ascii_digit ds ≡ true → starts_with_minus ds ≡ false
no_sign [] h d = absurd (omega arith)
no_sign (c ∷ cs) h d = let both = and_parts (is_ascii_digit c) (list_all is_ascii_digit cs) d in first_is_digit c both.0

pub decimal_digits : (n : ℕ) → n < 2 ^ 64 → list_all is_ascii_digit (decimal n) ≡ true
decimal_digits n h = all_digits (decimal n) (decimal_is_IsNumeral n h).0.1

signed_positive : (n : ℕ) → n < 2 ^ 64 → starts_with_minus (decimal n) ≡ false
signed_positive n h = no_sign (decimal n) (decimal_is_IsNumeral n h).0.0 (decimal_digits n h)

pub signed_decimal_read : (z : ℤ) → unsigned_abs z < 10 ^ 18 → signed_number (signed_decimal z) ≡ Some z
signed_decimal_read (pos n) h = rw (signed_positive n (omega arith), count_decimal n h) refl
signed_decimal_read (negsuc n) h = rw (count_decimal (suc n) h) refl

pub centis_decimal_read : (z : ℤ) → unsigned_abs z < 10 ^ 9 → centis (signed_decimal z) ≡ Some z
centis_decimal_read (pos n) h = rw (signed_positive n (omega arith), number_decimal n h) refl
centis_decimal_read (negsuc n) h = rw (number_decimal (suc n) h) refl

not_point : (c : ℕ) → is_ascii_digit c ≡ true → not (is_point c) ≡ true
not_point c h = grind (arith, nat_tests)

no_point : (ds : List ℕ) → list_all is_ascii_digit ds ≡ true → prefix_len (λ b. not (is_point b)) ds ≡ length ds
no_point ds h = prefix_whole (λ b. not (is_point b)) ds (all_of is_ascii_digit (λ b. not (is_point b)) not_point ds h)

whole_seconds : (ds : List ℕ) (n : ℕ) → list_all is_ascii_digit ds ≡ true → digits 6 ds ≡ Some n → seconds ds ≡ Some (n * 1000)
whole_seconds ds n h e =
    let k = no_point ds h in
    let t : ltb (length ds) (length ds) ≡ false = grind (arith, nat_tests) in
    rw (k, t, e) (ap Some (omega arith))

-- a digit and its value
pub one_digit : (d : ℕ) → d < 10 → (is_ascii_digit (48 + d) ≡ true) × (digit_value (48 + d) ≡ d)
one_digit d h =
    let a : ltb (48 + d) 48 ≡ false = grind (arith, nat_tests) in
    let b : ltb (48 + d) 58 ≡ true = grind (arith, nat_tests) in
    (grind (arith, nat_tests), (rw (a, b) (omega arith)))

three_read : (a b c : ℕ) → a < 10 → b < 10 → c < 10 → thousandths ((48 + a) ∷ (48 + b) ∷ (48 + c) ∷ []) ≡ Some (a * 100 + b * 10 + c)
three_read a b c ha hb hc =
    let x = one_digit a ha in
    let y = one_digit b hb in
    let z = one_digit c hc in
    rw (x.0, y.0, z.0, x.1, y.1, z.1) (ap Some (omega arith))

pub three_digits_read : (n : ℕ) → n < 1000 → thousandths (three_digits n) ≡ Some n
three_digits_read n h = three_read (n / 100) (n / 10 % 10) (n % 10) (omega arith) (omega arith) (omega arith) ∙ ap Some (omega arith)

parts_of_seconds : (ds more : List ℕ) (n m : ℕ) → list_all is_ascii_digit ds ≡ true → digits 6 ds ≡ Some n → thousandths more ≡ Some m → seconds (ds ++ (46 ∷ more)) ≡ Some (n * 1000 + m)
parts_of_seconds ds more n m h e f =
    let k : prefix_len (λ b. not (is_point b)) (ds ++ (46 ∷ more)) ≡ length ds = prefix_stops (λ b. not (is_point b)) ds 46 more (all_of is_ascii_digit (λ b. not (is_point b)) not_point ds h) refl in
    let within : length ds < length (ds ++ (46 ∷ more)) = omega (arith, length-append ds (46 ∷ more)) in
    let t : ltb (length ds) (length (ds ++ (46 ∷ more))) ≡ true = grind (arith, nat_tests) in
    let after : drop (length ds + 1) (ds ++ (46 ∷ more)) ≡ more = drop-append-add ds (46 ∷ more) 1 in
    rw (k, t) (rw (take-append_seam ds (46 ∷ more), after, e, f) refl)

seconds_step : (ms : ℕ) (b : Bool) → eqb (ms % 1000) 0 ≡ b → ms < 10 ^ 9 → seconds (cond b (decimal (ms / 1000)) (decimal (ms / 1000) ++ (46 ∷ three_digits (ms % 1000)))) ≡ Some ms
seconds_step ms true e h =
    let z : ms % 1000 ≡ 0 = grind (arith, nat_tests) in
    let low : ms / 1000 < 10 ^ 6 = omega arith in
    whole_seconds (decimal (ms / 1000)) (ms / 1000) (decimal_digits (ms / 1000) (omega arith)) (digits_decimal 6 (ms / 1000) (omega arith) (omega arith) low) ∙ ap Some (omega arith)
seconds_step ms false e h =
    let low : ms / 1000 < 10 ^ 6 = omega arith in
    parts_of_seconds (decimal (ms / 1000)) (three_digits (ms % 1000)) (ms / 1000) (ms % 1000) (decimal_digits (ms / 1000) (omega arith)) (digits_decimal 6 (ms / 1000) (omega arith) (omega arith) low) (three_digits_read (ms % 1000) (omega arith)) ∙ ap Some (omega arith)

pub seconds_read : (ms : ℕ) → ms < 10 ^ 9 → seconds (seconds_text ms) ≡ Some ms
seconds_read ms h = seconds_step ms (eqb (ms % 1000) 0) refl h

pub not_white : (c : ℕ) → is_ascii_digit c ≡ true → not (is_white c) ≡ true
not_white c h = grind (arith, nat_tests)

-- digits are a token, also after a minus
pub digits_token : (ds : List ℕ) → 0 < length ds → list_all is_ascii_digit ds ≡ true → is_token ds ≡ true
digits_token ds l h =
    let t : ltb 0 (length ds) ≡ true = grind (arith, nat_tests) in
    rw (t, all_of is_ascii_digit (λ b. not (is_white b)) not_white ds h) refl

pub decimal_token : (n : ℕ) → n < 2 ^ 64 → is_token (decimal n) ≡ true
decimal_token n h = digits_token (decimal n) (decimal_is_IsNumeral n h).0.0 (decimal_digits n h)

pub minus_token : (ds : List ℕ) → list_all is_ascii_digit ds ≡ true → is_token (45 ∷ ds) ≡ true
minus_token ds h =
    let t : ltb 0 (suc (length ds)) ≡ true = grind (arith, nat_tests) in
    rw (t, all_of is_ascii_digit (λ b. not (is_white b)) not_white ds h) refl

pub signed_token : (z : ℤ) → unsigned_abs z < 2 ^ 63 → is_token (signed_decimal z) ≡ true
signed_token (pos n) h = decimal_token n (omega arith)
signed_token (negsuc n) h = minus_token (decimal (suc n)) (decimal_digits (suc n) (omega arith))
