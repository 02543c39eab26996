-- Numbers as texts. Leading zeros are accepted.
use Rattle.std.specs.Prelude.{◌/◌, ◌%◌, ◌++◌, decimal, [], ◌∷◌, ℕ, ◌+◌, ◌-◌, ◌*◌, ◌^◌, List}
use Rattle.std.specs.Prelude.{length, take, drop, position, Bool, ◌&&◌, if◌then◌else◌, ◌==◌}
use Rattle.std.specs.Prelude.{nat_le, nat_lt, Option, Some, None, ℤ, pos, neg_ℤ}
use Rattle.std.specs.List.{list_all}
use Rattle.std.specs.Option.{option_map}
use Rattle.std.specs.Char.{is_ascii_digit}
use Rattle.std.specs.Str.Parse.{digits_value, starts_with_minus}
use Rattle.protocol_tokens.specs.Bytes.{digit_zero, point}
use Rattle.protocol_tokens.specs.declared.numbers.TheConstants.{SECOND}

-- one decimal digit or more, and no more than so many
abbrev pub is_digits : ℕ → List ℕ → Bool
is_digits most text =
    nat_lt 0 (length text) && nat_le (length text) most && list_all is_ascii_digit text

-- the number that so many decimal digits at most write
abbrev pub digits : ℕ → List ℕ → Option ℕ
digits most text = if is_digits most text then Some (digits_value 10 text) else None

-- 1 to 9 digits
abbrev pub number : List ℕ → Option ℕ
number text = digits 9 text

-- 1 to 18 digits
abbrev pub count : List ℕ → Option ℕ
count text = digits 18 text

-- a number with its sign
abbrev pub positive : Option ℕ → Option ℤ
positive n = option_map (λ k. pos k) n

abbrev pub negative : Option ℕ → Option ℤ
negative n = option_map (λ k. neg_ℤ (pos k)) n

-- perhaps a minus, then a count
abbrev pub signed_number : List ℕ → Option ℤ
signed_number text =
    if starts_with_minus text then negative (count (drop 1 text)) else positive (count text)

-- perhaps a minus, then a number
abbrev pub centis : List ℕ → Option ℤ
centis text =
    if starts_with_minus text then negative (number (drop 1 text)) else positive (number text)

abbrev pub is_point : ℕ → Bool
is_point b = b == point

-- 1 to 3 digits after the point, in thousandths
abbrev pub thousandths : List ℕ → Option ℕ
thousandths text = option_map (λ n. n * 10 ^ (3 - length text)) (digits 3 text)

-- whole seconds and thousandths, in milliseconds
abbrev pub milliseconds : Option ℕ → Option ℕ → Option ℕ
milliseconds (Some whole) (Some part) = Some (whole * SECOND + part)
milliseconds (Some whole) None = None
milliseconds None part = None

-- the same with the place of the point, if there is one
abbrev pub seconds_at : Option ℕ → List ℕ → Option ℕ
seconds_at None text = milliseconds (digits 6 text) (Some 0)
seconds_at (Some at) text =
    milliseconds (digits 6 (take at text)) (thousandths (drop (at + 1) text))

-- 1 to 6 digits, and perhaps a point and 1 to 3 digits more: seconds, as a number of milliseconds
abbrev pub seconds : List ℕ → Option ℕ
seconds text = seconds_at (position is_point text) text

-- a number below 1000 with three digits
abbrev pub three_digits : ℕ → List ℕ
three_digits n = (digit_zero + n / 100) ∷ (digit_zero + n / 10 % 10) ∷ (digit_zero + n % 10) ∷ []

-- milliseconds written as seconds: whole ones, and three decimals if they are needed
abbrev pub seconds_text : ℕ → List ℕ
seconds_text ms =
    if ms % SECOND == 0 then decimal (ms / SECOND)
    else decimal (ms / SECOND) ++ (point ∷ three_digits (ms % SECOND))
