-- Numbers in lines.
use Rattle.std.specs.Prelude.{ℕ, ◌*◌, nat_lt, ◌==◌, if◌then◌else◌, List, []}
use Rattle.std.specs.Prelude.{◌∷◌, ◌^◌, Option, Some, None, ℤ, pos, neg_ℤ}
use Rattle.std.specs.Option.{option_map}
use Rattle.std.specs.Int.{int_min, int_max}
use lib.IntN.{negsuc}
use Rattle.protocol_tokens.specs.Numbers.{count, positive, signed_number}
use Rattle.protocol_tokens.specs.Bytes.{plus}
use Rattle.driver_state_machine.specs.declared.numbers.TheConstants.{MOST_SCORE, MOST_TIME}

-- perhaps one plus before a count, or else perhaps a minus: one sign at most
abbrev pub plus_signed : List ℕ → Option ℤ
plus_signed [] = None
plus_signed (b ∷ bs) = if b == plus then positive (count bs) else signed_number (b ∷ bs)

-- the number of the first token, and the other tokens
abbrev pub next_number : List (List ℕ) → Option (ℤ × List (List ℕ))
next_number [] = None
next_number (t ∷ ts) = option_map (λ n. (n, ts)) (plus_signed t)

-- a negative number counts as 0
abbrev pub natural : ℤ → ℕ
natural (pos n) = n
natural (negsuc n) = 0

-- a score within nine digits
abbrev pub clamped_score : ℤ → ℤ
clamped_score score = int_max (int_min score MOST_SCORE) (neg_ℤ MOST_SCORE)

-- hundredths of a second as milliseconds, within 18 digits
abbrev pub ten_times : ℕ → ℕ
ten_times n = if nat_lt n (10 ^ 17) then n * 10 else MOST_TIME
