-- The bound of the base of a time control.
use Rattle.std.proofs.Common.{◌≡◌, ℕ, ◌+◌, ◌*◌, ◌^◌, ◌<◌, List, Bool, true, false, cond, leb, take, drop, position, Option, Some, None, refl, arith}
use Rattle.std.specs.Option.{option_map}
use Rattle.protocol_tokens.specs.Numbers.{digits}
use Rattle.protocol_tokens.proofs.Sizes.{digits_small}
use Rattle.cecp_lines.specs.Reading.{base_time, base_at, minutes_seconds, is_colon}

whole_minutes : (d : Option ℕ) (ms : ℕ) → ((n : ℕ) → d ≡ Some n → n < 10 ^ 4) → option_map (λ m. m * 60000) d ≡ Some ms → ms < 10 ^ 10
whole_minutes None ms f e = absurd (cc)
whole_minutes (Some m) ms f e = let x = f m refl in let k : m * 60000 ≡ ms = cc in omega arith

within_minute : (b : Bool) (m s ms : ℕ) → m < 10 ^ 4 → s < 10 ^ 2 → cond b (Some (m * 60000 + s * 1000)) None ≡ Some ms → ms < 10 ^ 10
within_minute true m s ms x y e = let k : m * 60000 + s * 1000 ≡ ms = cc in omega arith
within_minute false m s ms x y e = absurd (cc)

minutes_small : (a b : Option ℕ) (ms : ℕ) → ((n : ℕ) → a ≡ Some n → n < 10 ^ 4) → ((n : ℕ) → b ≡ Some n → n < 10 ^ 2) → minutes_seconds a b ≡ Some ms → ms < 10 ^ 10
minutes_small None b ms f g e = absurd (cc)
minutes_small (Some m) None ms f g e = absurd (cc)
minutes_small (Some m) (Some s) ms f g e = within_minute (leb s 59) m s ms (f m refl) (g s refl) e

base_at_small : (at : Option ℕ) (t : List ℕ) (ms : ℕ) → base_at at t ≡ Some ms → ms < 10 ^ 10
base_at_small None t ms e = whole_minutes (digits 4 t) ms (digits_small 4 t) e
base_at_small (Some at) t ms e = minutes_small (digits 4 (take at t)) (digits 2 (drop (at + 1) t)) ms (digits_small 4 (take at t)) (digits_small 2 (drop (at + 1) t)) e

pub base_small : (t : List ℕ) (ms : ℕ) → base_time t ≡ Some ms → ms < 10 ^ 10
base_small t ms e = base_at_small (position is_colon t) t ms e
