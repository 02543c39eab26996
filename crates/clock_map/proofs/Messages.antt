-- The numbers of the clocks have at most ten digits.
use Rattle.std.proofs.Common.{◌≡◌, ℕ, zero, suc, ◌*◌, ◌^◌, ◌<◌, ◌≤◌, Bool, true, false, cond, eqb, Some, None, refl, subst, arith, lit<, lit≤}
use Rattle.std.proofs.Math.Nat.{max-le}
use Rattle.std.proofs.lemmas.Bool.Decides.{nat_tests}
use Rattle.std.specs.Prelude.{ℤ, pos, negsuc, neg_ℤ, nat_abs, max, FitsSigned}
use Rattle.std.proofs.Common.{w64, to_z, of_z}
use Rattle.std.proofs.lemmas.Int.{to_z-of_z}
use Rattle.cecp_lines.specs.declared.iface.IfaceMsg.{IfaceMsg as CodeIfaceMsg}
use Rattle.cecp_lines.specs.declared.iface.IfaceMsg.TheVariants as cecp
use Rattle.cecp_lines.specs.Messages as says
use Rattle.cecp_lines.specs.Messages.{IfaceMsg, message_of}
use Rattle.cecp_lines.specs.Reading.{CanBeRead}
use Rattle.clock_map.specs.declared.clocks.Clocks.{Clocks}
use Rattle.clock_map.specs.Clocks.{ClocksAreShort, HasTenDigits, IsShortLimit, after_message, at_least_one, of_centis, StayShort}
use Rattle.protocol_tokens.proofs.Sizes.{digits_small, seconds_small, centis_small}
use Rattle.clock_map.proofs.Numbers.{base_small}

max_small : (n : ℕ) → n < 10 ^ 10 → max n 1 < 10 ^ 10
max_small n h = let a : n ≤ 9999999999 = omega arith in let b : 1 ≤ 9999999999 = lit≤ tt in let m : max n 1 ≤ 9999999999 = max-le a b in omega arith

-- the numbers of the messages
pub base_read : (mps base inc : ℕ) → CanBeRead (says.Level mps base inc) → base < 10 ^ 10
base_read mps base inc h = let k = h.1 in base_small k.1 base k.5

moves_read : (mps base inc : ℕ) → CanBeRead (says.Level mps base inc) → mps < 10 ^ 10
moves_read mps base inc h = let k = h.1 in let s = digits_small 4 k.0 mps k.4 in omega arith

increment_read : (mps base inc : ℕ) → CanBeRead (says.Level mps base inc) → inc < 10 ^ 10
increment_read mps base inc h = let k = h.1 in seconds_small k.2 inc k.6

fixed_read : (ms : ℕ) → CanBeRead (says.St ms) → ms < 10 ^ 10
fixed_read ms h = let k = h.1 in seconds_small k.0 ms k.2

depth_read : (n : ℕ) → CanBeRead (says.Sd n) → n < 10 ^ 10
depth_read n h = let k = h.1 in let s = digits_small 9 k.0 n k.2 in omega arith

time_read : (z : ℤ) → CanBeRead (says.Time z) → nat_abs z < 10 ^ 9
time_read z h = let k = h.1 in centis_small k.0 z k.2

other_time_read : (z : ℤ) → CanBeRead (says.Otim z) → nat_abs z < 10 ^ 9
other_time_read z h = let k = h.1 in centis_small k.0 z k.2

negative_fits : (k : ℕ) → k < 10 ^ 11 → FitsSigned w64 (neg_ℤ (pos k))
negative_fits zero h = omega arith
negative_fits (suc k) h = omega arith

number_fits : (z : ℤ) → nat_abs z < 10 ^ 9 → FitsSigned w64 z
number_fits (pos n) h = omega arith
number_fits (negsuc n) h = omega arith

-- ten times a clock's number is in the range of its type
clock_fits : (z : ℤ) → nat_abs z < 10 ^ 9 → FitsSigned w64 (of_centis z)
clock_fits (pos n) h = omega arith
clock_fits (negsuc n) h = negative_fits (10 * suc n) (omega arith)

-- the same, as the code has the message
pub base_reported : (msg : CodeIfaceMsg) (mps base inc : ℕ) → msg ≡ cecp.Level mps base inc → CanBeRead (message_of msg) → base < 2 ^ 63
base_reported msg mps base inc e h =
    let k : CanBeRead (says.Level mps base inc) = subst (λ (x : CodeIfaceMsg). CanBeRead (message_of x)) e h in
    omega (arith, base_read mps base inc k)

pub time_reported : (msg : CodeIfaceMsg) (z : ℤ) → msg ≡ cecp.Time z → CanBeRead (message_of msg) → FitsSigned w64 (of_centis (to_z w64 (of_z w64 z)))
time_reported msg z e h =
    let k : CanBeRead (says.Time z) = subst (λ (x : CodeIfaceMsg). CanBeRead (message_of x)) e h in
    rw (to_z-of_z w64 z (number_fits z (time_read z k))) (clock_fits z (time_read z k))

pub other_time_reported : (msg : CodeIfaceMsg) (z : ℤ) → msg ≡ cecp.Otim z → CanBeRead (message_of msg) → FitsSigned w64 (of_centis (to_z w64 (of_z w64 z)))
other_time_reported msg z e h =
    let k : CanBeRead (says.Otim z) = subst (λ (x : CodeIfaceMsg). CanBeRead (message_of x)) e h in
    rw (to_z-of_z w64 z (number_fits z (other_time_read z k))) (clock_fits z (other_time_read z k))

-- the clocks after a message
shown_short : (n : ℕ) → n < 10 ^ 10 → HasTenDigits (at_least_one (pos n))
shown_short n h = max_small n h

negative_short : (k : ℕ) → HasTenDigits (at_least_one (neg_ℤ (pos k)))
negative_short zero = lit< tt
negative_short (suc k) = lit< tt

centis_short : (z : ℤ) → nat_abs z < 10 ^ 9 → HasTenDigits (at_least_one (of_centis z))
centis_short (pos n) h = max_small (10 * n) (omega arith)
centis_short (negsuc n) h = negative_short (10 * suc n)

limit_short : (b : Bool) (n : ℕ) → eqb n 0 ≡ b → n < 10 ^ 10 → IsShortLimit (cond b None (Some n))
limit_short true n e h = tt
limit_short false n e h = (grind (arith, nat_tests), h)

after_level_short : (c : Clocks) (mps base inc : ℕ) → ClocksAreShort c → CanBeRead (says.Level mps base inc) → ClocksAreShort (after_message c (says.Level mps base inc))
after_level_short c mps base inc s h = record {
  control = tt;
  moves = moves_read mps base inc h;
  base = shown_short base (base_read mps base inc h);
  increment = increment_read mps base inc h;
  depth = s.depth;
  engine = shown_short base (base_read mps base inc h);
  opponent = shown_short base (base_read mps base inc h);
}

pub stay_short : StayShort
stay_short c (says.Level mps base inc) s h = after_level_short c mps base inc s h
stay_short c (says.St ms) s h = record { control = fixed_read ms h; moves = s.moves; base = s.base; increment = s.increment; depth = s.depth; engine = s.engine; opponent = s.opponent }
stay_short c (says.Sd n) s h = record { control = s.control; moves = s.moves; base = s.base; increment = s.increment; depth = limit_short (eqb n 0) n refl (depth_read n h); engine = s.engine; opponent = s.opponent }
stay_short c (says.Time z) s h = record { control = s.control; moves = s.moves; base = s.base; increment = s.increment; depth = s.depth; engine = centis_short z (time_read z h); opponent = s.opponent }
stay_short c (says.Otim z) s h = record { control = s.control; moves = s.moves; base = s.base; increment = s.increment; depth = s.depth; engine = s.engine; opponent = centis_short z (other_time_read z h) }
stay_short c _ s h = s
