-- The next square of a set.
use Rattle.std.proofs.Common.{◌≡◌, ◌≢◌, ◌+◌, ◌-◌, ◌/◌, ◌%◌, ◌^◌, ◌<◌, ◌≤◌, ◌==◌, ◌*◌, ◌&&◌, ℕ, suc, Bool, true, false, refl, sym, ap, ⊎_elim, ◌∙◌, w64, arith}
use Rattle.std.specs.Int.{bit_at}
use Rattle.std.specs.Int.Bits.{bit_and}
use Rattle.std.specs.Int.Count.{count_trailing_zeros}
use Rattle.std.proofs.Math.Nat.{div-div-eq-div-mul, div-le_self}
use Rattle.std.proofs.lemmas.Nat.{pow-add}
use Rattle.std.proofs.lemmas.Nat.Bits.{bit_at-zero, bit_at_above, bit_at-trailing_zeros}
use Rattle.std.proofs.lemmas.Bool.{cases_lt, cases_eq}
use Rattle.chess_board.specs.Board.{some_below}
use Rattle.chess_board.specs.Reach.{has}
use Rattle.chess_board.proofs.Sets.{has-both}
use Rattle.chess_board.proofs.Below.{some_below-none, some_below-at}

shifted : (n k i : ℕ) → bit_at (n / 2 ^ k) i ≡ bit_at n (k + i)
shifted n k i = ap (λ (x : ℕ). x % 2) (div-div-eq-div-mul n (2 ^ k) (2 ^ i) ∙ ap (λ (x : ℕ). n / x) (sym (pow-add 2 k i)))

from_shift : (n k s : ℕ) → k ≤ s → bit_at (n / 2 ^ k) (s - k) ≡ 0 → has n s ≡ false
from_shift n k s low e =
    let at : k + (s - k) ≡ s = omega arith in
    let zero_bit : bit_at n s ≡ 0 = ap (bit_at n) (sym at) ∙ sym (shifted n k (s - k)) ∙ e in
    ap (λ (b : ℕ). b == 1) zero_bit

pub none_left : (n k : ℕ) → n / 2 ^ k ≡ 0 → (s : ℕ) → k ≤ s → has n s ≡ false
none_left n k none s low = from_shift n k s low (ap (λ (m : ℕ). bit_at m (s - k)) none ∙ bit_at-zero (s - k))

first_left : (n k : ℕ) → n < 2 ^ 64 → n / 2 ^ k ≢ 0 → (count_trailing_zeros 64 (n / 2 ^ k) < 64) × (bit_at (n / 2 ^ k) (count_trailing_zeros 64 (n / 2 ^ k)) ≡ 1) × ((i : ℕ) → i < count_trailing_zeros 64 (n / 2 ^ k) → bit_at (n / 2 ^ k) i ≡ 0)
first_left n k fits some =
    let less : n / 2 ^ k ≤ n = div-le_self n (2 ^ k) in
    bit_at-trailing_zeros w64 (n / 2 ^ k) (omega arith) (omega arith)

pub next_low : (n k : ℕ) → n < 2 ^ 64 → n / 2 ^ k ≢ 0 → k + count_trailing_zeros 64 (n / 2 ^ k) ≤ 64
next_low n k fits some =
    let first = first_left n k fits some in
    ⊎_elim (λ (h : k + count_trailing_zeros 64 (n / 2 ^ k) < 64). omega arith)
    (λ (h : 64 ≤ k + count_trailing_zeros 64 (n / 2 ^ k)).
    let above = bit_at_above n 64 (k + count_trailing_zeros 64 (n / 2 ^ k)) fits h in
    let one = sym (shifted n k (count_trailing_zeros 64 (n / 2 ^ k))) ∙ first.1 in
    absurd (omega arith))
    (cases_lt (k + count_trailing_zeros 64 (n / 2 ^ k)) 64)

pub next_passed : (n k : ℕ) → n < 2 ^ 64 → n / 2 ^ k ≢ 0 → (s : ℕ) → k ≤ s → s < k + count_trailing_zeros 64 (n / 2 ^ k) → has n s ≡ false
next_passed n k fits some s low less = from_shift n k s low ((first_left n k fits some).2 (s - k) (omega arith))

-- a search that goes from square to square of a set beyond which nothing passes
pub some_further : (test : ℕ → Bool) (set at next : ℕ) → ((s : ℕ) → s < 64 → has set s ≡ false → test s ≡ false) → some_below at test ≡ false → test at ≡ false → next ≤ 64 → ((s : ℕ) → at + 1 ≤ s → s < next → has set s ≡ false) →
    some_below next test ≡ false
some_further test set at next beyond before here low passed = some_below-none next test (λ k less.
    ⊎_elim (λ (h : k < at). some_below-at at k test before h)
    (λ (h : at ≤ k). ⊎_elim (λ (e : k ≡ at). ap test e ∙ here) (λ (n : k ≢ at). beyond k (omega arith) (passed k (omega arith) less)) (cases_eq k at))
    (cases_lt k at))

pub some_first : (test : ℕ → Bool) (set next : ℕ) → ((s : ℕ) → s < 64 → has set s ≡ false → test s ≡ false) → next ≤ 64 → ((s : ℕ) → 0 ≤ s → s < next → has set s ≡ false) → some_below next test ≡ false
some_first test set next beyond low passed = some_below-none next test (λ k less. beyond k (omega arith) (passed k (omega arith) less))

-- the squares of one file: each eighth bit of the set, shifted by the file's number
file_bit : (r : ℕ) → r < 8 → bit_at 72340172838076673 (r * 8) ≡ 1
file_bit (suc (suc (suc (suc (suc (suc (suc (suc r)))))))) h = absurd (omega arith)
file_bit r h = refl

pub on_file : (set file rank : ℕ) → rank < 8 → has (bit_and (set / 2 ^ file) 72340172838076673) (rank * 8) ≡ false → has set (rank * 8 + file) ≡ false
on_file set file rank low e =
    let one : has 72340172838076673 (rank * 8) ≡ true = ap (λ (n : ℕ). n == 1) (file_bit rank low) in
    let here : has (set / 2 ^ file) (rank * 8) ≡ has set (rank * 8 + file) = ap (λ (n : ℕ). n == 1) (shifted set file (rank * 8)) ∙ ap (has set) (turn file (rank * 8)) in
    sym here ∙ (sym (and_true (has (set / 2 ^ file) (rank * 8)) (has 72340172838076673 (rank * 8)) one) ∙ sym (has-both (set / 2 ^ file) 72340172838076673 (rank * 8)) ∙ e)
  where
    turn : (a b : ℕ) → a + b ≡ b + a
    turn a b = omega arith

    and_true : (a b : Bool) → b ≡ true → (a && b) ≡ a
    and_true true b h = h
    and_true false b h = refl
