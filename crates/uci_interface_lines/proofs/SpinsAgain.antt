-- The text written of a spin's three numbers is read as the same numbers.
use Rattle.std.proofs.Common.{◌≡◌, ℕ, zero, suc, ℤ, int_lt, ◌^◌, ◌<◌, List, [], ◌∷◌, Bool, true, false, cond, drop, Option, Some, None, codes, refl, sym, ap, ◌∙◌, subst, arith}
use Rattle.std.specs.Prelude.{pos, neg_ℤ, nat_abs}
use Rattle.std.specs.Int.{int_min, int_max}
use Rattle.std.specs.Fmt.{signed_decimal}
use Rattle.std.specs.Str.Parse.{starts_with_minus}
use Rattle.protocol_tokens.specs.Tokens.{is_token}
use Rattle.protocol_tokens.specs.Numbers.{count, positive, negative, signed_number}
use Rattle.protocol_tokens.proofs.Sizes.{digits_small}
use Rattle.protocol_tokens.proofs.Written.{signed_decimal_read, signed_token}
use Rattle.uci_lines.specs.Cuts.{is_word}
use Rattle.uci_lines.specs.Spells.{IsLast}
use Rattle.uci_lines.proofs.Ranges.{HasNone, none_empty, none_more, passes_by, one_further}

same : {A : Type 0} (b : Bool) (x : A) → cond b x x ≡ x
same true x = refl
same false x = refl

-- a default that was moved into the range stays where it is
pub clamped : (a b : Bool) (n min max : ℤ) → int_lt max n ≡ a → int_lt (cond a max n) min ≡ b → int_lt max min ≡ false → cond b min (cond a max n) ≡ int_max min (int_min (cond b min (cond a max n)) max)
clamped a true n min max e f l = sym (ap (λ t. int_max min (cond t max min)) l ∙ same (int_lt min min) min)
clamped true false n min max e f l = sym (ap (λ i. int_max min i) (same (int_lt max max) max) ∙ ap (λ t. cond t min max) l)
clamped false false n min max e f l = sym (ap (λ t. int_max min (cond t max n)) e ∙ ap (λ t. cond t min n) f)

pub one_of : (a b : Bool) (n min max : ℤ) → nat_abs n < 10 ^ 18 → nat_abs min < 10 ^ 18 → nat_abs max < 10 ^ 18 → nat_abs (cond b min (cond a max n)) < 10 ^ 18
one_of a true n min max h k l = k
one_of true false n min max h k l = l
one_of false false n min max h k l = h

negative_small : (n : ℕ) → n < 10 ^ 18 → nat_abs (neg_ℤ (pos n)) < 10 ^ 18
negative_small zero h = h
negative_small (suc n) h = h

pos_by : (d : Option ℕ) (z : ℤ) → ((n : ℕ) → d ≡ Some n → n < 10 ^ 18) → positive d ≡ Some z → nat_abs z < 10 ^ 18
pos_by None z f e = absurd (cc)
pos_by (Some n) z f e = let k : pos n ≡ z = cc in subst (λ (i : ℤ). nat_abs i < 10 ^ 18) k (f n refl)

neg_by : (d : Option ℕ) (z : ℤ) → ((n : ℕ) → d ≡ Some n → n < 10 ^ 18) → negative d ≡ Some z → nat_abs z < 10 ^ 18
neg_by None z f e = absurd (cc)
neg_by (Some n) z f e = let k : neg_ℤ (pos n) ≡ z = cc in subst (λ (i : ℤ). nat_abs i < 10 ^ 18) k (negative_small n (f n refl))

signed_by : (b : Bool) (t : List ℕ) (z : ℤ) → cond b (negative (count (drop 1 t))) (positive (count t)) ≡ Some z → nat_abs z < 10 ^ 18
signed_by true t z e = neg_by (count (drop 1 t)) z (digits_small 18 (drop 1 t)) e
signed_by false t z e = pos_by (count t) z (digits_small 18 t) e

-- a number of at most 18 digits
pub signed_small : (t : List ℕ) (z : ℤ) → signed_number t ≡ Some z → nat_abs z < 10 ^ 18
signed_small t z e = signed_by (starts_with_minus t) t z e

pub number_token : (z : ℤ) → nat_abs z < 10 ^ 18 → is_token (signed_decimal z) ≡ true
number_token z h = signed_token z (omega (arith, h))

-- a word and a number in front of others
none_pair : (word w digits : List ℕ) (n : ℤ) (ts : List (List ℕ)) → is_word word w ≡ false → signed_number word ≡ None → signed_number digits ≡ Some n → HasNone word ts → HasNone word (w ∷ digits ∷ ts)
none_pair word w digits n ts e z h k =
    none_more word w (digits ∷ ts) false e (λ j. absurd (cc))
    (none_more word digits ts false (passes_by word digits n (is_word word digits) refl z h) (λ j. absurd (cc)) k)

last_here : (word digits : List ℕ) (n : ℤ) (ts : List (List ℕ)) → signed_number digits ≡ Some n → HasNone word ts → IsLast word (word ∷ digits ∷ ts) n
last_here word digits n ts r h = record { before = []; digits = digits; others = ts; whole = refl; reads = r; last = h }

abbrev pub spin_tokens : ℤ → ℤ → ℤ → List (List ℕ)
spin_tokens d a b = codes "default" ∷ signed_decimal d ∷ codes "min" ∷ signed_decimal a ∷ codes "max" ∷ signed_decimal b ∷ []

pub record HasSpin (ts : List (List ℕ)) (d min max : ℤ) : Type 0 where
  pub default : IsLast (codes "default") ts d
  pub low : IsLast (codes "min") ts min
  pub high : IsLast (codes "max") ts max

pub has_spin : (d a b : ℤ) → nat_abs d < 10 ^ 18 → nat_abs a < 10 ^ 18 → nat_abs b < 10 ^ 18 → HasSpin (spin_tokens d a b) d a b
has_spin d a b hd ha hb =
    let rd : signed_number (signed_decimal d) ≡ Some d = signed_decimal_read d hd in
    let ra : signed_number (signed_decimal a) ≡ Some a = signed_decimal_read a ha in
    let rb : signed_number (signed_decimal b) ≡ Some b = signed_decimal_read b hb in
    record {
      default = last_here (codes "default") (signed_decimal d) d (codes "min" ∷ signed_decimal a ∷ codes "max" ∷ signed_decimal b ∷ []) rd
          (none_pair (codes "default") (codes "min") (signed_decimal a) a (codes "max" ∷ signed_decimal b ∷ []) refl refl ra
          (none_pair (codes "default") (codes "max") (signed_decimal b) b [] refl refl rb (none_empty (codes "default"))));
      low = two_further (codes "min") (codes "default") (signed_decimal d) (codes "min" ∷ signed_decimal a ∷ codes "max" ∷ signed_decimal b ∷ []) a
          (last_here (codes "min") (signed_decimal a) a (codes "max" ∷ signed_decimal b ∷ []) ra
          (none_pair (codes "min") (codes "max") (signed_decimal b) b [] refl refl rb (none_empty (codes "min"))));
      high = two_further (codes "max") (codes "default") (signed_decimal d) (codes "min" ∷ signed_decimal a ∷ codes "max" ∷ signed_decimal b ∷ []) b
          (two_further (codes "max") (codes "min") (signed_decimal a) (codes "max" ∷ signed_decimal b ∷ []) b
          (last_here (codes "max") (signed_decimal b) b [] rb (none_empty (codes "max"))));
    }
  where
    two_further : (word t u : List ℕ) (ts : List (List ℕ)) (n : ℤ) → IsLast word ts n → IsLast word (t ∷ u ∷ ts) n
    two_further word t u ts n l = one_further word t (u ∷ ts) n (one_further word u ts n l)
