-- Two texts of one log.
use Rattle.std.proofs.Common.{◌≡◌, ◌∙◌, ℕ, sym, ap, arith, List, [], ◌∷◌, ◌++◌, length, length-append, Option, Some}

pub one_log : (xs ys : List ℕ) (ls : List (Option (List ℕ))) → ls ≡ Some xs ∷ [] → ls ≡ Some ys ∷ [] → xs ≡ ys
one_log xs ys ls e f = let g : Some xs ∷ [] ≡ Some ys ∷ [] = sym e ∙ f in cc

pub no_bytes : (xs ys : List ℕ) (y : ℕ) → xs ++ y ∷ ys ≡ [] → ⊥
no_bytes [] ys y e = cc
no_bytes (x ∷ xs) ys y e = cc

-- no text is longer than itself
pub none_longer : (xs ys : List ℕ) (y : ℕ) → xs ≡ xs ++ y ∷ ys → ⊥
none_longer xs ys y e = let l = ap (λ (x : List ℕ). length x) e in let m = length-append xs (y ∷ ys) in absurd (omega (arith, l, m))
