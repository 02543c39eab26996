-- Two lists in one strict order with the same elements are equal.
use Rattle.std.proofs.Common.{◌≡◌, ◌⊎◌, ◌↔◌, zero, suc, List, [], ◌∷◌, refl, sym, ap, subst, ◌∙◌, inl, inr, arith}
use Rattle.std.specs.Prelude.{Contains, AllPairs}

module _ {X : Type 0} (R : X → X → Type 0) (asymmetric : (x y : X) → R x y → R y x → ⊥) where
  abbrev Same : List X → List X → Type 0
  Same xs ys = (x : X) → Contains xs x ↔ Contains ys x

  first_in : (x : X) (xs : List X) → Contains (x ∷ xs) x
  first_in x xs = (0, omega arith, refl)

  later_in : (x : X) (xs : List X) (y : X) → Contains xs y → Contains (x ∷ xs) y
  later_in x xs y c = (suc c.0, omega (arith, c.1), c.2)

  first_or_later : (x : X) (xs : List X) (y : X) → Contains (x ∷ xs) y → (x ≡ y) ⊎ Contains xs y
  first_or_later x xs y (zero, l, e) = inl e
  first_or_later x xs y (suc k, l, e) = inr (k, omega (arith, l), e)

  rest_ordered : (x : X) (xs : List X) → AllPairs R (x ∷ xs) → AllPairs R xs
  rest_ordered x xs h i j d lt within = h (suc i) (suc j) d (omega (arith, lt)) (omega (arith, within))

  comes_first : (x : X) (xs : List X) → AllPairs R (x ∷ xs) → (y : X) → Contains xs y → R x y
  comes_first x xs h y c = subst (λ z. R x z) c.2 (h 0 (suc c.0) y (omega arith) (omega (arith, c.1)))

  one_first : (x : X) (xs : List X) (y : X) (ys : List X) → AllPairs R (x ∷ xs) → AllPairs R (y ∷ ys) → Same (x ∷ xs) (y ∷ ys) → x ≡ y
  one_first x xs y ys h k s = by (first_or_later y ys x ((s x).0 (first_in x xs))) (first_or_later x xs y ((s y).1 (first_in y ys))) where
    by : (y ≡ x) ⊎ Contains ys x → (x ≡ y) ⊎ Contains xs y → x ≡ y
    by (inl e) q = sym e
    by (inr c) (inl e) = e
    by (inr c) (inr d) = absurd (asymmetric x y (comes_first x xs h y d) (comes_first y ys k x c))

  rest_in : (x : X) (xs ys : List X) → AllPairs R (x ∷ xs) → ((z : X) → Contains (x ∷ xs) z → Contains (x ∷ ys) z) → (z : X) → Contains xs z → Contains ys z
  rest_in x xs ys h s z c = by (first_or_later x ys z (s z (later_in x xs z c))) where
    by : (x ≡ z) ⊎ Contains ys z → Contains ys z
    by (inl e) = let r = subst (λ w. R x w) (sym e) (comes_first x xs h z c) in absurd (asymmetric x x r r)
    by (inr d) = d

  none_in : (x : X) → Contains [] x → ⊥
  none_in x c = absurd (omega (arith, c.1))

  pub same_lists : (xs ys : List X) → AllPairs R xs → AllPairs R ys → Same xs ys → xs ≡ ys
  same_lists [] [] h k s = refl
  same_lists [] (y ∷ ys) h k s = absurd (none_in y ((s y).1 (first_in y ys)))
  same_lists (x ∷ xs) [] h k s = absurd (none_in x ((s x).0 (first_in x xs)))
  same_lists (x ∷ xs) (y ∷ ys) h k s =
      let e = one_first x xs y ys h k s in
      let k' : AllPairs R (x ∷ ys) = subst (λ z. AllPairs R (z ∷ ys)) (sym e) k in
      let s' : Same (x ∷ xs) (x ∷ ys) = subst (λ z. Same (x ∷ xs) (z ∷ ys)) (sym e) s in
      let rest = same_lists xs ys (rest_ordered x xs h) (rest_ordered x ys k') (λ z. (rest_in x xs ys h (λ w. (s' w).0) z, rest_in x ys xs k' (λ w. (s' w).1) z)) in
      ap (λ zs. x ∷ zs) rest ∙ ap (λ z. z ∷ ys) e
