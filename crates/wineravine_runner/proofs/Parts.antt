-- The results of the parts of the program.
use Rattle.std.proofs.Common.{◌≡◌, ◌⊎◌, ℕ, List, [], ◌∷◌, map, slice_index_or, subst}
use Rattle.line_io.specs.Source.{Received}
use Rattle.program_lifecycle.specs.Outside.{Outside}
use Rattle.wineravine_runner.specs.Program.{IsCut, TextIsShown, ShowsTextOnly}

-- the first of the texts
pub head_named : {A : Type 0} (f : A → List ℕ) (xs : List A) (d : A) (y : List ℕ) (ys : List (List ℕ)) → map f xs ≡ y ∷ ys → f (slice_index_or xs 0 d) ≡ y
head_named f [] d y ys e = absurd (let z : [] ≡ y ∷ ys = e in cc)
head_named f (x ∷ xs) d y ys e = let z : f x ∷ map f xs ≡ y ∷ ys = e in cc

-- a text was shown, which may be named otherwise
pub shown : (text text' : List ℕ) (before after : Outside) (diag diag' : Received) (code : ℕ) → text ≡ text' → after ≡ record before { output = after.output }
    → TextIsShown text before.output after.output diag diag' code ⊎ IsCut text before.output after.output diag diag' code → ShowsTextOnly text' before after diag diag' code
shown text text' before after diag diag' code same only ends = record {
  only_output = only;
  ends = subst (λ (t : List ℕ). TextIsShown t before.output after.output diag diag' code ⊎ IsCut t before.output after.output diag diag' code) same ends;
}
