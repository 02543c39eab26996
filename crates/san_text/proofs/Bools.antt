-- Tests and what they say.
use Rattle.std.proofs.Common.{◌≡◌, ◌≢◌, ℕ, Bool, true, false, not, ◌&&◌, ◌==◌, arith}
use Rattle.std.proofs.lemmas.Bool.Decides.{nat_tests}

pub differs : (a b : ℕ) → a ≢ b → (a == b) ≡ false
differs a b h = grind (arith, nat_tests)

-- another square, the same kind, and legal
pub rival_is : (here same legal r : Bool) → here ≡ false → same ≡ true → r ≡ legal → r ≡ ((not here && same) && legal)
rival_is here same legal r e f g = rw (e, f) g
