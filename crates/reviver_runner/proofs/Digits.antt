-- A digit as a number, and back.
use Rattle.std.proofs.Common.{◌≡◌, ℕ, ◌-◌, ◌≤◌, [], ◌∷◌, ap, arith}
use Rattle.reviver_runner.specs.Arguments.{digit_of}

pub digit_back : (d : ℕ) → 49 ≤ d → d ∷ [] ≡ digit_of (d - 48)
digit_back d h = ap (λ n. n ∷ []) (omega (arith, h))
