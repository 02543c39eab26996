-- The number of closed runs and logs that report nothing.
use Rattle.std.proofs.Common.{◌≡◌, ℕ, zero, suc, [], ◌∷◌, length, None, refl, arith}
use Rattle.std.proofs.lemmas.List.{length-append}
use Rattle.child_engine.specs.Steady.{mute_logs}
use Rattle.child_engine.specs.Real.{nothing_shown, mute_runs}

pub logs_count : (n : ℕ) → length (mute_logs n) ≡ n
logs_count zero = refl
logs_count (suc n) = let e = logs_count n in let s = length-append (mute_logs n) (None ∷ []) in omega (arith, e, s)

pub runs_count : (n : ℕ) → length (mute_runs n) ≡ n
runs_count zero = refl
runs_count (suc n) = let e = runs_count n in let s = length-append (mute_runs n) (nothing_shown ∷ []) in omega (arith, e, s)
