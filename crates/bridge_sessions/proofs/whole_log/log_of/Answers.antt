use Rattle.std.proofs.Common.{◌≡◌, ◌∙◌, ℕ, List, [], ◌∷◌, Option, Some, refl, sym, ap}
use Rattle.std.specs.Prelude.{slice_get}
use Rattle.bridge_sessions.proofs.whole_log.log_of.Goals as goal

only_log : (logs : List (Option (List ℕ))) (a b : List ℕ) → logs ≡ Some a ∷ [] → slice_get logs 0 ≡ Some (Some b) → b ≡ a
only_log logs a b e f =
    let g : slice_get (Some a ∷ []) 0 ≡ Some (Some b) = ap (λ (x : List (Option (List ℕ))). slice_get x 0) (sym e) ∙ f in cc

pub returns : goal.returns
returns g c =
    let run = c.bridge_main-status.ensures.whole c.if-status-ne0.false refl in
    record { before = _; after = _; run = run; is = c.in_ok-from_slice.ensures.items ∙ only_log _ _ _ run.whole.log c.logged.ensures }
