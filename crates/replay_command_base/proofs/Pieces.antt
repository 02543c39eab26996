-- Pieces that are put one after the other.
use Rattle.std.proofs.Common.{◌≡◌, ℕ, List, ◌++◌, ap, ◌∙◌, append_assoc}
use Rattle.line_io.specs.Out.{Text, with}

pub three : (t : Text) (a b c : List ℕ) → with (with (with t a) b) c ≡ with t (a ++ b ++ c)
three t a b c = ap (λ (l : List ℕ). let x : Text = record { text = l; room = t.room } in x) (ap (λ l. l ++ c) (append_assoc t.text a b) ∙ append_assoc t.text (a ++ b) c)
