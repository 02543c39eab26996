-- Texts that are put one after the other.
use Rattle.std.proofs.Common.{◌≡◌, ℕ, List, [], ◌++◌, sym, ap, ◌∙◌, append_assoc, append-nil}
use Rattle.line_io.specs.Out.{Text, with}

pub put_again : (o : Text) (x y : List ℕ) → with (with o x) y ≡ with o (x ++ y)
put_again o x y = ap (λ (t : List ℕ). record { text = t; room = o.room }) (append_assoc o.text x y)

pub put_none : (t : Text) → t ≡ with t []
put_none t = ap (λ (x : List ℕ). let u : Text = record { text = x; room = t.room } in u) (sym (append-nil t.text))

pub put_two : (o a b : Text) (x y : List ℕ) → a ≡ with o x → b ≡ with a y → b ≡ with o (x ++ y)
put_two o a b x y e f = f ∙ ap (λ (t : Text). with t y) e ∙ put_again o x y

pub put_three : (o a b c : Text) (x y z : List ℕ) → a ≡ with o x → b ≡ with a y → c ≡ with b z → c ≡ with o (x ++ (y ++ z))
put_three o a b c x y z e f g = put_two o a c x (y ++ z) e (put_two a b c y z f g)
