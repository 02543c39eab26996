-- Prefixes of what is due for all lines of an input.
use Rattle.std.proofs.Common.{◌≡◌, ℕ, zero, suc, List, [], ◌∷◌, ◌++◌, take, Option, None, Some, append-nil, append_assoc, refl, sym, ap, subst, ◌∙◌}
use Rattle.line_io.specs.Lines.{Piece}
use Rattle.replay_command_base.specs.Reads.{AreFirst}
use Rattle.replay_command_base.specs.Filtered.{AreAll}

-- one text is a prefix of the other
pub record IsPrefix (text whole : List ℕ) : Type 0 where
  pub more : List ℕ
  pub whole_is : whole ≡ text ++ more

pub all_prefix : (text : List ℕ) → IsPrefix text text
all_prefix text = record { more = []; whole_is = sym (append-nil text) }

pub prefix_on : (a b c : List ℕ) → IsPrefix a b → IsPrefix b c → IsPrefix a c
prefix_on a b c f g = record { more = f.more ++ g.more; whole_is = g.whole_is ∙ ap (λ l. l ++ g.more) f.whole_is ∙ append_assoc a f.more g.more }

prefix_of_more : (n : ℕ) (xs ys : List ℕ) → (k : ℕ) × (take n xs ≡ take k (xs ++ ys))
prefix_of_more zero xs ys = (0, refl)
prefix_of_more (suc n) [] ys = (0, refl)
prefix_of_more (suc n) (x ∷ xs) ys = let r = prefix_of_more n xs ys in (suc r.0, ap (λ (l : List ℕ). x ∷ l) r.1)

-- a prefix of a prefix
pub take_prefix : (n : ℕ) (text whole : List ℕ) → IsPrefix text whole → (k : ℕ) × (take n text ≡ take k whole)
take_prefix n text whole f = let r = prefix_of_more n text f.more in (r.0, r.1 ∙ ap (take r.0) (sym f.whole_is))

-- the lines that follow in the input
pub later_of : (left : Option (List ℕ)) (lines : List Piece) → AreFirst left lines → (later : List Piece) × AreAll left (lines ++ later)
later_of None lines a = ([], tt)
later_of (Some x) lines a = (a.0, a.1)

pub none_later : (left : Option (List ℕ)) (lines : List Piece) → AreAll left lines → AreAll left (lines ++ [])
none_later left lines a = subst (AreAll left) (sym (append-nil lines)) a
