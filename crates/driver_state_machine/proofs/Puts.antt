-- Pieces that are put one after the other.
use Rattle.std.proofs.Common.{◌≡◌, ℕ, List, [], ◌∷◌, ◌++◌, Option, Some, refl, sym, ap, ◌∙◌, append_assoc, append-nil}
use Rattle.std.specs.Prelude.{codes}
use Rattle.line_io.specs.Out.{Text, with}
use Rattle.line_io.proofs.Puts.{put_three, put_two}
use Rattle.chess_board.specs.declared.board.Move.{Move}
use Rattle.chess_board.specs.Text.{text_of_move}
use Rattle.driver_state_machine.specs.declared.words.Thought.{Thought}
use Rattle.driver_state_machine.specs.Lines.{bestmove_line_text, figures_text, info_text}

pub put_four : (o a b c d : Text) (x y z w : List ℕ) → a ≡ with o x → b ≡ with a y → c ≡ with b z → d ≡ with c w → d ≡ with o (x ++ (y ++ (z ++ w)))
put_four o a b c d x y z w e f g h = put_two o a d x (y ++ (z ++ w)) e (put_three a b c d y z w f g h)

-- three lines
pub put_lines : (o a b c : Text) (x y z : List ℕ) → a ≡ with o x → b ≡ with a y → c ≡ with b z → c ≡ with o (x ++ (y ++ (z ++ [])))
put_lines o a b c x y z e f g = put_three o a b c x y z e f g ∙ ap (λ (t : List ℕ). with o (x ++ (y ++ t))) (sym (append-nil z))

-- a move after a word, as its text lies in memory
moved : (o b : Text) (word t items text : List ℕ) → t ≡ items → items ≡ text → b ≡ with o ((word ++ t) ++ 10 ∷ []) → b ≡ with o ((word ++ text) ++ 10 ∷ [])
moved o b word t items text f g p = p ∙ ap (λ (x : List ℕ). with o ((word ++ x) ++ 10 ∷ [])) (f ∙ g)

pub best_line : (o b : Text) (best : Option Move) (m : Move) (t items : List ℕ) → best ≡ Some m → t ≡ items → items ≡ text_of_move m → b ≡ with o ((codes "bestmove " ++ t) ++ 10 ∷ []) → b ≡ with o (bestmove_line_text best ++ 10 ∷ [])
best_line o b best m t items e f g p = rw e (moved o b (codes "bestmove ") t items (text_of_move m) f g p)

pub info_line : (o a b : Text) (thought : Thought) (t items : List ℕ) → a ≡ with o (figures_text thought) → t ≡ items → items ≡ text_of_move thought.best → b ≡ with a ((codes " pv " ++ t) ++ 10 ∷ []) → b ≡ with o (info_text thought ++ 10 ∷ [])
info_line o a b thought t items e f g p =
    put_two o a b (figures_text thought) ((codes " pv " ++ text_of_move thought.best) ++ 10 ∷ []) e (moved a b (codes " pv ") t items (text_of_move thought.best) f g p)
    ∙ ap (with o) (sym (append_assoc (figures_text thought) (codes " pv " ++ text_of_move thought.best) (10 ∷ [])))
