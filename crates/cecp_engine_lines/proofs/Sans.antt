-- The bytes of moves in either spelling, and that no text has both.
use Rattle.std.proofs.Common.{◌≡◌, ℕ, ◌+◌, ◌<◌, ◌≤◌, List, [], ◌∷◌, Bool, true, false, not, ◌&&◌, ◌||◌, eqb, leb, cond, length, drop, Option, Some, None, refl, sym, ap, ◌∙◌, subst, arith}
use Rattle.std.specs.Prelude.{codes, is_some}
use Rattle.std.specs.List.{list_all, list_any, AllByRecursion}
use Rattle.std.proofs.lemmas.Bool.Decides.{nat_tests}
use Rattle.std.proofs.lemmas.Bool.{and_parts}
use Rattle.std.proofs.Math.Bool.{or_assoc, or-false}
use Rattle.std.proofs.lemmas.List.{drop_more}
use Rattle.chess_board.specs.declared.board.Move.{Move as AnyMove}
use Rattle.chess_board.specs.Board.{file_of, rank_of_square}
use Rattle.chess_board.specs.Text.{text_of_move, promotion_text}
use Rattle.cecp_lines.specs.San.{is_between, fits, is_mark, has_form, forms, is_san}
use Rattle.cecp_lines.specs.declared.reply.Spelling.{Spelling}
use Rattle.cecp_lines.specs.declared.reply.Spelling.TheVariants.{Coordinates, San}
use Rattle.cecp_lines.specs.Replies.{AreSquares, IsMoveText}
use Rattle.cecp_engine_lines.specs.ReplyReading.{written_move}
use Rattle.cecp_engine_lines.specs.SanReading.{is_any_move}
use Rattle.cecp_engine_lines.proofs.Plain.{written_move_is}
use Rattle.cecp_engine_lines.proofs.Rereads.{move_solid}

-- FORMS

found_by : {A : Type 0} (test : A → Bool) (P : A → Type 0) (x : A) (b more : Bool) → test x ≡ b → P x → (more ≡ true → (y : A) × ((test y ≡ true) × P y)) → (b || more) ≡ true → (y : A) × ((test y ≡ true) × P y)
found_by test P x true more e p k h = (x, (e, p))
found_by test P x false more e p k h = k h

-- one of the elements passes the test, and has what all of them have
found : {A : Type 0} (test : A → Bool) (P : A → Type 0) (xs : List A) → AllByRecursion P xs → list_any test xs ≡ true → (y : A) × ((test y ≡ true) × P y)
found test P [] all h = absurd (cc)
found test P (x ∷ xs) all h = found_by test P x (test x) (list_any test xs) refl all.0 (found test P xs all.1) h

none_by : (b more : Bool) → b ≡ false → more ≡ false → (b || more) ≡ false
none_by true more e f = cc
none_by false more e f = f

none : {A : Type 0} (test : A → Bool) (xs : List A) → AllByRecursion (λ x. test x ≡ false) xs → list_any test xs ≡ false
none test [] all = refl
none test (x ∷ xs) all = none_by (test x) (list_any test xs) all.0 (none test xs all.1)

-- each byte of a form is above the signs
abbrev pub IsHigh : List ℕ → Type 0
IsHigh form = (0 < length form) × (list_all (leb 45) form ≡ true)

all_high : AllByRecursion IsHigh forms
all_high =
    ((omega arith, refl), ((omega arith, refl), ((omega arith, refl), ((omega arith, refl), ((omega arith, refl), ((omega arith, refl), ((omega arith, refl), ((omega arith, refl), ((omega arith, refl), ((omega arith, refl), ((omega arith, refl), ((omega arith, refl), ((omega arith, refl), ((omega arith, refl), ((omega arith, refl), ((omega arith, refl), tt))))))))))))))))

fits_by : (f r e i p : Bool) (c b : ℕ) → leb 45 c ≡ true
    → cond f (is_between 97 104 b) (cond r (is_between 49 56 b) (cond e (eqb b 49 || eqb b 56) (cond i (is_between 50 55 b) (cond p ((eqb b 81 || eqb b 82) || (eqb b 66 || eqb b 78)) (eqb c b))))) ≡ true → 45 ≤ b
fits_by true r e i p c b l h = grind (arith, nat_tests)
fits_by false true e i p c b l h = grind (arith, nat_tests)
fits_by false false true i p c b l h = grind (arith, nat_tests)
fits_by false false false true p c b l h = grind (arith, nat_tests)
fits_by false false false false true c b l h = grind (arith, nat_tests)
fits_by false false false false false c b l h = grind (arith, nat_tests)

fits_high : (c b : ℕ) → leb 45 c ≡ true → fits c b ≡ true → 45 ≤ b
fits_high c b l h = fits_by (eqb c 102) (eqb c 114) (eqb c 101) (eqb c 105) (eqb c 80) c b l h

-- no sign of a check or of a mate
abbrev IsOther : ℕ → Type 0
IsOther k = (k < 45) × ((eqb 43 k ≡ false) × (eqb 35 k ≡ false))

mark_by : (b k : ℕ) → eqb 43 k ≡ false → eqb 35 k ≡ false → (eqb b 43 || eqb b 35) ≡ true → not (eqb b k) ≡ true
mark_by b k x y h = grind (arith, nat_tests)

mark_solid : (k : ℕ) (text : List ℕ) → IsOther k → is_mark text ≡ true → list_all (λ b. not (eqb b k)) text ≡ true
mark_solid k [] o h = refl
mark_solid k (b ∷ []) o h = let t : not (eqb b k) ≡ true = mark_by b k o.1.0 o.1.1 h in rw t refl
mark_solid k (b ∷ c ∷ text) o h = absurd (cc)

high_other : (b k : ℕ) → 45 ≤ b → k < 45 → not (eqb b k) ≡ true
high_other b k l m = grind (arith, nat_tests)

form_solid : (k : ℕ) (form text : List ℕ) → IsOther k → list_all (leb 45) form ≡ true → has_form form text ≡ true → list_all (λ b. not (eqb b k)) text ≡ true
form_solid k [] text o l h = mark_solid k text o h
form_solid k (c ∷ form) [] o l h = absurd (cc)
form_solid k (c ∷ form) (b ∷ text) o l h =
    let high = and_parts (leb 45 c) (list_all (leb 45) form) l in
    let both = and_parts (fits c b) (has_form form text) h in
    let one : not (eqb b k) ≡ true = high_other b k (fits_high c b high.0 both.0) o.0 in
    rw (one, form_solid k form text o high.1 both.1) refl

form_some : (form text : List ℕ) → 0 < length form → has_form form text ≡ true → 0 < length text
form_some [] text l h = absurd (omega arith)
form_some (c ∷ form) [] l h = absurd (cc)
form_some (c ∷ form) (b ∷ text) l h = omega arith

-- SOLID TEXTS

-- a text that is not empty and has neither a blank nor a parenthesis
pub record IsSolid (text : List ℕ) : Type 0 where
  pub some : 0 < length text
  pub blank : list_all (λ b. not (eqb b 32)) text ≡ true
  pub opening : list_all (λ b. not (eqb b 40)) text ≡ true
  pub closing : list_all (λ b. not (eqb b 41)) text ≡ true

squares_some : (m : AnyMove) → 0 < length (text_of_move m)
squares_some m = omega arith

san_solid : (text : List ℕ) → is_san text ≡ true → IsSolid text
unfolding is_san
san_solid text h =
    let f = found (λ form. has_form form text) IsHigh forms all_high h in
    record {
      some = form_some f.0 text f.1.1.0 f.1.0;
      blank = form_solid 32 f.0 text (omega arith, (refl, refl)) f.1.1.1 f.1.0;
      opening = form_solid 40 f.0 text (omega arith, (refl, refl)) f.1.1.1 f.1.0;
      closing = form_solid 41 f.0 text (omega arith, (refl, refl)) f.1.1.1 f.1.0;
    }

squares_solid : (text : List ℕ) → AreSquares text → IsSolid text
squares_solid text a = subst IsSolid (sym a.is) (record {
  some = squares_some a.move;
  blank = move_solid 32 a.move (omega arith);
  opening = move_solid 40 a.move (omega arith);
  closing = move_solid 41 a.move (omega arith);
})

pub move_text_solid : (s : Spelling) (text : List ℕ) → IsMoveText s text → IsSolid text
move_text_solid Coordinates text h = squares_solid text h
move_text_solid San text h = san_solid text h

-- NO TEXT HAS BOTH SPELLINGS

-- bytes of which the first three are a file, a rank and a file, and a fourth follows
record AreFour (a b c : ℕ) : Type 0 where
  first_O : eqb 79 a ≡ false
  first_K : eqb 75 a ≡ false
  first_P : ((eqb a 81 || eqb a 82) || (eqb a 66 || eqb a 78)) ≡ false
  second_x : eqb 120 b ≡ false
  third_is : eqb 61 c ≡ false

off : (x y z : Bool) → z ≡ false → (x && (y && z)) ≡ false
off true true z e = e
off true false z e = refl
off false y z e = refl

late : (x y : Bool) → y ≡ false → (x && y) ≡ false
late true y e = e
late false y e = refl

four_no_san : (a b c d : ℕ) (text : List ℕ) → AreFour a b c → is_san (a ∷ b ∷ c ∷ d ∷ text) ≡ false
unfolding is_san
four_no_san a b c d text f = none (λ form. has_form form (a ∷ b ∷ c ∷ d ∷ text)) forms
    (rw f.first_O refl, (rw f.first_O refl, (off (is_between 97 104 a) (is_between 50 55 b) false refl, (rw f.second_x (late (is_between 97 104 a) false refl), (rw f.third_is (off (is_between 97 104 a) (eqb b 49 || eqb b 56) false refl), (rw f.second_x (late (is_between 97 104 a) false refl), (rw f.first_K refl, (rw f.first_K refl, (rw f.first_P refl, (rw f.first_P refl, (rw f.first_P refl, (rw f.first_P refl, (rw f.first_P refl, (rw f.first_P refl, (rw f.first_P refl, (rw f.first_P refl, tt))))))))))))))))

are_four : (f r g : ℕ) → f < 8 → r < 8 → g < 8 → AreFour (97 + f) (49 + r) (97 + g)
are_four f r g h i j = record {
  first_O = grind (arith, nat_tests);
  first_K = grind (arith, nat_tests);
  first_P = grind (arith, nat_tests);
  second_x = grind (arith, nat_tests);
  third_is = grind (arith, nat_tests);
}

squares_no_san : (m : AnyMove) → is_san (text_of_move m) ≡ false
squares_no_san m =
    four_no_san (97 + file_of m.from.index) (49 + rank_of_square m.from.index) (97 + file_of m.to.index) (49 + rank_of_square m.to.index) (promotion_text m.promotion)
    (are_four (file_of m.from.index) (rank_of_square m.from.index) (file_of m.to.index) (omega arith) (omega (arith, m.from.on_board)) (omega arith))

written_no_san : (text : List ℕ) (o : Option AnyMove) → written_move text ≡ o → is_san text ≡ true → is_some o ≡ false
written_no_san text None e h = refl
written_no_san text (Some m) e h = let other = ap is_san (written_move_is text m e).0 ∙ squares_no_san m in cc

pub no_both : (text : List ℕ) → is_san text ≡ true → is_some (written_move text) ≡ false
no_both text h = written_no_san text (written_move text) refl h

-- a form of which something is left is not that of a text that has ended
pub no_more : (form text rest : List ℕ) (i : ℕ) → i < length form → length rest < 1 → has_form (drop i form) rest ≡ has_form form text → false ≡ has_form form text
no_more form text [] i l m h = sym (ap (λ f. has_form f []) (drop_more form i 0 l)) ∙ h
no_more form text (b ∷ rest) i l m h = absurd (omega arith)

-- THE FORMS ONE BY ONE

sixteen : (a b c d e f g h i j k l m n o p : Bool)
    → (((a || b) || ((c || d) || (e || f))) || ((g || h) || (((i || j) || (k || l)) || ((m || n) || (o || p)))))
    ≡ (a || (b || (c || (d || (e || (f || (g || (h || (i || (j || (k || (l || (m || (n || (o || (p || false))))))))))))))))
sixteen a b c d e f g h i j k l m n o p = simp (or_assoc, or-false)

pub forms_joined : (t : List ℕ) → is_any_move t ≡ is_san t
unfolding is_san
forms_joined t =
    sixteen (has_form (codes "O-O") t) (has_form (codes "O-O-O") t) (has_form (codes "fi") t) (has_form (codes "fxfi") t) (has_form (codes "fe=P") t) (has_form (codes "fxfe=P") t) (has_form (codes "Kfr") t) (has_form (codes "Kxfr") t)
    (has_form (codes "Pfr") t) (has_form (codes "Pffr") t) (has_form (codes "Prfr") t) (has_form (codes "Pfrfr") t) (has_form (codes "Pxfr") t) (has_form (codes "Pfxfr") t) (has_form (codes "Prxfr") t) (has_form (codes "Pfrxfr") t)
