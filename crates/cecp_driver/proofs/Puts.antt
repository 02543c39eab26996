-- Lines that are put one after the other.
use Rattle.std.proofs.Common.{◌≡◌, ℕ, List, [], ◌∷◌, ◌++◌, Bool, true, false, None, refl, sym, ap, ◌∙◌, append_assoc, append-nil}
use Rattle.std.specs.Bool.{Decides}
use Rattle.std.specs.Prelude.{codes}
use Rattle.line_io.specs.Out.{Text, with}
use Rattle.line_io.proofs.Puts.{put_none, put_two}
use Rattle.chess_board.specs.Position.{Position}
use Rattle.chess_board.specs.Play.{start_position}
use Rattle.game_record.specs.Game.{Ply, Game}
use Rattle.game_record.proofs.Lines.{standard_test}
use Rattle.driver_state_machine.specs.Lines.{DownLine, New, Force, Post, SetBoard, driver_line_text, lines_text}
use Rattle.cecp_driver.specs.SetUp.{SentGame, continued, ply_lines, start_lines, setup_lines}

pub two_lines : (o a b : Text) (x y : List ℕ) → a ≡ with o x → b ≡ with a y → b ≡ with o (x ++ (y ++ []))
two_lines o a b x y e f = put_two o a b x y e f ∙ ap (λ (t : List ℕ). with o (x ++ t)) (sym (append-nil y))

pub one_line : (o a : Text) (x : List ℕ) → a ≡ with o x → a ≡ with o (x ++ [])
one_line o a x e = e ∙ ap (with o) (sym (append-nil x))

pub set_line : (o a b c : Text) (t items w : List ℕ) → t ≡ items → items ≡ w → a ≡ with o (codes "setboard ") → b ≡ with a t → c ≡ with b (10 ∷ []) → c ≡ with o ((codes "setboard " ++ w) ++ 10 ∷ [])
set_line o a b c t items w e f p q r = put_two o b c (codes "setboard " ++ t) (10 ∷ []) (put_two o a b (codes "setboard ") t p q) r ∙ ap (λ (x : List ℕ). with o ((codes "setboard " ++ x) ++ 10 ∷ [])) (e ∙ f)

-- nothing is put for the standard start
pub start_none : (o : Text) (b : Bool) (p : Position) → Decides b (p ≡ start_position) → b ≡ true → o ≡ with o (lines_text (start_lines p))
start_none o b p d e = rw (standard_test b p d ∙ e) (put_none o)

pub start_line : (o a : Text) (b : Bool) (p : Position) → Decides b (p ≡ start_position) → b ≡ false → a ≡ with o (driver_line_text (SetBoard p)) → a ≡ with o (lines_text (start_lines p))
start_line o a b p d e f = rw (standard_test b p d ∙ e) (one_line o a (driver_line_text (SetBoard p)) f)

pub lines_append : (a b : List DownLine) → lines_text (a ++ b) ≡ lines_text a ++ lines_text b
lines_append [] b = refl
lines_append (l ∷ ls) b = ap (λ (t : List ℕ). driver_line_text l ++ t) (lines_append ls b) ∙ sym (append_assoc (driver_line_text l) (lines_text ls) (lines_text b))

pub new_setup : (o a b c d e : Text) (s : Position) (has_usermove : Bool) (g : Game) (moves : List Ply) → a ≡ with o (driver_line_text New) → b ≡ with a (driver_line_text Force) → c ≡ with b (driver_line_text Post)
    → d ≡ with c (lines_text (start_lines s)) → s ≡ g.start → e ≡ with d (lines_text (ply_lines has_usermove moves)) → moves ≡ g.moves → e ≡ with o (lines_text (setup_lines None has_usermove g))
new_setup o a b c d e s has_usermove g moves ea eb ec ed es ee em =
    put_two o a e (driver_line_text New) _ ea (put_two a b e (driver_line_text Force) _ eb (put_two b c e (driver_line_text Post) _ ec (put_two c d e (lines_text (start_lines s)) (lines_text (ply_lines has_usermove moves)) ed ee)))
    ∙ ap (λ (t : List ℕ). with o (driver_line_text New ++ (driver_line_text Force ++ (driver_line_text Post ++ t))))
    (sym (lines_append (start_lines s) (ply_lines has_usermove moves)) ∙ ap (λ (p : Position). lines_text (start_lines p ++ ply_lines has_usermove moves)) es ∙ ap (λ (ms : List Ply). lines_text (start_lines g.start ++ ply_lines has_usermove ms)) em)

pub setup_then : (o a b : Text) (sent_game : SentGame) (g : Game) (has_usermove deep deep' : Bool) (ls : List DownLine) → deep ≡ deep' → a ≡ with o (lines_text (setup_lines (continued sent_game g deep) has_usermove g)) → b ≡ with a (lines_text ls)
    → b ≡ with o (lines_text (setup_lines (continued sent_game g deep') has_usermove g ++ ls))
setup_then o a b sent_game g has_usermove deep deep' ls e f h =
    put_two o a b _ (lines_text ls) (f ∙ ap (λ (x : Bool). with o (lines_text (setup_lines (continued sent_game g x) has_usermove g))) e) h
    ∙ ap (with o) (sym (lines_append (setup_lines (continued sent_game g deep') has_usermove g) ls))
