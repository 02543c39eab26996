-- The text written is read as it was meant.
use Rattle.std.proofs.Common.{◌≡◌, ◌≢◌, ℕ, ◌+◌, ◌*◌, ◌-◌, ◌/◌, ◌%◌, ◌<◌, ◌≤◌, List, [], ◌∷◌, ◌++◌, Bool, true, false, not, ◌&&◌, ◌||◌, cond, ◌==◌, Option, Some, None, refl, ap, sym, subst, ◌∙◌, arith, append_assoc, append-nil, ◌⊎◌, inl, inr}
use Rattle.std.specs.Prelude.{nat_le}
use Rattle.std.proofs.lemmas.Bool.Decides.{nat_tests}
use Rattle.std.specs.Str.{bytes_eq}
use mathlib.Core.Bool.{and-false}
use Rattle.chess_board.specs.declared.board.Kind.{Kind}
use Rattle.chess_board.specs.declared.board.Kind.TheVariants.{Pawn, Knight, Bishop, Rook, Queen, King}
use Rattle.chess_board.specs.Board.{file_of, rank_of_square, square_at}
use Rattle.chess_board.specs.Text.{IsOfficer}
use Rattle.san_text.specs.Writing.{letter, promotion_letters, file_letter, rank_digit}
use Rattle.san_text.specs.Spelling.{Target, SanSpelling, Goes, is_check_byte, unmarked, file_named, rank_named, kind_named, promotion_read, target_of, square_read, target_read, goes, first_of, rank_read, file_read, places_read, piece_read, is_short, is_long_castling, read_unmarked}
use Rattle.san_text.proofs.Unmarked.{keeps_other, drops_mark}
use Rattle.san_text.proofs.Bools.{differs}

pub file_small : (s : ℕ) → file_of s < 8
file_small s = omega arith

pub rank_small : (s : ℕ) → s < 64 → rank_of_square s < 8
rank_small s h = omega arith

pub square_again : (s : ℕ) → square_at (file_of s) (rank_of_square s) ≡ s
square_again s = omega arith

le_true : (a b : ℕ) → a ≤ b → nat_le a b ≡ true
le_true a b h = grind (arith, nat_tests)

le_false : (a b : ℕ) → b < a → nat_le a b ≡ false
le_false a b h = grind (arith, nat_tests)

named : (low high b n : ℕ) → low ≤ b → b ≤ high → b - low ≡ n → cond (nat_le low b && nat_le b high) (Some (b - low)) None ≡ Some n
named low high b n h i e = rw (le_true low b h, le_true b high i) (ap (λ k. Some k) e)

pub file_is : (f : ℕ) → f < 8 → file_named (97 + f) ≡ Some f
file_is f h = named 97 104 (97 + f) f (omega arith) (omega arith) (omega arith)

pub rank_is : (r : ℕ) → r < 8 → rank_named (49 + r) ≡ Some r
rank_is r h = named 49 56 (49 + r) r (omega arith) (omega arith) (omega arith)

-- a digit names no file, and a letter no rank
no_file : (r : ℕ) → r < 8 → file_named (49 + r) ≡ None
no_file r h = rw (le_false 97 (49 + r) (omega arith)) refl

no_rank : (b : ℕ) → 97 ≤ b → rank_named b ≡ None
no_rank b h = rw (le_false b 56 (omega arith), and-false (nat_le 49 b)) refl

abbrev pub target_text : ℕ → ℕ → Option Kind → List ℕ
target_text f r promotion = (97 + f) ∷ (49 + r) ∷ promotion_letters promotion

pub promotion_is : (promotion : Option Kind) → IsOfficer promotion → promotion_read (promotion_letters promotion) ≡ Some promotion
promotion_is None h = refl
promotion_is (Some Queen) h = refl
promotion_is (Some Rook) h = refl
promotion_is (Some Bishop) h = refl
promotion_is (Some Knight) h = refl
promotion_is (Some Pawn) h = absurd h
promotion_is (Some King) h = absurd h

square_is : (f r : ℕ) (promotion : Option Kind) → f < 8 → r < 8 → IsOfficer promotion → square_read (target_text f r promotion) ≡ Some (record { to = square_at f r; promotion = promotion })
square_is f r promotion h i o = rw (file_is f h, rank_is r i, promotion_is promotion o) refl

abbrev pub x_text : Bool → List ℕ
x_text takes = cond takes (120 ∷ []) []

-- the target after an optional `x`
abbrev pub tail : Bool → ℕ → ℕ → Option Kind → List ℕ
tail takes f r promotion = x_text takes ++ target_text f r promotion

abbrev pub target : ℕ → ℕ → Option Kind → Target
target f r promotion = record { to = square_at f r; promotion = promotion }

tail_is : (takes : Bool) (f r : ℕ) (promotion : Option Kind) → f < 8 → r < 8 → IsOfficer promotion → target_read (tail takes f r promotion) ≡ Some (target f r promotion)
tail_is true f r promotion h i o = square_is f r promotion h i o
tail_is false f r promotion h i o = rw (differs (97 + f) 120 (λ e. omega arith)) (square_is f r promotion h i o)

-- nothing begins with a file or a rank and goes on with the tail, but through them
not_file : (takes : Bool) (g f r : ℕ) (promotion : Option Kind) → g < 8 → f < 8 → target_read ((97 + g) ∷ tail takes f r promotion) ≡ None
not_file true g f r promotion h i = rw (differs (97 + g) 120 (λ e. omega arith), file_is g h) refl
not_file false g f r promotion h i = rw (differs (97 + g) 120 (λ e. omega arith), file_is g h, no_rank (97 + f) (omega arith)) refl

not_rank : (takes : Bool) (q f r : ℕ) (promotion : Option Kind) → q < 8 → target_read ((49 + q) ∷ tail takes f r promotion) ≡ None
not_rank true q f r promotion h = rw (differs (49 + q) 120 (λ e. omega arith), no_file q h) refl
not_rank false q f r promotion h = rw (differs (49 + q) 120 (λ e. omega arith), no_file q h) refl

no_promotion : (takes : Bool) (f r : ℕ) (promotion : Option Kind) → f < 8 → promotion_read (tail takes f r promotion) ≡ None
no_promotion true f r promotion h = refl
no_promotion false f r None h = rw (differs (97 + f) 61 (λ e. omega arith)) refl
no_promotion false f r (Some occupant) h = refl

not_both : (takes : Bool) (g q f r : ℕ) (promotion : Option Kind) → g < 8 → q < 8 → f < 8 → target_read ((97 + g) ∷ (49 + q) ∷ tail takes f r promotion) ≡ None
not_both takes g q f r promotion h i j = rw (differs (97 + g) 120 (λ e. omega arith), file_is g h, rank_is q i, no_promotion takes f r promotion j) refl

-- the places that are given, as a text
abbrev pub place_text : Option ℕ → Option ℕ → List ℕ
place_text None None = []
place_text None (Some q) = (49 + q) ∷ []
place_text (Some g) None = (97 + g) ∷ []
place_text (Some g) (Some q) = (97 + g) ∷ (49 + q) ∷ []

abbrev pub Below : Option ℕ → Type 0
Below None = Unit {0}
Below (Some n) = n < 8

pub places_are : (occupant : Kind) (file rank : Option ℕ) (takes : Bool) (f r : ℕ) (promotion : Option Kind) → Below file → Below rank → f < 8 → r < 8 → IsOfficer promotion
    → places_read occupant (place_text file rank ++ tail takes f r promotion) ≡ Some (Goes occupant file rank (target f r promotion))
places_are occupant None None takes f r promotion a b h i o = rw (tail_is takes f r promotion h i o) refl
places_are occupant (Some g) None takes f r promotion a b h i o = rw (not_file takes g f r promotion a h, file_is g a, tail_is takes f r promotion h i o) refl
places_are occupant None (Some q) takes f r promotion a b h i o = rw (not_rank takes q f r promotion b, no_file q b, rank_is q b, tail_is takes f r promotion h i o) refl
places_are occupant (Some g) (Some q) takes f r promotion a b h i o = rw (not_both takes g q f r promotion a b h, file_is g a, not_rank takes q f r promotion b, rank_is q b, tail_is takes f r promotion h i o) refl

-- a text that ends with no sign
abbrev pub EndsPlain : List ℕ → Type 0
EndsPlain xs = (prefix : List ℕ) × ((c : ℕ) × ((xs ≡ prefix ++ c ∷ []) × (is_check_byte c ≡ false)))

pub ends_behind : (xs ys : List ℕ) → EndsPlain ys → EndsPlain (xs ++ ys)
ends_behind xs ys e = (xs ++ e.0, (e.1.0, (ap (λ l. xs ++ l) e.1.1.0 ∙ sym (append_assoc xs e.0 (e.1.0 ∷ [])), e.1.1.1)))

digit_plain : (r : ℕ) → r < 8 → is_check_byte (49 + r) ≡ false
digit_plain r h = rw (differs (49 + r) 43 (λ e. omega arith), differs (49 + r) 35 (λ e. omega arith), differs (49 + r) 33 (λ e. omega arith), differs (49 + r) 63 (λ e. omega arith)) refl

target_plain : (f r : ℕ) (promotion : Option Kind) → r < 8 → IsOfficer promotion → EndsPlain (target_text f r promotion)
target_plain f r None h o = ((97 + f) ∷ [], (49 + r, (refl, digit_plain r h)))
target_plain f r (Some Queen) h o = ((97 + f) ∷ (49 + r) ∷ 61 ∷ [], (81, (refl, refl)))
target_plain f r (Some Rook) h o = ((97 + f) ∷ (49 + r) ∷ 61 ∷ [], (82, (refl, refl)))
target_plain f r (Some Bishop) h o = ((97 + f) ∷ (49 + r) ∷ 61 ∷ [], (66, (refl, refl)))
target_plain f r (Some Knight) h o = ((97 + f) ∷ (49 + r) ∷ 61 ∷ [], (78, (refl, refl)))
target_plain f r (Some Pawn) h o = absurd o
target_plain f r (Some King) h o = absurd o

-- a sign of check or mate is dropped
pub mark_dropped : (xs : List ℕ) → EndsPlain xs → (mark : List ℕ) → (mark ≡ []) ⊎ ((c : ℕ) × ((mark ≡ c ∷ []) × (is_check_byte c ≡ true))) → unmarked (xs ++ mark) ≡ xs
mark_dropped xs e mark (inl none) =
    ap (λ m. unmarked (xs ++ m)) none ∙ ap unmarked (append-nil xs ∙ e.1.1.0) ∙ keeps_other e.0 e.1.0 e.1.1.1 ∙ sym e.1.1.0
mark_dropped xs e mark (inr sign) =
    ap (λ m. unmarked (xs ++ m)) sign.1.0 ∙ drops_mark xs sign.0 sign.1.1 ∙ ap unmarked e.1.1.0 ∙ keeps_other e.0 e.1.0 e.1.1.1 ∙ sym e.1.1.0

pub tail_plain : (takes : Bool) (f r : ℕ) (promotion : Option Kind) → r < 8 → IsOfficer promotion → EndsPlain (tail takes f r promotion)
tail_plain true f r promotion h o = ends_behind (120 ∷ []) (target_text f r promotion) (target_plain f r promotion h o)
tail_plain false f r promotion h o = target_plain f r promotion h o
