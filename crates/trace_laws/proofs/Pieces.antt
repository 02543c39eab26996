-- Texts without a line feed, put together of pieces.
use Rattle.std.proofs.Common.{◌≡◌, ℕ, suc, ◌+◌, ◌<◌, ◌≤◌, List, [], ◌∷◌, ◌++◌, length, Bool, true, false, not, cond, ◌&&◌, ◌||◌, Option, Some, None, decimal, refl, ◌∙◌, arith, length-append}
use Rattle.std.specs.Prelude.{ℤ, pos, negsuc}
use Rattle.std.specs.List.{AllByRecursion}
use Rattle.std.specs.Char.{is_ascii_digit}
use Rattle.std.specs.Fmt.{signed_decimal}
use Rattle.std.proofs.lemmas.Bool.Decides.{nat_tests}
use Rattle.std.proofs.lemmas.List.Folds.{list_all-append}
use Rattle.std.proofs.lemmas.Bool.{and_from}
use Rattle.line_io.specs.Event.{has_feed}
use Rattle.line_io.specs.Lines.{is_feed}
use Rattle.chess_board.specs.declared.board.Kind.{Kind}
use Rattle.chess_board.specs.declared.board.Kind.TheVariants.{Pawn, Knight, Bishop, Rook, Queen, King}
use Rattle.chess_board.specs.declared.board.Move.{Move}
use Rattle.chess_board.specs.Board.{file_of, rank_of_square}
use Rattle.chess_board.specs.Text.{text_of_move, promotion_text}
use Rattle.chess_board.proofs.TextLengths.{move_length}
use Rattle.protocol_tokens.proofs.Runs.{all_of}
use Rattle.option_map.proofs.DeclaredOptions.Values.{no_feed, IsPart}
use Rattle.trace_laws.specs.OneLine.{IsOneLogLine}
use Rattle.trace_laws.proofs.Numerals.{numeral}

pub both_bare : (a b : List ℕ) → no_feed a ≡ true → no_feed b ≡ true → no_feed (a ++ b) ≡ true
both_bare a b e f = list_all-append (λ x. not (is_feed x)) a b ∙ and_from (no_feed a) (no_feed b) e f

pub joined : {m n : ℕ} (a b : List ℕ) → IsPart m a → IsPart n b → IsPart (m + n) (a ++ b)
joined {m} {n} a b p q = record { line = both_bare a b p.line q.line; short = omega (arith, length-append a b, p.short, q.short) }

pub wide : {m : ℕ} (n : ℕ) (t : List ℕ) → IsPart m t → m ≤ n → IsPart n t
wide {m} n t p l = record { line = p.line; short = omega (arith, p.short, l) }

pub either_part : {n : ℕ} (w : Bool) (a b : List ℕ) → IsPart n a → IsPart n b → IsPart n (cond w a b)
either_part true a b p q = p
either_part false a b p q = q

pub none_part : (n : ℕ) → IsPart n []
none_part n = record { line = refl; short = omega arith }

-- NUMBERS

digit_bare : (c : ℕ) → is_ascii_digit c ≡ true → not (is_feed c) ≡ true
digit_bare c h = grind (arith, nat_tests)

pub number_part : (n : ℕ) → IsPart 64 (decimal n)
number_part n = let d = numeral n in record { line = all_of is_ascii_digit (λ b. not (is_feed b)) digit_bare (decimal n) d.all; short = d.few }

pub signed_part : (z : ℤ) → IsPart 65 (signed_decimal z)
signed_part (pos n) = wide 65 (decimal n) (number_part n) (omega arith)
signed_part (negsuc n) = joined {m = 1} {n = 64} (45 ∷ []) (decimal (suc n)) (record { line = refl; short = omega arith }) (number_part (suc n))

-- words and a number after a text
pub numbered : {n : ℕ} (prefix words : List ℕ) (k : ℕ) → no_feed words ≡ true → length words ≤ 20 → IsPart n prefix → IsPart (n + 84) ((prefix ++ words) ++ decimal k)
numbered {n} prefix words k w s p =
    let both : IsPart (n + 20) (prefix ++ words) = joined prefix words p (record { line = w; short = s }) in
    wide (n + 84) ((prefix ++ words) ++ decimal k) (joined (prefix ++ words) (decimal k) both (number_part k)) (omega arith)

-- MOVES

pub high_bare : (n k : ℕ) → 10 < n → not (is_feed (n + k)) ≡ true
high_bare n k h = grind (arith, nat_tests)

promotion_bare : (p : Option Kind) → no_feed (promotion_text p) ≡ true
promotion_bare None = refl
promotion_bare (Some Pawn) = refl
promotion_bare (Some King) = refl
promotion_bare (Some Queen) = refl
promotion_bare (Some Rook) = refl
promotion_bare (Some Bishop) = refl
promotion_bare (Some Knight) = refl

-- the text of a move, by the numbers of its squares
pub squares_bare : (from to : ℕ) (promotion : Option Kind) → no_feed ((97 + file_of from) ∷ (49 + rank_of_square from) ∷ (97 + file_of to) ∷ (49 + rank_of_square to) ∷ promotion_text promotion) ≡ true
squares_bare from to promotion =
    rw (high_bare 97 (file_of from) (omega arith), high_bare 49 (rank_of_square from) (omega arith), high_bare 97 (file_of to) (omega arith), high_bare 49 (rank_of_square to) (omega arith), promotion_bare promotion) refl

pub move_part : (m : Move) → IsPart 5 (text_of_move m)
move_part m = record { line = squares_bare m.from.index m.to.index m.promotion; short = move_length m }

-- ONE LINE

feedless : (t : List ℕ) → no_feed t ≡ true → has_feed t ≡ false
feedless [] h = refl
feedless (b ∷ bs) h = first (is_feed b) (no_feed bs) (has_feed bs) h (feedless bs) where
  first : (w x y : Bool) → (not w && x) ≡ true → (x ≡ true → y ≡ false) → (w || y) ≡ false
  first true x y e f = cc
  first false x y e f = f e

pub one_line : {n : ℕ} (t : List ℕ) → IsPart n t → n ≤ 131070 → IsOneLogLine t
one_line {n} t p l = record { no_feed = feedless t p.line; short = omega (arith, p.short, l) }

-- LISTS

pub all_both : {A : Type 0} (P : A → Type 0) (xs ys : List A) → AllByRecursion P xs → AllByRecursion P ys → AllByRecursion P (xs ++ ys)
all_both P [] ys a b = b
all_both P (x ∷ xs) ys a b = (a.0, all_both P xs ys a.1 b)

pub all_where : {A : Type 0} (P : A → Type 0) (w : Bool) (xs ys : List A) → AllByRecursion P xs → AllByRecursion P ys → AllByRecursion P (cond w xs ys)
all_where P true xs ys a b = a
all_where P false xs ys a b = b
