-- The text of a reply is read as the reply.
use Rattle.std.proofs.Common.{◌≡◌, ℕ, ℤ, suc, ◌+◌, ◌^◌, ◌<◌, ◌≤◌, List, ◌∷◌, ◌++◌, true, false, not, ◌&&◌, eqb, ltb, leb, cond, length, drop, Option, Some, None, refl, ap, ◌∙◌, arith}
use Rattle.std.specs.Prelude.{position}
use Rattle.std.specs.List.{list_all, position_or_len}
use Rattle.std.specs.Fmt.{decimal, signed_decimal}
use Rattle.std.specs.Char.{is_ascii_digit}
use Rattle.std.proofs.lemmas.Bool.Decides.{nat_tests, Decides-eqb}
use Rattle.std.proofs.lemmas.List.{length-append}
use Rattle.std.proofs.Math.Seq.{take-append_seam, drop-append-add}
use Rattle.std.proofs.lemmas.Fmt.{decimal_is_IsNumeral}
use lib.IntN.{pos, negsuc}
use mir.Val.{SFits}
use mir.Syntax.{w64}
use Rattle.chess_board.specs.declared.board.Move.{Move as AnyMove}
use Rattle.chess_board.specs.declared.board.Kind.{Kind}
use Rattle.chess_board.specs.declared.board.Kind.TheVariants.{Pawn, Knight, Bishop, Rook, Queen, King}
use Rattle.chess_board.specs.Board.{file_of, rank_of_square}
use Rattle.chess_board.specs.Text.{text_of_move, promotion_text}
use Rattle.protocol_tokens.proofs.Runs.{all_of, prefix_whole, prefix_stops}
use Rattle.protocol_tokens.proofs.Written.{decimal_digits, no_sign}
use Rattle.cecp_engine_lines.specs.ReplyReading.{number_in_64_bits, positive_score, negative_score, written_signed, parts_at_space, cut_at, with_rest, field_of, number_field, score_field}
use Rattle.cecp_engine_lines.proofs.Plain.{decimal_written}

-- a text cut at the first byte of a kind
pub cut_position : (k : ℕ) (xs ys : List ℕ) → list_all (λ b. not (eqb b k)) xs ≡ true → position (λ b. eqb b k) (xs ++ (k ∷ ys)) ≡ Some (length xs)
cut_position k xs ys h =
    let stop : position_or_len (λ b. eqb b k) (xs ++ (k ∷ ys)) ≡ length xs = prefix_stops (λ b. not (eqb b k)) xs k ys h (rw ((Decides-eqb k k).1 refl) refl) in
    let within : length xs < length (xs ++ (k ∷ ys)) = omega (arith, length-append xs (k ∷ ys)) in
    let t : ltb (length xs) (length (xs ++ (k ∷ ys))) ≡ true = grind (arith, nat_tests) in
    rw (stop, t) refl

pub no_position : (k : ℕ) (xs : List ℕ) → list_all (λ b. not (eqb b k)) xs ≡ true → position (λ b. eqb b k) xs ≡ None
no_position k xs h =
    let whole : position_or_len (λ b. eqb b k) xs ≡ length xs = prefix_whole (λ b. not (eqb b k)) xs h in
    let t : ltb (length xs) (length xs) ≡ false = grind (arith, nat_tests) in
    rw (whole, t) refl

pub after_cut : (k : ℕ) (xs ys : List ℕ) → drop (length xs + 1) (xs ++ (k ∷ ys)) ≡ ys
after_cut k xs ys = drop-append-add xs (k ∷ ys) 1

field_reads : {A : Type 0} (read : List ℕ → Option A) (xs ys : List ℕ) (x : A) → list_all (λ b. not (eqb b 32)) xs ≡ true → read xs ≡ Some x → field_of read (parts_at_space (xs ++ (32 ∷ ys))) ≡ Some (x, ys)
field_reads read xs ys x h e =
    ap (λ o. field_of read (cut_at o (xs ++ (32 ∷ ys)))) (cut_position 32 xs ys h)
    ∙ ap (λ t. with_rest (read t) (drop (length xs + 1) (xs ++ (32 ∷ ys)))) (take-append_seam xs (32 ∷ ys))
    ∙ ap (λ o. with_rest o (drop (length xs + 1) (xs ++ (32 ∷ ys)))) e
    ∙ ap (λ r. Some (x, r)) (after_cut 32 xs ys)

no_space_digit : (c : ℕ) → is_ascii_digit c ≡ true → not (eqb c 32) ≡ true
no_space_digit c h = grind (arith, nat_tests)

pub decimal_solid : (n : ℕ) → n < 2 ^ 64 → list_all (λ b. not (eqb b 32)) (decimal n) ≡ true
decimal_solid n h = all_of is_ascii_digit (λ b. not (eqb b 32)) no_space_digit (decimal n) (decimal_digits n h)

pub number_reads : (n : ℕ) (more : List ℕ) → n < 2 ^ 64 → number_field (decimal n ++ (32 ∷ more)) ≡ Some (n, more)
number_reads n more h = field_reads number_in_64_bits (decimal n) more n (decimal_solid n h) (decimal_written n h)

-- SCORES

signed_reads : (z : ℤ) → SFits w64 z → written_signed (signed_decimal z) ≡ Some z
signed_reads (pos n) h =
    let low : n < 2 ^ 63 = omega (arith, h.sfits) in
    let wide : n < 2 ^ 64 = omega arith in
    let t : ltb n (2 ^ 63) ≡ true = grind (arith, nat_tests) in
    let sign = no_sign (decimal n) (decimal_is_IsNumeral n wide).0.0 (decimal_digits n wide) in
    ap (λ b. cond b (negative_score (number_in_64_bits (drop 1 (decimal n)))) (positive_score (number_in_64_bits (decimal n)))) sign
    ∙ ap positive_score (decimal_written n wide)
    ∙ ap (λ b. cond b (Some (pos n)) None) t
signed_reads (negsuc k) h =
    let low : suc k ≤ 2 ^ 63 = omega (arith, h.sfits) in
    let t : (leb 1 (suc k) && leb (suc k) (2 ^ 63)) ≡ true = grind (arith, nat_tests) in
    ap negative_score (decimal_written (suc k) (omega arith))
    ∙ ap (λ b. cond b (Some (negsuc k)) None) t

signed_solid : (z : ℤ) → SFits w64 z → list_all (λ b. not (eqb b 32)) (signed_decimal z) ≡ true
signed_solid (pos n) h = decimal_solid n (omega (arith, h.sfits))
signed_solid (negsuc k) h = decimal_solid (suc k) (omega (arith, h.sfits))

pub score_reads : (z : ℤ) (more : List ℕ) → SFits w64 z → score_field (signed_decimal z ++ (32 ∷ more)) ≡ Some (z, more)
score_reads z more h = field_reads written_signed (signed_decimal z) more z (signed_solid z h) (signed_reads z h)

-- MOVES

square_bytes : (k s : ℕ) → k < 49 → (not (eqb (97 + file_of s) k) ≡ true) × (not (eqb (49 + rank_of_square s) k) ≡ true)
square_bytes k s h = (grind (arith, nat_tests), grind (arith, nat_tests))

promotion_solid : (k : ℕ) (p : Option Kind) → k < 49 → list_all (λ b. not (eqb b k)) (promotion_text p) ≡ true
promotion_solid k None h = refl
promotion_solid k (Some Pawn) h = refl
promotion_solid k (Some King) h = refl
promotion_solid k (Some Queen) h = let t : eqb 113 k ≡ false = grind (arith, nat_tests) in rw t refl
promotion_solid k (Some Rook) h = let t : eqb 114 k ≡ false = grind (arith, nat_tests) in rw t refl
promotion_solid k (Some Bishop) h = let t : eqb 98 k ≡ false = grind (arith, nat_tests) in rw t refl
promotion_solid k (Some Knight) h = let t : eqb 110 k ≡ false = grind (arith, nat_tests) in rw t refl

-- a move's text has no byte below the digits
pub move_solid : (k : ℕ) (m : AnyMove) → k < 49 → list_all (λ b. not (eqb b k)) (text_of_move m) ≡ true
move_solid k m h =
    let a = square_bytes k m.from.index h in
    let b = square_bytes k m.to.index h in
    rw (a.0, a.1, b.0, b.1, promotion_solid k m.promotion h) refl
