-- The texts of the other fields are read as what they were written of.
use Rattle.std.proofs.Common.{◌≡◌, ℕ, ◌+◌, ◌-◌, ◌%◌, ◌^◌, ◌<◌, ◌≤◌, ◌⊎◌, inl, inr, List, [], ◌∷◌, ◌++◌, Bool, true, false, ltb, leb, length, decimal, Option, Some, None, is_some, cond, ◌||◌, refl, ap, subst, sym, length-append, ◌∙◌, arith, lit<}
use Rattle.std.proofs.lemmas.Bool.Decides.{nat_tests}
use Rattle.std.proofs.lemmas.Fmt.{decimal_is_IsNumeral, decimal_by_steps, decimal_nonempty, length-decimal-le}
use Rattle.std.proofs.lemmas.List.Folds.{list_all-append}
use Rattle.std.specs.Char.{is_ascii_digit}
use Rattle.std.specs.List.{list_all}
use Rattle.std.specs.Str.Parse.{digits_value}
use Rattle.chess_board.specs.declared.board.Side.{Side}
use Rattle.chess_board.specs.declared.board.Side.TheVariants.{White, Black}
use Rattle.chess_board.specs.declared.board.Rights.{Rights}
use Rattle.chess_board.specs.declared.board.Variant.{Variant}
use Rattle.chess_board.specs.declared.board.Variant.TheVariants.{Normal, Fischer}
use Rattle.chess_board.specs.declared.board.Wing.{Wing}
use Rattle.chess_board.specs.declared.board.Wing.TheVariants.{HSide, ASide}
use Rattle.chess_board.specs.Lawful.{BeginOn, PositionInvariant}
use Rattle.chess_board.specs.Position.{Position}
use Rattle.chess_board.specs.Board.{file_of, rank_of_square, square_at}
use Rattle.chess_board.specs.Rules.{corner_file, right_of, sixth_rank}
use Rattle.std.specs.Prelude.{IfSome}
use Rattle.fen_text.specs.Fields.{side_of, file_if, rights_of, en_passant_of, count_of, is_passed_square}
use Rattle.fen_text.specs.Written.{side_text, right_text, rights_text, AreFiles, en_passant_text}
use Rattle.fen_text.proofs.Cut.{Above, above-append, IsWord}

pub side_of-text : (side : Side) → side_of (side_text side) ≡ Some side
side_of-text White = refl
side_of-text Black = refl

pub word-side : (side : Side) → IsWord (side_text side)
word-side White = (omega arith, (omega arith, tt))
word-side Black = (omega arith, (omega arith, tt))

four : Bool → Bool → Bool → Bool → Rights
four wk wq bk bq = record { variant = Normal; wk = file_if wk 7; wq = file_if wq 0; bk = file_if bk 7; bq = file_if bq 0 }

rights_of-four : (wk wq bk bq : Bool) → rights_of (rights_text (four wk wq bk bq)) ≡ Some (four wk wq bk bq)
unfolding four
rights_of-four true true true true = refl
rights_of-four true true true false = refl
rights_of-four true true false true = refl
rights_of-four true true false false = refl
rights_of-four true false true true = refl
rights_of-four true false true false = refl
rights_of-four true false false true = refl
rights_of-four true false false false = refl
rights_of-four false true true true = refl
rights_of-four false true true false = refl
rights_of-four false true false true = refl
rights_of-four false true false false = refl
rights_of-four false false true true = refl
rights_of-four false false true false = refl
rights_of-four false false false true = refl
rights_of-four false false false false = refl

-- a right of normal chess is that of the corner
corner_right : (p : Position) → PositionInvariant p → p.rights.variant ≡ Normal → (side : Side) (wing : Wing) (right : Option ℕ) → right_of p.rights side wing ≡ right → right ≡ file_if (is_some right) (corner_file wing)
corner_right p is normal side wing None held = refl
corner_right p is normal side wing (Some rook) held =
    let home = is.rights side wing rook held in
    let begin : BeginOn Normal wing home.king rook = subst (λ (v : Variant). BeginOn v wing home.king rook) normal home.begin in
    ap Some begin.1

five : Variant → Option ℕ → Option ℕ → Option ℕ → Option ℕ → Rights
five variant wk wq bk bq = record { variant = variant; wk = wk; wq = wq; bk = bk; bq = bq }

corners : (p : Position) → PositionInvariant p → p.rights.variant ≡ Normal → p.rights ≡ four (is_some p.rights.wk) (is_some p.rights.wq) (is_some p.rights.bk) (is_some p.rights.bq)
unfolding four five
corners p is normal =
    let wk = corner_right p is normal White HSide p.rights.wk refl in
    let wq = corner_right p is normal White ASide p.rights.wq refl in
    let bk = corner_right p is normal Black HSide p.rights.bk refl in
    let bq = corner_right p is normal Black ASide p.rights.bq refl in
    let whole : five p.rights.variant p.rights.wk p.rights.wq p.rights.bk p.rights.bq
    ≡ five Normal (file_if (is_some p.rights.wk) 7) (file_if (is_some p.rights.wq) 0) (file_if (is_some p.rights.bk) 7) (file_if (is_some p.rights.bq) 0) =
    ap (λ (v : Variant). five v p.rights.wk p.rights.wq p.rights.bk p.rights.bq) normal
    ∙ ap (λ (r : Option ℕ). five Normal r p.rights.wq p.rights.bk p.rights.bq) wk
    ∙ ap (λ (r : Option ℕ). five Normal (file_if (is_some p.rights.wk) 7) r p.rights.bk p.rights.bq) wq
    ∙ ap (λ (r : Option ℕ). five Normal (file_if (is_some p.rights.wk) 7) (file_if (is_some p.rights.wq) 0) r p.rights.bq) bk
    ∙ ap (λ (r : Option ℕ). five Normal (file_if (is_some p.rights.wk) 7) (file_if (is_some p.rights.wq) 0) (file_if (is_some p.rights.bk) 7) r) bq in
    whole

pub rights_of-text : (p : Position) → PositionInvariant p → p.rights.variant ≡ Normal → rights_of (rights_text p.rights) ≡ Some p.rights
rights_of-text p is normal =
    subst (λ (r : Rights). rights_of (rights_text r) ≡ Some r) (sym (corners p is normal)) (rights_of-four (is_some p.rights.wk) (is_some p.rights.wq) (is_some p.rights.bk) (is_some p.rights.bq))

above-right : (variant : Variant) (wing a : ℕ) (right : Option ℕ) → 32 < wing → 32 < a → Above 32 (right_text variant wing a right)
above-right variant wing a None h l = tt
above-right Normal wing a (Some file) h l = (h, tt)
above-right Fischer wing a (Some file) h l = (omega arith, tt)

above-letters : (variant : Variant) (wk wq bk bq : Option ℕ) → Above 32 (right_text variant 75 65 wk ++ (right_text variant 81 65 wq ++ (right_text variant 107 97 bk ++ right_text variant 113 97 bq)))
above-letters variant wk wq bk bq =
    above-append 32 (right_text variant 75 65 wk) _ (above-right variant 75 65 wk (omega arith) (omega arith))
    (above-append 32 (right_text variant 81 65 wq) _ (above-right variant 81 65 wq (omega arith) (omega arith))
    (above-append 32 (right_text variant 107 97 bk) _ (above-right variant 107 97 bk (omega arith) (omega arith)) (above-right variant 113 97 bq (omega arith) (omega arith))))

one_letter : (variant : Variant) (wing a file : ℕ) → length (right_text variant wing a (Some file)) ≡ 1
one_letter Normal wing a file = refl
one_letter Fischer wing a file = refl

pub some_letters : (variant : Variant) (wk wq bk bq : Option ℕ) → ((is_some wk || is_some wq) || (is_some bk || is_some bq)) ≡ true →
    0 < length (right_text variant 75 65 wk ++ (right_text variant 81 65 wq ++ (right_text variant 107 97 bk ++ right_text variant 113 97 bq)))
some_letters variant (Some f) wq bk bq e = let n = one_letter variant 75 65 f in simp length-append (omega arith)
some_letters variant None (Some f) bk bq e = let n = one_letter variant 81 65 f in simp length-append (omega arith)
some_letters variant None None (Some f) bq e = let n = one_letter variant 107 97 f in simp length-append (omega arith)
some_letters variant None None None (Some f) e = let n = one_letter variant 113 97 f in omega arith
some_letters variant None None None None e = absurd (cc)

pub word-rights : (rights : Rights) → IsWord (rights_text rights)
word-rights rights =
    let any = (is_some rights.wk || is_some rights.wq) || (is_some rights.bk || is_some rights.bq) in
    let letters = right_text rights.variant 75 65 rights.wk ++ (right_text rights.variant 81 65 rights.wq ++ (right_text rights.variant 107 97 rights.bk ++ right_text rights.variant 113 97 rights.bq)) in
    elim any as (λ v. any ≡ v → IsWord (cond v letters (45 ∷ []))) [
      | true ↦ λ e. (some_letters rights.variant rights.wk rights.wq rights.bk rights.bq e, above-letters rights.variant rights.wk rights.wq rights.bk rights.bq)
      | false ↦ λ _. (omega arith, (omega arith, tt))
    ] refl

-- each right of a position is a file
file_in : (p : Position) → PositionInvariant p → (side : Side) (wing : Wing) (right : Option ℕ) → right_of p.rights side wing ≡ right → IfSome right (λ file. file < 8)
file_in p is side wing None held = tt
file_in p is side wing (Some rook) held = (is.rights side wing rook held).inside

pub are_files : (p : Position) → PositionInvariant p → AreFiles p.rights
are_files p is = record {
  wk = file_in p is White HSide p.rights.wk refl;
  wq = file_in p is White ASide p.rights.wq refl;
  bk = file_in p is Black HSide p.rights.bk refl;
  bq = file_in p is Black ASide p.rights.bq refl;
}

pub word-passant : (passant : Option ℕ) → IsWord (en_passant_text passant)
word-passant None = (omega arith, (omega arith, tt))
word-passant (Some at) = (omega arith, (omega arith, (omega arith, tt)))

-- a pawn passed only a square of these ranks
sixth : (side : Side) (rank : ℕ) → rank ≡ sixth_rank side → (rank ≡ 5) ⊎ (rank ≡ 2)
sixth White rank e = inl e
sixth Black rank e = inr e

passed_text : (at : ℕ) → (rank_of_square at ≡ 5) ⊎ (rank_of_square at ≡ 2) → is_passed_square (97 + file_of at) (49 + rank_of_square at) ≡ true
passed_text at (inl e) = grind (arith, nat_tests)
passed_text at (inr e) = grind (arith, nat_tests)

square_back : (at : ℕ) → square_at ((97 + file_of at) - 97) ((49 + rank_of_square at) - 49) ≡ at
square_back at = omega arith

pub passant_of-text : (side : Side) (passant : Option ℕ) → IfSome passant (λ at. rank_of_square at ≡ sixth_rank side) → en_passant_of (en_passant_text passant) ≡ Some passant
passant_of-text side None e = refl
passant_of-text side (Some at) e = rw (passed_text at (sixth side (rank_of_square at) e), square_back at) refl

digit : (n : ℕ) → n < 10 → is_ascii_digit (48 + n) ≡ true
digit n h = grind (arith, nat_tests)

AreDigits : ℕ → List ℕ → Type 0
AreDigits n ds = (list_all is_ascii_digit ds ≡ true) × Above 32 ds

digits-decimal : (n : ℕ) → n < 2 ^ 64 → AreDigits n (decimal n)
unfolding AreDigits
digits-decimal n h = decimal_by_steps AreDigits
    (λ m l. (rw (digit m l) refl, (omega arith, tt)))
    (λ m ds l d.
    let last : is_ascii_digit (48 + m % 10) ≡ true = digit (m % 10) (omega arith) in
    (list_all-append is_ascii_digit ds ((48 + m % 10) ∷ []) ∙ rw (d.0, last) refl, above-append 32 ds ((48 + m % 10) ∷ []) d.1 (omega arith, tt)))
    n h

pub word-count : (n : ℕ) → n < 2 ^ 64 → IsWord (decimal n)
unfolding AreDigits
word-count n h = (decimal_nonempty n h, (digits-decimal n h).1)

pub count_of-text : (n : ℕ) → n ≤ 99999 → count_of (decimal n) ≡ Some n
unfolding AreDigits
count_of-text n h =
    let wide : n < 2 ^ 64 = omega arith in
    let some : 0 < length (decimal n) = decimal_nonempty n wide in
    let few : length (decimal n) ≤ 5 = length-decimal-le 5 n (lit< tt) (omega arith) wide in
    let a : leb (length (decimal n)) 5 ≡ true = grind (arith, nat_tests) in
    let b : ltb 0 (length (decimal n)) ≡ true = grind (arith, nat_tests) in
    let d = (digits-decimal n wide).0 in
    let v : digits_value 10 (decimal n) ≡ n = (decimal_is_IsNumeral n wide).1 in
    rw (b, a, d, v) refl
