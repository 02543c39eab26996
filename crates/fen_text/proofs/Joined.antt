-- Squares one after the other, and the pieces of ranks.
use Rattle.std.proofs.Common.{◌≡◌, ℕ, suc, zero, ◌+◌, ◌-◌, ◌<◌, ◌≤◌, List, [], ◌∷◌, ◌++◌, true, false, eqb, length, drop, get_or, Option, Some, None, refl, ap, ◌∙◌, arith, append_assoc, length-append, append-nil, sym, Result, Ok, Err}
use Rattle.std.proofs.Math.Seq.{drop-cons}
use Rattle.std.proofs.lemmas.Bool.Decides.{nat_tests}
use Rattle.std.proofs.lemmas.Option.{get_or_from_slice_get}
use Rattle.std.proofs.lemmas.Bool.{ne_eqb}
use Rattle.std.proofs.lemmas.List.{drop_all}
use Rattle.std.specs.Prelude.{◌↔◌, IsOk, IfOk}
use Rattle.std.specs.Result.{result_ok}
use Rattle.std.specs.List.{slice_get}
use Rattle.chess_board.specs.Board.{Pieces}
use Rattle.fen_text.specs.Squares.{pieces_if_both, exactly, HasMoreThan, squares_of, squares_in, rank_in_text, pieces_on_ranks}

pub joined-assoc : (a b c : Option Pieces) → pieces_if_both (pieces_if_both a b) c ≡ pieces_if_both a (pieces_if_both b c)
joined-assoc None b c = refl
joined-assoc (Some x) None c = refl
joined-assoc (Some x) (Some y) None = refl
joined-assoc (Some x) (Some y) (Some z) = ap Some (append_assoc x y z)

pub joined-none : (a : Option Pieces) → pieces_if_both a None ≡ None
joined-none None = refl
joined-none (Some x) = refl

pub joined-first : (a : Option Pieces) → pieces_if_both (Some []) a ≡ a
joined-first None = refl
joined-first (Some x) = refl

pub joined-nothing : (a : Option Pieces) → pieces_if_both a (Some []) ≡ a
joined-nothing None = refl
joined-nothing (Some x) = ap Some (append-nil x)

more_than : (m n k : ℕ) → n < m → eqb (m + k) n ≡ false
more_than m n k h = grind (arith, nat_tests)

-- what follows makes it no fewer
pub too_many : (n : ℕ) (a b : Option Pieces) → HasMoreThan n a → exactly n (pieces_if_both a b) ≡ None
too_many n None b h = refl
too_many n (Some x) None h = refl
too_many n (Some x) (Some y) h =
    let e : eqb (length (x ++ y)) n ≡ false = rw length-append (more_than (length x) n (length y) h) in
    rw e refl

pub squares_first : (bytes : List ℕ) (i : ℕ) → i < length bytes → squares_in (drop i bytes) ≡ pieces_if_both (squares_of (get_or bytes i 0)) (squares_in (drop (i + 1) bytes))
squares_first bytes i h =
    let n : i + 1 ≡ suc i = omega arith in
    rw (n, drop-cons bytes i 0) refl

-- the squares of one more byte
pub row_more : (bytes : List ℕ) (i : ℕ) (old new : Pieces) → i < length bytes → pieces_if_both (Some old) (squares_of (get_or bytes i 0)) ≡ Some new → pieces_if_both (Some old) (squares_in (drop i bytes)) ≡ squares_in bytes → pieces_if_both (Some new) (squares_in (drop (i + 1) bytes)) ≡ squares_in bytes
row_more bytes i old new h put e =
    ap (λ (row : Option Pieces). pieces_if_both row (squares_in (drop (i + 1) bytes))) (sym put)
    ∙ joined-assoc (Some old) (squares_of (get_or bytes i 0)) (squares_in (drop (i + 1) bytes))
    ∙ ap (pieces_if_both (Some old)) (sym (squares_first bytes i h))
    ∙ e

-- a byte whose squares are too many, or that stands for none
pub row_lost : (bytes : List ℕ) (i : ℕ) (old : Pieces) → i < length bytes → HasMoreThan 8 (pieces_if_both (Some old) (squares_of (get_or bytes i 0))) → pieces_if_both (Some old) (squares_in (drop i bytes)) ≡ squares_in bytes → rank_in_text bytes ≡ None
row_lost bytes i old h more e =
    ap (exactly 8) (sym e ∙ ap (pieces_if_both (Some old)) (squares_first bytes i h) ∙ sym (joined-assoc (Some old) (squares_of (get_or bytes i 0)) (squares_in (drop (i + 1) bytes))))
    ∙ too_many 8 (pieces_if_both (Some old) (squares_of (get_or bytes i 0))) (squares_in (drop (i + 1) bytes)) more

-- once every byte is read
pub row_done : (bytes : List ℕ) (i : ℕ) (row : Pieces) → length bytes ≤ i → pieces_if_both (Some row) (squares_in (drop i bytes)) ≡ squares_in bytes → exactly 8 (Some row) ≡ rank_in_text bytes
row_done bytes i row h e =
    ap (exactly 8) (sym (joined-nothing (Some row)) ∙ ap (λ (rest : List ℕ). pieces_if_both (Some row) (squares_in rest)) (sym (drop_all i bytes h)) ∙ e)

-- a row is taken whole if it is full
pub full_row : {E : Type 0} (row : Pieces) (taken : Result Pieces E) → (IsOk taken ↔ (length row ≡ 8)) → IfOk taken (λ whole. whole ≡ row) → result_ok taken ≡ exactly 8 (Some row)
full_row row (Ok whole) full same =
    let eight : length row ≡ 8 = full.0 refl in
    rw eight (ap Some same)
full_row row (Err other) full same =
    let short : eqb (length row) 8 ≡ false = ne_eqb (length row) 8 (λ eight. let no : false ≡ true = full.1 eight in cc) in
    rw short refl

-- if the lower ranks have no pieces, the whole has none
pub pieces_lost : (ranks : List (List ℕ)) (i : ℕ) → pieces_on_ranks (drop i ranks) ≡ None → pieces_on_ranks ranks ≡ None
pieces_lost ranks zero e = e
pieces_lost [] (suc i) e = e
pieces_lost (upper ∷ lower) (suc i) e = rw (pieces_lost lower i e) refl

-- one more rank, of eight
pub lower_more : (ranks : List (List ℕ)) (k : ℕ) (upper : List ℕ) → length ranks ≡ 8 → k < 8 → slice_get ranks (7 - k) ≡ Some upper → pieces_on_ranks (drop (8 - (k + 1)) ranks) ≡ pieces_if_both (pieces_on_ranks (drop (8 - k) ranks)) (rank_in_text upper)
lower_more ranks k upper eight h at =
    let i : 8 - (k + 1) ≡ 7 - k = omega arith in
    let n : suc (7 - k) ≡ 8 - k = omega arith in
    let l : 7 - k < length ranks = omega arith in
    let g : get_or ranks (7 - k) [] ≡ upper = get_or_from_slice_get ranks (7 - k) upper [] at in
    let d : drop (7 - k) ranks ≡ upper ∷ drop (8 - k) ranks =
    drop-cons ranks (7 - k) [] l ∙ ap (λ x. x ∷ drop (suc (7 - k)) ranks) g ∙ ap (λ m. upper ∷ drop m ranks) n in
    ap (λ m. pieces_on_ranks (drop m ranks)) i ∙ ap pieces_on_ranks d
