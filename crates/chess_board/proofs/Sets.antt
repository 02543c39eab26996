-- The pieces of a board and its sets: each gives the other.
use Rattle.std.proofs.Common.{◌≡◌, ◌≢◌, ◌^◌, ◌%◌, ◌*◌, ◌<◌, ◌-◌, ◌==◌, ◌||◌, ◌&&◌, ℕ, zero, suc, Bool, true, false, cond, if◌then◌else◌, refl, sym, ap, subst, arith, ◌∙◌, ⊎_elim, Some, None, [], ◌∷◌, map, length, get_or, set, get_or-set_other, w64, max, min, not, count_by, count_ones}
use Rattle.std.specs.Int.{bit_at}
use Rattle.std.specs.Int.Bits.{bit_or, bit_and}
use Rattle.std.proofs.lemmas.List.{same_lists, get_or-set_same, length-map, length-set}
use Rattle.std.proofs.Math.ListN.{get_or-map}
use Rattle.std.proofs.lemmas.List.FromFn.{get_or-map-range_with_len, length-map-range_with_len}
use Rattle.std.proofs.lemmas.Nat.Bits.{bit_at-lt, same_from_bits_below, bit_at_or, bit_at_and, bit_at_set_same, bit_at_set_other, bit_at_clear_same, bit_at_clear_other, bit_at_not}
use Rattle.std.proofs.lemmas.Simd.{bit_mask_l, mask_l-lt, ones-mask_l}
use Rattle.std.proofs.lemmas.Bool.{eq-eqb, eqb-true, cases_eq, false_from_ne_true}
use Rattle.chess_board.specs.declared.board.Side.{Side}
use Rattle.chess_board.specs.declared.board.Side.TheVariants.{White, Black}
use Rattle.chess_board.specs.declared.board.Kind.{Kind}
use Rattle.chess_board.specs.declared.board.Kind.TheVariants.{Pawn, Knight, Bishop, Rook, Queen, King}
use Rattle.chess_board.specs.declared.pieces.Board.TheInside.{Inside}
use Rattle.chess_board.specs.Board.{Occupant, Pieces, piece_at, is_of_side, is_king, is_king_kind, same_side, squares}
use Rattle.chess_board.specs.Play.{is_piece, is_minor}
use Rattle.chess_board.specs.Reach.{has}
use Rattle.chess_board.specs.Sets.{same_board_kind, is_a, kind_by_tests, piece_by, piece_by_sets, pieces_by_sets, set_of, sets_of, AreSets}

pub get_or-other : (pieces : Pieces) (k : ℕ) (d e : Occupant) → k < length pieces → get_or pieces k d ≡ get_or pieces k e
get_or-other [] k d e low = absurd (omega arith)
get_or-other (x ∷ pieces) zero d e low = refl
get_or-other (x ∷ pieces) (suc k) d e low = get_or-other pieces k d e (omega arith)

pub man_at-men_of : (a : Inside) (s : ℕ) → s < 64 → piece_at (pieces_by_sets a) s ≡ piece_by_sets a s
unfolding squares
man_at-men_of a s low = get_or-map-range_with_len (piece_by_sets a) 0 64 s s None low (omega arith)

pub length-men_of : (a : Inside) → length (pieces_by_sets a) ≡ 64
unfolding squares
length-men_of a = length-map-range_with_len (piece_by_sets a) 0 64

bit_back : (b : Bool) → (cond b 1 0 == 1) ≡ b
bit_back true = refl
bit_back false = refl

-- a set of pieces has the squares of those that pass the test
pub has-set_of : (test : Occupant → Bool) → test None ≡ false → (pieces : Pieces) (s : ℕ) → has (set_of test pieces) s ≡ test (piece_at pieces s)
has-set_of test none pieces s =
    let bit = ap (λ (n : ℕ). n == 1) (bit_mask_l (map test pieces) s) in
    let lane : get_or (map test pieces) s false ≡ test (piece_at pieces s) = subst (λ (v : Bool). get_or (map test pieces) s v ≡ test (piece_at pieces s)) none (get_or-map test pieces s None) in
    bit ∙ bit_back (get_or (map test pieces) s false) ∙ lane

same_bit : (x y : ℕ) → x < 2 → y < 2 → (x == 1) ≡ (y == 1) → x ≡ y
same_bit zero zero a b e = refl
same_bit zero (suc zero) a b e = absurd (cc)
same_bit zero (suc (suc y)) a b e = absurd (omega arith)
same_bit (suc zero) zero a b e = absurd (cc)
same_bit (suc zero) (suc zero) a b e = refl
same_bit (suc zero) (suc (suc y)) a b e = absurd (omega arith)
same_bit (suc (suc x)) y a b e = absurd (omega arith)

-- a number that has the same squares is that set
pub set_from : (test : Occupant → Bool) → test None ≡ false → (pieces : Pieces) (n : ℕ) → length pieces ≡ 64 → n < 2 ^ 64 → ((s : ℕ) → s < 64 → has n s ≡ test (piece_at pieces s)) → n ≡ set_of test pieces
set_from test none pieces n size low same =
    let long : length (map test pieces) ≡ 64 = length-map pieces test ∙ size in
    let top : set_of test pieces < 2 ^ 64 = subst (λ (k : ℕ). set_of test pieces < 2 ^ k) long (mask_l-lt (map test pieces)) in
    same_from_bits_below 64 n (set_of test pieces) low top
    (λ i h. same_bit (bit_at n i) (bit_at (set_of test pieces) i) (bit_at-lt n i) (bit_at-lt (set_of test pieces) i) (same i h ∙ sym (has-set_of test none pieces i)))

piece_back : (occupant : Occupant) → piece_by (is_of_side White occupant) (is_of_side Black occupant) (kind_by_tests (is_a Pawn occupant) (is_a Knight occupant) (is_a Bishop occupant) (is_a Rook occupant) (is_a Queen occupant)) ≡ occupant
piece_back (Some (White, Pawn)) = refl
piece_back (Some (Black, Pawn)) = refl
piece_back occupant = refl

piece_by_sets-sets_of : (pieces : Pieces) (s : ℕ) → piece_by_sets (sets_of pieces) s ≡ piece_at pieces s
piece_by_sets-sets_of pieces s =
    rw (has-set_of (is_of_side White) refl pieces s, has-set_of (is_of_side Black) refl pieces s, has-set_of (is_a Pawn) refl pieces s, has-set_of (is_a Knight) refl pieces s, has-set_of (is_a Bishop) refl pieces s, has-set_of (is_a Rook) refl pieces s, has-set_of (is_a Queen) refl pieces s)
    (piece_back (piece_at pieces s))

-- the pieces come back from their sets
pub men_of-sets_of : (pieces : Pieces) → length pieces ≡ 64 → pieces_by_sets (sets_of pieces) ≡ pieces
men_of-sets_of pieces size =
    same_lists (pieces_by_sets (sets_of pieces)) pieces (length-men_of (sets_of pieces) ∙ sym size) (λ k d low.
    let less : k < 64 = subst (λ (n : ℕ). k < n) (length-men_of (sets_of pieces)) low in
    get_or-other (pieces_by_sets (sets_of pieces)) k d None low ∙ (man_at-men_of (sets_of pieces) k less ∙ piece_by_sets-sets_of pieces k) ∙ get_or-other pieces k None d (rw size less))

-- the sets of 64 pieces give these pieces
pub made : (a : Inside) (pieces : Pieces) → length pieces ≡ 64 → a ≡ sets_of pieces → AreSets a × (pieces_by_sets a ≡ pieces)
made a pieces size e =
    let pieces' : pieces_by_sets a ≡ pieces = ap pieces_by_sets e ∙ men_of-sets_of pieces size in
    (ap sets_of pieces' ∙ sym e, pieces')

-- each set of a board has the squares of the pieces that pass its test
pub white-has : (a : Inside) (s : ℕ) → AreSets a → has a.white s ≡ is_of_side White (piece_at (pieces_by_sets a) s)
white-has a s h = ap (λ (b : Inside). has b.white s) (sym h) ∙ has-set_of (is_of_side White) refl (pieces_by_sets a) s

pub black-has : (a : Inside) (s : ℕ) → AreSets a → has a.black s ≡ is_of_side Black (piece_at (pieces_by_sets a) s)
black-has a s h = ap (λ (b : Inside). has b.black s) (sym h) ∙ has-set_of (is_of_side Black) refl (pieces_by_sets a) s

pub pawns-has : (a : Inside) (s : ℕ) → AreSets a → has a.pawns s ≡ is_a Pawn (piece_at (pieces_by_sets a) s)
pawns-has a s h = ap (λ (b : Inside). has b.pawns s) (sym h) ∙ has-set_of (is_a Pawn) refl (pieces_by_sets a) s

pub knights-has : (a : Inside) (s : ℕ) → AreSets a → has a.knights s ≡ is_a Knight (piece_at (pieces_by_sets a) s)
knights-has a s h = ap (λ (b : Inside). has b.knights s) (sym h) ∙ has-set_of (is_a Knight) refl (pieces_by_sets a) s

pub bishops-has : (a : Inside) (s : ℕ) → AreSets a → has a.bishops s ≡ is_a Bishop (piece_at (pieces_by_sets a) s)
bishops-has a s h = ap (λ (b : Inside). has b.bishops s) (sym h) ∙ has-set_of (is_a Bishop) refl (pieces_by_sets a) s

pub rooks-has : (a : Inside) (s : ℕ) → AreSets a → has a.rooks s ≡ is_a Rook (piece_at (pieces_by_sets a) s)
rooks-has a s h = ap (λ (b : Inside). has b.rooks s) (sym h) ∙ has-set_of (is_a Rook) refl (pieces_by_sets a) s

pub queens-has : (a : Inside) (s : ℕ) → AreSets a → has a.queens s ≡ is_a Queen (piece_at (pieces_by_sets a) s)
queens-has a s h = ap (λ (b : Inside). has b.queens s) (sym h) ∙ has-set_of (is_a Queen) refl (pieces_by_sets a) s

pub kings-has : (a : Inside) (s : ℕ) → AreSets a → has a.kings s ≡ is_a King (piece_at (pieces_by_sets a) s)
kings-has a s h = ap (λ (b : Inside). has b.kings s) (sym h) ∙ has-set_of (is_a King) refl (pieces_by_sets a) s

-- a piece is put on a square
abbrev pub IsPlaced : ℕ → ℕ → ℕ → Bool → Type 0
IsPlaced old new i belongs = (s : ℕ) → s < 64 → has new s ≡ (if s == i then belongs else has old s)

pub put_set : (test : Occupant → Bool) → test None ≡ false → (pieces : Pieces) (i : ℕ) (occupant : Occupant) (old new : ℕ) → length pieces ≡ 64 → i < 64 → new < 2 ^ 64 →
    ((s : ℕ) → has old s ≡ test (piece_at pieces s)) → IsPlaced old new i (test occupant) → new ≡ set_of test (set pieces i occupant)
put_set test none pieces i occupant old new size within low before placed =
    let long : length (set pieces i occupant) ≡ 64 = length-set pieces i occupant ∙ size in
    set_from test none (set pieces i occupant) new long low (λ s l.
    ⊎_elim (λ (here : s ≡ i).
    let same : (s == i) ≡ true = eq-eqb s i here in
    let new' : has new s ≡ test occupant = placed s l ∙ rw same refl in
    let at : piece_at (set pieces i occupant) s ≡ occupant = ap (piece_at (set pieces i occupant)) here ∙ get_or-set_same pieces i occupant None (omega arith) in
    new' ∙ sym (ap test at))
    (λ (other : s ≢ i).
    let apart : (s == i) ≡ false = false_from_ne_true (s == i) (λ e. other (eqb-true s i e)) in
    let new' : has new s ≡ has old s = placed s l ∙ rw apart refl in
    new' ∙ before s ∙ sym (ap test (get_or-set_other pieces i s occupant None other)))
    (cases_eq s i))

abbrev sets : ℕ → ℕ → ℕ → ℕ → ℕ → ℕ → ℕ → ℕ → Inside
sets w b p n f r q k = record { white = w; black = b; pawns = p; knights = n; bishops = f; rooks = r; queens = q; kings = k }

-- eight sets that are those of the pieces
pub all_sets : (a : Inside) (pieces : Pieces) → a.white ≡ set_of (is_of_side White) pieces → a.black ≡ set_of (is_of_side Black) pieces → a.pawns ≡ set_of (is_a Pawn) pieces → a.knights ≡ set_of (is_a Knight) pieces →
    a.bishops ≡ set_of (is_a Bishop) pieces → a.rooks ≡ set_of (is_a Rook) pieces → a.queens ≡ set_of (is_a Queen) pieces → a.kings ≡ set_of (is_a King) pieces → a ≡ sets_of pieces
all_sets a pieces w b p n f r q k =
    let whole : sets a.white a.black a.pawns a.knights a.bishops a.rooks a.queens a.kings
    ≡ sets (set_of (is_of_side White) pieces) (set_of (is_of_side Black) pieces) (set_of (is_a Pawn) pieces) (set_of (is_a Knight) pieces) (set_of (is_a Bishop) pieces) (set_of (is_a Rook) pieces) (set_of (is_a Queen) pieces) (set_of (is_a King) pieces) = cc in
    whole

-- each set of a board after a piece was put on a square
pub record PutSets (a b : Inside) (i : ℕ) (occupant : Occupant) : Type 0 where
  pub white : (b.white < 2 ^ 64) × IsPlaced a.white b.white i (is_of_side White occupant)
  pub black : (b.black < 2 ^ 64) × IsPlaced a.black b.black i (is_of_side Black occupant)
  pub pawns : (b.pawns < 2 ^ 64) × IsPlaced a.pawns b.pawns i (is_a Pawn occupant)
  pub knights : (b.knights < 2 ^ 64) × IsPlaced a.knights b.knights i (is_a Knight occupant)
  pub bishops : (b.bishops < 2 ^ 64) × IsPlaced a.bishops b.bishops i (is_a Bishop occupant)
  pub rooks : (b.rooks < 2 ^ 64) × IsPlaced a.rooks b.rooks i (is_a Rook occupant)
  pub queens : (b.queens < 2 ^ 64) × IsPlaced a.queens b.queens i (is_a Queen occupant)
  pub kings : (b.kings < 2 ^ 64) × IsPlaced a.kings b.kings i (is_a King occupant)

pub put_sets : (a b : Inside) (i : ℕ) (occupant : Occupant) → AreSets a → i < 64 → PutSets a b i occupant → AreSets b × (pieces_by_sets b ≡ set (pieces_by_sets a) i occupant)
put_sets a b i occupant h low put =
    let size : length (pieces_by_sets a) ≡ 64 = length-men_of a in
    made b (set (pieces_by_sets a) i occupant) (length-set (pieces_by_sets a) i occupant ∙ size) (all_sets b (set (pieces_by_sets a) i occupant)
    (put_set (is_of_side White) refl (pieces_by_sets a) i occupant a.white b.white size low put.white.0 (λ s. white-has a s h) put.white.1)
    (put_set (is_of_side Black) refl (pieces_by_sets a) i occupant a.black b.black size low put.black.0 (λ s. black-has a s h) put.black.1)
    (put_set (is_a Pawn) refl (pieces_by_sets a) i occupant a.pawns b.pawns size low put.pawns.0 (λ s. pawns-has a s h) put.pawns.1)
    (put_set (is_a Knight) refl (pieces_by_sets a) i occupant a.knights b.knights size low put.knights.0 (λ s. knights-has a s h) put.knights.1)
    (put_set (is_a Bishop) refl (pieces_by_sets a) i occupant a.bishops b.bishops size low put.bishops.0 (λ s. bishops-has a s h) put.bishops.1)
    (put_set (is_a Rook) refl (pieces_by_sets a) i occupant a.rooks b.rooks size low put.rooks.0 (λ s. rooks-has a s h) put.rooks.1)
    (put_set (is_a Queen) refl (pieces_by_sets a) i occupant a.queens b.queens size low put.queens.0 (λ s. queens-has a s h) put.queens.1)
    (put_set (is_a King) refl (pieces_by_sets a) i occupant a.kings b.kings size low put.kings.0 (λ s. kings-has a s h) put.kings.1))

-- how many pieces pass the test, by their set
pub count_set : (test : Occupant → Bool) → test None ≡ false → (pieces : Pieces) (n : ℕ) → length pieces ≡ 64 → n < 2 ^ 64 → ((s : ℕ) → s < 64 → has n s ≡ test (piece_at pieces s)) → count_ones n ≡ count_by test pieces
count_set test none pieces n size low same = ap count_ones (set_from test none pieces n size low same) ∙ ones-mask_l test pieces

-- the squares of two sets, and those that both have
either_bit : (x y : ℕ) → x < 2 → y < 2 → (max x y == 1) ≡ ((x == 1) || (y == 1))
either_bit zero zero a b = refl
either_bit zero (suc zero) a b = refl
either_bit zero (suc (suc y)) a b = absurd (omega arith)
either_bit (suc zero) zero a b = refl
either_bit (suc zero) (suc zero) a b = refl
either_bit (suc zero) (suc (suc y)) a b = absurd (omega arith)
either_bit (suc (suc x)) y a b = absurd (omega arith)

pub has-either : (a b s : ℕ) → has (bit_or a b) s ≡ (has a s || has b s)
has-either a b s = ap (λ (n : ℕ). n == 1) (bit_at_or a b s) ∙ either_bit (bit_at a s) (bit_at b s) (bit_at-lt a s) (bit_at-lt b s)

both_bit : (x y : ℕ) → x < 2 → y < 2 → (min x y == 1) ≡ ((x == 1) && (y == 1))
both_bit zero zero a b = refl
both_bit zero (suc zero) a b = refl
both_bit zero (suc (suc y)) a b = absurd (omega arith)
both_bit (suc zero) zero a b = refl
both_bit (suc zero) (suc zero) a b = refl
both_bit (suc zero) (suc (suc y)) a b = absurd (omega arith)
both_bit (suc (suc x)) y a b = absurd (omega arith)

pub has-both : (a b s : ℕ) → has (bit_and a b) s ≡ (has a s && has b s)
has-both a b s = ap (λ (n : ℕ). n == 1) (bit_at_and a b s) ∙ both_bit (bit_at a s) (bit_at b s) (bit_at-lt a s) (bit_at-lt b s)

not_bit : (x : ℕ) → x < 2 → (1 - x == 1) ≡ not (x == 1)
not_bit zero a = refl
not_bit (suc zero) a = refl
not_bit (suc (suc x)) a = absurd (omega arith)

pub has-without : (a b s : ℕ) → b < 2 ^ 64 → s < 64 → has (bit_and a (18446744073709551615 - b)) s ≡ (has a s && not (has b s))
has-without a b s low l =
    let bit : bit_at (18446744073709551615 - b) s ≡ 1 - bit_at b s = bit_at_not w64 b s low l in
    has-both a (18446744073709551615 - b) s ∙ ap (λ (v : Bool). has a s && v) (ap (λ (n : ℕ). n == 1) bit ∙ not_bit (bit_at b s) (bit_at-lt b s))

-- a piece of a side and a kind by both tests
pub any_piece : (occupant : Occupant) → (is_of_side White occupant || is_of_side Black occupant) ≡ is_piece occupant
any_piece None = refl
any_piece (Some (White, piece)) = refl
any_piece (Some (Black, piece)) = refl

pub minor_piece : (occupant : Occupant) → (is_a Knight occupant || is_a Bishop occupant) ≡ is_minor occupant
minor_piece (Some (side, Pawn)) = refl
minor_piece occupant = refl

king_kind : (k : Kind) (b : Bool) → (same_board_kind King k && b) ≡ (b && is_king_kind k)
king_kind King true = refl
king_kind k false = refl
king_kind k b = refl

pub king_piece : (side : Side) (occupant : Occupant) → (is_a King occupant && is_of_side side occupant) ≡ is_king side occupant
king_piece side None = refl
king_piece side (Some occupant) = king_kind occupant.1 (same_side occupant.0 side)

-- a set with a square, or without it
pub placed_in : (old i : ℕ) (belongs : Bool) → belongs ≡ true → i < 64 → IsPlaced old (bit_or old (1 * 2 ^ i % 18446744073709551616)) i belongs
placed_in old i belongs e low s l =
    ⊎_elim (λ (here : s ≡ i).
    let same : (s == i) ≡ true = eq-eqb s i here in
    let bit : bit_at (bit_or old (1 * 2 ^ i % 18446744073709551616)) i ≡ 1 = bit_at_set_same w64 old i low in
    ap (has (bit_or old (1 * 2 ^ i % 18446744073709551616))) here ∙ ap (λ (n : ℕ). n == 1) bit ∙ rw (same, e) refl)
    (λ (other : s ≢ i).
    let apart : (s == i) ≡ false = false_from_ne_true (s == i) (λ h. other (eqb-true s i h)) in
    let bit : bit_at (bit_or old (1 * 2 ^ i % 18446744073709551616)) s ≡ bit_at old s = bit_at_set_other w64 old i low s other in
    ap (λ (n : ℕ). n == 1) bit ∙ rw apart refl)
    (cases_eq s i)

pub placed_out : (old i : ℕ) (belongs : Bool) → belongs ≡ false → i < 64 → IsPlaced old (bit_and old (18446744073709551615 - 1 * 2 ^ i % 18446744073709551616)) i belongs
placed_out old i belongs e low s l =
    ⊎_elim (λ (here : s ≡ i).
    let same : (s == i) ≡ true = eq-eqb s i here in
    let bit : bit_at (bit_and old (18446744073709551615 - 1 * 2 ^ i % 18446744073709551616)) i ≡ 0 = bit_at_clear_same w64 old i low in
    ap (has (bit_and old (18446744073709551615 - 1 * 2 ^ i % 18446744073709551616))) here ∙ ap (λ (n : ℕ). n == 1) bit ∙ rw (same, e) refl)
    (λ (other : s ≢ i).
    let apart : (s == i) ≡ false = false_from_ne_true (s == i) (λ h. other (eqb-true s i h)) in
    let bit : bit_at (bit_and old (18446744073709551615 - 1 * 2 ^ i % 18446744073709551616)) s ≡ bit_at old s = bit_at_clear_other w64 old i low s l other in
    ap (λ (n : ℕ). n == 1) bit ∙ rw apart refl)
    (cases_eq s i)
