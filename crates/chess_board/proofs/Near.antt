-- The squares from which a side's pieces could attack a square on an empty board, by the sets of its pieces.
use Rattle.std.proofs.Common.{◌≡◌, ◌+◌, ◌≤◌, ◌<◌, ◌&&◌, ◌||◌, ◌==◌, max, ltb, leb, ℕ, Bool, true, false, refl, sym, ap, subst, ◌∙◌, arith, Some, None}
use Rattle.std.specs.Int.Bits.{bit_or, bit_and}
use Rattle.std.proofs.lemmas.Bool.{eqb-true, le-leb, false_from_ne_true, false≢true, and_parts, or_left, or_right}
use Rattle.chess_board.specs.declared.board.Kind.{Kind}
use Rattle.chess_board.specs.declared.board.Kind.TheVariants.{Pawn, Knight, Bishop, Rook, Queen, King}
use Rattle.chess_board.specs.declared.board.Side.{Side}
use Rattle.chess_board.specs.declared.board.Side.TheVariants.{White, Black}
use Rattle.chess_board.specs.Board.{Occupant, Pieces, piece_at, is_of_side, gap, file_of, rank_of_square, files_apart, ranks_apart, distance}
use Rattle.chess_board.specs.Attack.{is_ahead, is_diagonal, is_straight, is_clear, reaches, attacks, attacks_as}
use Rattle.chess_board.specs.Reach.{form, has, IsSetOf}
use Rattle.chess_board.specs.Sets.{is_a}
use Rattle.chess_board.proofs.Sets.{has-either, has-both}

-- the shapes by files and ranks
abbrev jump : ℕ → ℕ → Bool
jump f r = ((f == 1) && (r == 2)) || ((f == 2) && (r == 1))

abbrev slant : ℕ → ℕ → Bool
slant f r = ltb 0 (max f r) && (f == r)

abbrev line : ℕ → ℕ → Bool
line f r = ltb 0 (max f r) && ((f == 0) || (r == 0))

abbrev close : ℕ → ℕ → Bool
close f r = leb f 1 && leb r 1

-- the shapes, each with the kinds that have it
abbrev jumps : Bool → Kind → Bool
jumps j piece = j && is_a Knight (Some (White, piece))

abbrev slants : Bool → Kind → Bool
slants d piece = d && (is_a Bishop (Some (White, piece)) || is_a Queen (Some (White, piece)))

abbrev lines : Bool → Kind → Bool
lines l piece = l && (is_a Rook (Some (White, piece)) || is_a Queen (Some (White, piece)))

abbrev steps : Bool → Kind → Bool
steps n piece = n && (is_a King (Some (White, piece)) || is_a Pawn (Some (White, piece)))

abbrev fits : Bool → Bool → Bool → Bool → Kind → Bool
fits j d l n piece = ((jumps j piece || slants d piece) || lines l piece) || steps n piece

by_jump : (j d l n : Bool) (piece : Kind) → jumps j piece ≡ true → fits j d l n piece ≡ true
by_jump j d l n piece e = or_left ((jumps j piece || slants d piece) || lines l piece) (steps n piece) (or_left (jumps j piece || slants d piece) (lines l piece) (or_left (jumps j piece) (slants d piece) e))

by_slant : (j d l n : Bool) (piece : Kind) → slants d piece ≡ true → fits j d l n piece ≡ true
by_slant j d l n piece e = or_left ((jumps j piece || slants d piece) || lines l piece) (steps n piece) (or_left (jumps j piece || slants d piece) (lines l piece) (or_right (jumps j piece) (slants d piece) e))

by_line : (j d l n : Bool) (piece : Kind) → lines l piece ≡ true → fits j d l n piece ≡ true
by_line j d l n piece e = or_left ((jumps j piece || slants d piece) || lines l piece) (steps n piece) (or_right (jumps j piece || slants d piece) (lines l piece) e)

by_step : (j d l n : Bool) (piece : Kind) → steps n piece ≡ true → fits j d l n piece ≡ true
by_step j d l n piece e = or_right ((jumps j piece || slants d piece) || lines l piece) (steps n piece) e

held : (a : Bool) → a ≡ true → (a && true) ≡ true
held a e = rw e refl

ahead_apart : (side : Side) (rank to : ℕ) → is_ahead side rank to 1 ≡ true → gap rank to ≡ 1
ahead_apart White rank to e = let n = eqb-true to (rank + 1) e in omega arith
ahead_apart Black rank to e = let n = eqb-true rank (to + 1) e in omega arith

close_is : (f r : ℕ) → f ≤ 1 → r ≤ 1 → close f r ≡ true
close_is f r a b = rw (le-leb f 1 a, le-leb r 1 b) refl

shaped : (pieces : Pieces) (side : Side) (piece : Kind) (from at : ℕ) → reaches pieces side piece from at ≡ true →
    fits (jump (files_apart from at) (ranks_apart from at)) (slant (files_apart from at) (ranks_apart from at)) (line (files_apart from at) (ranks_apart from at)) (close (files_apart from at) (ranks_apart from at)) piece ≡ true
shaped pieces side piece from at e =
    let f = files_apart from at in
    let r = ranks_apart from at in
    by_kind piece (jump f r) (slant f r) (line f r) (close f r) (reach pieces side piece from at e)
  where
    Shape : Kind → Bool → Bool → Bool → Bool → Type 0
    Shape Pawn j d l n = n ≡ true
    Shape Knight j d l n = j ≡ true
    Shape Bishop j d l n = d ≡ true
    Shape Rook j d l n = l ≡ true
    Shape Queen j d l n = (d || l) ≡ true
    Shape King j d l n = n ≡ true

    by_kind : (piece : Kind) (j d l n : Bool) → Shape piece j d l n → fits j d l n piece ≡ true
    by_kind Pawn j d l n e = by_step j d l n Pawn (held n e)
    by_kind Knight j d l n e = by_jump j d l n Knight (held j e)
    by_kind Bishop j d l n e = by_slant j d l n Bishop (held d e)
    by_kind Rook j d l n e = by_line j d l n Rook (held l e)
    by_kind Queen j true l n e = by_slant j true l n Queen refl
    by_kind Queen j false l n e = by_line j false l n Queen (held l e)
    by_kind King j d l n e = by_step j d l n King (held n e)

    spread : (a d l : Bool) → (a && (d || l)) ≡ true → ((a && d) || (a && l)) ≡ true
    spread true d l e = e
    spread false d l e = absurd (cc)

    reach : (pieces : Pieces) (side : Side) (piece : Kind) (from at : ℕ) → reaches pieces side piece from at ≡ true →
        Shape piece (jump (files_apart from at) (ranks_apart from at)) (slant (files_apart from at) (ranks_apart from at)) (line (files_apart from at) (ranks_apart from at)) (close (files_apart from at) (ranks_apart from at))
    reach pieces side Pawn from at e =
        let parts = and_parts (files_apart from at == 1) (is_ahead side (rank_of_square from) (rank_of_square at) 1) e in
        let one : files_apart from at ≡ 1 = eqb-true (files_apart from at) 1 parts.0 in
        let next : ranks_apart from at ≡ 1 = ahead_apart side (rank_of_square from) (rank_of_square at) parts.1 in
        close_is (files_apart from at) (ranks_apart from at) (omega arith) (omega arith)
    reach pieces side King from at e =
        let one : distance from at ≡ 1 = eqb-true (distance from at) 1 e in
        close_is (files_apart from at) (ranks_apart from at) (omega arith) (omega arith)
    reach pieces side Knight from at e = e
    reach pieces side Bishop from at e = (and_parts (ltb 0 (distance from at) && is_diagonal from at) (is_clear pieces from at) e).0
    reach pieces side Rook from at e = (and_parts (ltb 0 (distance from at) && is_straight from at) (is_clear pieces from at) e).0
    reach pieces side Queen from at e =
        spread (ltb 0 (distance from at)) (is_diagonal from at) (is_straight from at) (and_parts (ltb 0 (distance from at) && (is_diagonal from at || is_straight from at)) (is_clear pieces from at) e).0

turned : (a b : ℕ) → gap a b ≡ gap b a
turned a b = omega arith

-- a piece of the side that attacks a square stands where its kind could on an empty board
near_hit : (pieces : Pieces) (side : Side) (from at : ℕ) (stands : Occupant) → attacks_as pieces side from at stands ≡ true →
    (((((form White Knight at from && is_a Knight stands) || (form White Bishop at from && (is_a Bishop stands || is_a Queen stands)))
    || (form White Rook at from && (is_a Rook stands || is_a Queen stands)))
    || (form White King at from && (is_a King stands || is_a Pawn stands))) && is_of_side side stands) ≡ true
near_hit pieces side from at stands e =
    elim stands as (λ m. attacks_as pieces side from at m ≡ true →
    (((((form White Knight at from && is_a Knight m) || (form White Bishop at from && (is_a Bishop m || is_a Queen m)))
    || (form White Rook at from && (is_a Rook m || is_a Queen m)))
    || (form White King at from && (is_a King m || is_a Pawn m))) && is_of_side side m) ≡ true) [
      | None ↦ λ no. absurd (cc)
      | Some occupant ↦ λ h.
          let parts = and_parts (is_of_side side (Some occupant)) (reaches pieces side occupant.1 from at) h in
          let there = shaped pieces side occupant.1 from at parts.1 in
          let by_file = subst (λ (f : ℕ). fits (jump f (ranks_apart from at)) (slant f (ranks_apart from at)) (line f (ranks_apart from at)) (close f (ranks_apart from at)) occupant.1 ≡ true) (turned (file_of from) (file_of at)) there in
          let here = subst (λ (r : ℕ). fits (jump (files_apart at from) r) (slant (files_apart at from) r) (line (files_apart at from) r) (close (files_apart at from) r) occupant.1 ≡ true) (turned (rank_of_square from) (rank_of_square at)) by_file in
          rw (here, parts.0) refl
    ] e

-- beyond the set that is so put together nothing attacks, wherever the other pieces stand
pub near_attacks : (pieces others : Pieces) (side : Side) (at s j d l n knights bishops rooks queens kings pawns own : ℕ) → s < 64 → IsSetOf (form White Knight at) j → IsSetOf (form White Bishop at) d → IsSetOf (form White Rook at) l → IsSetOf (form White King at) n →
    IsSetOf (λ i. is_a Knight (piece_at pieces i)) knights → IsSetOf (λ i. is_a Bishop (piece_at pieces i)) bishops → IsSetOf (λ i. is_a Rook (piece_at pieces i)) rooks → IsSetOf (λ i. is_a Queen (piece_at pieces i)) queens →
    IsSetOf (λ i. is_a King (piece_at pieces i)) kings → IsSetOf (λ i. is_a Pawn (piece_at pieces i)) pawns → IsSetOf (λ i. is_of_side side (piece_at pieces i)) own →
    has (bit_and (bit_or (bit_or (bit_or (bit_and j knights) (bit_and d (bit_or bishops queens))) (bit_and l (bit_or rooks queens))) (bit_and n (bit_or kings pawns))) own) s ≡ false → piece_at others s ≡ piece_at pieces s →
    attacks others side s at ≡ false
near_attacks pieces others side at s j d l n knights bishops rooks queens kings pawns own low ij id il in' ik ib ir iq ig ip io out same =
    let a = has-both j knights s ∙ (ap (λ (v : Bool). v && has knights s) (ij s low) ∙ ap (λ (v : Bool). form White Knight at s && v) (ik s low)) in
    let bq = has-either bishops queens s ∙ (ap (λ (v : Bool). v || has queens s) (ib s low) ∙ ap (λ (v : Bool). is_a Bishop (piece_at pieces s) || v) (iq s low)) in
    let b = has-both d (bit_or bishops queens) s ∙ (ap (λ (v : Bool). v && has (bit_or bishops queens) s) (id s low) ∙ ap (λ (v : Bool). form White Bishop at s && v) bq) in
    let rq = has-either rooks queens s ∙ (ap (λ (v : Bool). v || has queens s) (ir s low) ∙ ap (λ (v : Bool). is_a Rook (piece_at pieces s) || v) (iq s low)) in
    let c = has-both l (bit_or rooks queens) s ∙ (ap (λ (v : Bool). v && has (bit_or rooks queens) s) (il s low) ∙ ap (λ (v : Bool). form White Rook at s && v) rq) in
    let kp = has-either kings pawns s ∙ (ap (λ (v : Bool). v || has pawns s) (ig s low) ∙ ap (λ (v : Bool). is_a King (piece_at pieces s) || v) (ip s low)) in
    let k = has-both n (bit_or kings pawns) s ∙ (ap (λ (v : Bool). v && has (bit_or kings pawns) s) (in' s low) ∙ ap (λ (v : Bool). form White King at s && v) kp) in
    let ab = has-either (bit_and j knights) (bit_and d (bit_or bishops queens)) s in
    let abc = has-either (bit_or (bit_and j knights) (bit_and d (bit_or bishops queens))) (bit_and l (bit_or rooks queens)) s in
    let abck = has-either (bit_or (bit_or (bit_and j knights) (bit_and d (bit_or bishops queens))) (bit_and l (bit_or rooks queens))) (bit_and n (bit_or kings pawns)) s in
    let whole = has-both (bit_or (bit_or (bit_or (bit_and j knights) (bit_and d (bit_or bishops queens))) (bit_and l (bit_or rooks queens))) (bit_and n (bit_or kings pawns))) own s in
    false_from_ne_true _ (λ hit.
    let there = near_hit others side s at (piece_at pieces s) (subst (λ (m : Occupant). attacks_as others side s at m ≡ true) same hit) in
    let inside : has (bit_and (bit_or (bit_or (bit_or (bit_and j knights) (bit_and d (bit_or bishops queens))) (bit_and l (bit_or rooks queens))) (bit_and n (bit_or kings pawns))) own) s ≡ true =
    whole ∙ rw (abck, abc, ab, a, b, c, k, io s low) there in
    false≢true (sym out ∙ inside))
