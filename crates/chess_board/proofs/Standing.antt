-- The facts of every position, and the answers of `build`, in the words of the Laws.
use Rattle.std.proofs.Common.{◌≡◌, ◌≢◌, ◌≤◌, ◌<◌, ℕ, Bool, true, false, ◌&&◌, ◌||◌, not, cond, refl, ap, subst, sym, ◌∙◌, Option, Some, None, Ok, Err, leb, eqb, min, max}
use Rattle.std.specs.Prelude.{◌↔◌, IfSome, count_by, nat_lt}
use Rattle.std.specs.Bool.{Decides}
use Rattle.std.proofs.lemmas.Bool.{false≢true, le-leb, leb-true, lt-ltb}
use Rattle.std.proofs.lemmas.Bool.Decides.{Decides-and, Decides-not, Decides-eqb}
use Rattle.chess_board.specs.declared.board.Side.{Side}
use Rattle.chess_board.specs.declared.board.Side.TheVariants.{White, Black}
use Rattle.chess_board.specs.declared.board.Kind.TheVariants.{Pawn, Knight, Bishop, Rook, Queen, King}
use Rattle.chess_board.specs.declared.board.BuildFault.TheVariants.{Board, Kings}
use Rattle.chess_board.specs.declared.board.Rights.{Rights}
use Rattle.chess_board.specs.declared.board.Variant.{Variant}
use Rattle.chess_board.specs.declared.board.Variant.TheVariants.{Normal, Fischer}
use Rattle.chess_board.specs.declared.board.Wing.{Wing}
use Rattle.chess_board.specs.declared.board.Wing.TheVariants.{HSide, ASide}
use Rattle.chess_board.specs.Board.{Occupant, Pieces, piece_at, other, is_of_side, is_king, is_rook, rank_of_square, square_at, some_below, each_square, squares}
use Rattle.chess_board.specs.Attack.{is_checked}
use Rattle.chess_board.specs.Position.{Position}
use Rattle.chess_board.specs.Laws.{CanCaptureEnPassant}
use Rattle.chess_board.specs.Rules.{first_rank, corner_file, right_of, is_beyond}
use Rattle.chess_board.specs.Play.{IsPosition, Takeable, fits_board, fits_kings, begins_on, is_king_for, is_at_home, right_at_home, rights_at_home, position_if_built, with_legal_en_passant, is_end_rank, is_any_pawn, top_count}
use Rattle.chess_board.specs.Lawful.{BeginOn, AreHome, NoEndPawn, FitsBoard, FitsKings, PositionInvariant, Settles, Builds}
use Rattle.chess_board.proofs.Below.{each_below-at, each_below-all, some_below-found, some_below-hit, squares-is}
use Rattle.chess_board.proofs.Bools.{same_side-refl}
use Rattle.chess_board.proofs.Keeps.{rook-is}
use Rattle.chess_board.proofs.Castled.{home_parts, right_home}
use Rattle.chess_board.proofs.Legal.{BeyondAt, KingAt, checked-law}
use Rattle.chess_board.proofs.Settled.{take-law, settled-only, settled-passant}
use Rattle.chess_board.proofs.Facts.{board_fits, kings_fit}

-- pawns on end ranks
inner_rank : (r : ℕ) → not (is_end_rank r && true) ≡ true → (r ≢ 0) × (r ≢ 7)
inner_rank r h = (
  λ z. let at : not (is_end_rank 0 && true) ≡ true = subst (λ (n : ℕ). not (is_end_rank n && true) ≡ true) z h in absurd (cc),
  λ z. let at : not (is_end_rank 7 && true) ≡ true = subst (λ (n : ℕ). not (is_end_rank n && true) ≡ true) z h in absurd (cc),
)

inner_test : (r : ℕ) → (r ≢ 0) × (r ≢ 7) → not (is_end_rank r && true) ≡ true
inner_test r h = elim (eqb r 0) as (λ v. eqb r 0 ≡ v → not ((v || eqb r 7) && true) ≡ true) [
  | true ↦ λ e. absurd (h.0 ((Decides-eqb r 0).0 e))
  | false ↦ λ _. elim (eqb r 7) as (λ v. eqb r 7 ≡ v → not (v && true) ≡ true) [ true ↦ λ e. absurd (h.1 ((Decides-eqb r 7).0 e)) | false ↦ λ _. refl ] refl
] refl

not_and_false : (b : Bool) → not (b && false) ≡ true
not_and_false true = refl
not_and_false false = refl

pawn_test : (r : ℕ) (occupant : Occupant) → ((side : Side) → occupant ≡ Some (side, Pawn) → (r ≢ 0) × (r ≢ 7)) → not (is_end_rank r && is_any_pawn occupant) ≡ true
pawn_test r None h = not_and_false _
pawn_test r (Some (side, Pawn)) h = inner_test r (h side refl)
pawn_test r (Some (side, Knight)) h = not_and_false _
pawn_test r (Some (side, Bishop)) h = not_and_false _
pawn_test r (Some (side, Rook)) h = not_and_false _
pawn_test r (Some (side, Queen)) h = not_and_false _
pawn_test r (Some (side, King)) h = not_and_false _

abbrev end_pawns : Pieces → ℕ → Bool
end_pawns pieces s = not (is_end_rank (rank_of_square s) && is_any_pawn (piece_at pieces s))

pawns-law : (pieces : Pieces) → Decides (each_square (end_pawns pieces)) (NoEndPawn pieces)
pawns-law pieces = (
  λ e s side low occupant.
      let test = each_below-at squares s (end_pawns pieces) e (rw squares-is low) in
      inner_rank (rank_of_square s) (subst (λ (m : Occupant). not (is_end_rank (rank_of_square s) && is_any_pawn m) ≡ true) occupant test),
  λ h. each_below-all squares (end_pawns pieces) (λ s low. pawn_test (rank_of_square s) (piece_at pieces s) (λ side occupant. h s side (subst (λ (n : ℕ). s < n) squares-is low) occupant)),
)

AtMost : (n m : ℕ) → Decides (leb n m) (n ≤ m)
AtMost n m = (λ e. leb-true n m e, λ h. le-leb n m h)

pub board-law : (pieces : Pieces) → Decides (fits_board pieces) (FitsBoard pieces)
unfolding fits_board
board-law pieces =
    let law = Decides-and (each_square (end_pawns pieces)) (leb (count_by (is_of_side White) pieces) 16 && leb (count_by (is_of_side Black) pieces) 16) (pawns-law pieces)
    (Decides-and (leb (count_by (is_of_side White) pieces) 16) (leb (count_by (is_of_side Black) pieces) 16) (AtMost _ 16) (AtMost _ 16)) in
    (λ e. let h = law.0 e in (h.0, few h.1), λ h. law.1 (h.0, (h.1 White, h.1 Black)))
  where
    few : (count_by (is_of_side White) pieces ≤ 16) × (count_by (is_of_side Black) pieces ≤ 16) → (side : Side) → count_by (is_of_side side) pieces ≤ 16
    few h White = h.0
    few h Black = h.1

pub kings-law : (pieces : Pieces) (side : Side) → Decides (fits_kings pieces side) (FitsKings pieces side)
unfolding fits_kings
kings-law pieces side =
    let law = Decides-and (eqb (count_by (is_king White) pieces) 1 && eqb (count_by (is_king Black) pieces) 1) (not (is_checked pieces (other side)))
    (Decides-and (eqb (count_by (is_king White) pieces) 1) (eqb (count_by (is_king Black) pieces) 1) (Decides-eqb _ 1) (Decides-eqb _ 1)) (Decides-not _ (checked-law pieces (other side))) in
    (λ e. let h = law.0 e in (one h.0, h.1), λ h. law.1 ((h.0 White, h.0 Black), h.1))
  where
    one : (count_by (is_king White) pieces ≡ 1) × (count_by (is_king Black) pieces ≡ 1) → (s : Side) → count_by (is_king s) pieces ≡ 1
    one h White = h.0
    one h Black = h.1

RookAt : (side : Side) (occupant : Occupant) → Decides (is_rook side occupant) (occupant ≡ Some (side, Rook))
RookAt side occupant = (
  rook-is side occupant,
  λ e. let own = same_side-refl side in let is : is_rook side (Some (side, Rook)) ≡ true = rw own refl in subst (λ (m : Occupant). is_rook side m ≡ true) (sym e) is,
)

BeginAt : (variant : Variant) (wing : Wing) (king rook : ℕ) → Decides (begins_on variant wing king rook) (BeginOn variant wing king rook)
BeginAt Normal wing king rook = Decides-and _ _ (Decides-eqb king 4) (Decides-eqb rook (corner_file wing))
BeginAt Fischer wing king rook = (λ _. tt, λ _. refl)

pub HomeAt : (variant : Variant) (pieces : Pieces) (side : Side) (wing : Wing) (rook : ℕ) → Decides (is_at_home variant pieces side wing rook) (AreHome variant pieces side wing rook)
unfolding is_at_home
HomeAt variant pieces side wing rook =
    let king_test = λ (king : ℕ). is_king side (piece_at pieces (square_at king (first_rank side))) in
    let at = λ (king : ℕ). Decides-and (king_test king) (is_beyond wing king rook && begins_on variant wing king rook) (KingAt side (piece_at pieces (square_at king (first_rank side))))
    (Decides-and (is_beyond wing king rook) (begins_on variant wing king rook) (BeyondAt wing king rook) (BeginAt variant wing king rook)) in
    let tower = RookAt side (piece_at pieces (square_at rook (first_rank side))) in (
      λ e.
          let h = home_parts variant pieces side wing rook e in
          let found = some_below-found 8 (is_king_for variant pieces side wing rook) h.kings in
          let king = (at found.0).0 found.2 in
          record { inside = h.inside; rook_there = tower.0 h.rook_there; king = found.0; king_inside = found.1; king_there = king.0; beyond = king.1.0; begin = king.1.1 },
      λ h.
          let low : nat_lt rook 8 ≡ true = lt-ltb rook 8 h.inside in
          let there = tower.1 h.rook_there in
          let kings : some_below 8 (is_king_for variant pieces side wing rook) ≡ true = some_below-hit 8 h.king (is_king_for variant pieces side wing rook) h.king_inside ((at h.king).1 (h.king_there, (h.beyond, h.begin))) in
          rw (low, there) kings,
    )

RightAt : (variant : Variant) (pieces : Pieces) (side : Side) (wing : Wing) (right : Option ℕ) (rook : ℕ) → (right_at_home variant pieces side wing right ≡ Some rook) ↔ ((right ≡ Some rook) × AreHome variant pieces side wing rook)
RightAt variant pieces side wing None rook = (λ e. absurd (cc), λ h. let e = h.0 in absurd (cc))
RightAt variant pieces side wing (Some own) rook =
    let law = HomeAt variant pieces side wing own in
    elim (is_at_home variant pieces side wing own) as (λ v. is_at_home variant pieces side wing own ≡ v → (cond v (Some own) None ≡ Some rook) ↔ ((Some own ≡ Some rook) × AreHome variant pieces side wing rook)) [
      | true ↦ λ e. (λ same. let r : own ≡ rook = cc in (same, subst (λ (n : ℕ). AreHome variant pieces side wing n) r (law.0 e)), λ h. h.0)
      | false ↦ λ e. (λ never. absurd (cc), λ h. let q = h.0 in let r : rook ≡ own = cc in absurd (false≢true (sym e ∙ law.1 (subst (λ (n : ℕ). AreHome variant pieces side wing n) r h.1))))
    ] refl

RightsAt : (pieces : Pieces) (rights : Rights) (side : Side) (wing : Wing) (rook : ℕ) → (right_of (rights_at_home pieces rights) side wing ≡ Some rook) ↔ ((right_of rights side wing ≡ Some rook) × AreHome rights.variant pieces side wing rook)
RightsAt pieces rights White HSide rook = RightAt rights.variant pieces White HSide rights.wk rook
RightsAt pieces rights White ASide rook = RightAt rights.variant pieces White ASide rights.wq rook
RightsAt pieces rights Black HSide rook = RightAt rights.variant pieces Black HSide rights.bk rook
RightsAt pieces rights Black ASide rook = RightAt rights.variant pieces Black ASide rights.bq rook

takeable : (p : Position) (o : Option ℕ) → Takeable p o → IfSome o (CanCaptureEnPassant p)
takeable p None t = tt
takeable p (Some at) t = (take-law p at).0 t.1

pub lawful-is : (p : Position) → IsPosition p → PositionInvariant p
lawful-is p is = record {
  whole = is.pieces.whole;
  board = (board-law p.pieces).0 (board_fits p.pieces is.pieces);
  kings = (kings-law p.pieces p.side).0 (kings_fit p is);
  rights = λ side wing rook held. (HomeAt p.rights.variant p.pieces side wing rook).0 (right_home p side wing rook is.rights held);
  passant = takeable p p.passant is.passant;
  half = is.half;
  full = is.full;
}

abbrev given_as : Position → Position
given_as given = record given { rights = rights_at_home given.pieces given.rights; half = min given.half top_count; full = max 1 (min given.full top_count) }

settles : (given : Position) → Settles given (with_legal_en_passant (given_as given))
settles given =
    let q = given_as given in
    let only = settled-only q in
    let pieces = given.pieces in
    let rights : (with_legal_en_passant q).rights ≡ rights_at_home pieces given.rights = ap (λ (p : Position). p.rights) only in
    record {
      pieces = ap (λ (p : Position). p.pieces) only;
      side = ap (λ (p : Position). p.side) only;
      rights = λ side wing rook. rw rights (RightsAt pieces given.rights side wing rook);
      passant = λ at. settled-passant q at;
      half = ap (λ (p : Position). p.half) only;
      full = ap (λ (p : Position). p.full) only;
      variant = ap (λ (p : Position). p.rights.variant) only;
    }

pub builds-is : (given : Position) → Builds given (position_if_built given)
builds-is given =
    elim (fits_board given.pieces) as (λ v. fits_board given.pieces ≡ v → Builds given (cond (not v) (Err Board) (cond (not (fits_kings given.pieces given.side)) (Err Kings) (Ok (with_legal_en_passant (given_as given)))))) [
      | false ↦ λ e fits. false≢true (sym e ∙ (board-law given.pieces).1 fits)
      | true ↦ λ board. elim (fits_kings given.pieces given.side) as (λ v. fits_kings given.pieces given.side ≡ v → Builds given (cond (not v) (Err Kings) (Ok (with_legal_en_passant (given_as given))))) [
        | false ↦ λ e. ((board-law given.pieces).0 board, λ fits. false≢true (sym e ∙ (kings-law given.pieces given.side).1 fits))
        | true ↦ λ kings. ((board-law given.pieces).0 board, (kings-law given.pieces given.side).0 kings, settles given)
      ] refl
    ] refl
