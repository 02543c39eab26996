-- The position after a legal move, in the words of the Laws.
use Rattle.std.proofs.Common.{◌≡◌, ◌≢◌, ◌+◌, ◌<◌, ◌⊎◌, ℕ, true, false, ◌&&◌, ◌||◌, cond, refl, inl, inr, ⊎_elim, ap, subst, sym, ◌∙◌, Option, Some, None, is_some, length, set, arith, get_or-set_other, get_or-set_same, length-set, min}
use Rattle.std.specs.Prelude.{◌↔◌}
use Rattle.std.specs.Bool.{Decides}
use Rattle.std.proofs.lemmas.Bool.{false≢true, false_from_ne_true}
use Rattle.std.proofs.lemmas.Bool.Decides.{Decides-and, Decides-or, Decides-eqb}
use Rattle.chess_board.specs.declared.board.Side.{Side}
use Rattle.chess_board.specs.declared.board.Side.TheVariants.{White, Black}
use Rattle.chess_board.specs.declared.board.Kind.{Kind}
use Rattle.chess_board.specs.declared.board.Kind.TheVariants.{Pawn, Knight, Bishop, Rook, Queen, King}
use Rattle.chess_board.specs.declared.board.Wing.{Wing}
use Rattle.chess_board.specs.declared.board.Wing.TheVariants.{HSide, ASide}
use Rattle.chess_board.specs.Board.{Occupant, Pieces, piece_at, other, same_side, is_of_side, is_king_kind, is_pawn_kind, rank_of_square, square_at, files_apart, on_the_way}
use Rattle.chess_board.specs.Position.{Position}
use Rattle.chess_board.specs.Rules.{becomes, first_rank, right_of, castling_of, castling_rook, pieces_after_step, pieces_after_as, pieces_without_en_passant, pieces_beside_move, pieces_after, beside, second_rank, is_en_passant, is_double_step}
use Rattle.chess_board.specs.Laws.{Ahead, IsOf, IsOnFile, MayLand, TakesEnPassant, Castles, IsCastling, IsLegal}
use Rattle.chess_board.specs.Play.{IsPosition, is_lost, right_after, rights_after, square_passed_by_pawn, half_after, kind_on, follow, with_legal_en_passant, position_after, top_count}
use Rattle.chess_board.specs.Played.{TakesBeside, MovesPieces, CastlesPieces, KeepsRight, PawnPassesSquare, Plays, PlayLaw}
use Rattle.chess_board.proofs.Bools.{same_side-is, same_side-refl}
use Rattle.chess_board.proofs.Moved.{man_at-moved}
use Rattle.chess_board.proofs.Relations.{AheadAt}
use Rattle.chess_board.proofs.Legal.{EnPassantAt, CastlingAt, OnFileAt, Of, castling_on, king_kind, pawn_kind}
use Rattle.chess_board.proofs.Castled.{castled-king, castled-rook, castled-lifted, castled-other, castling_can, castling_square, length-castled, lifted, lifted_king, lifted_rook, two_pieces}
use Rattle.chess_board.proofs.Settled.{settled-only, settled-passant}

other-differs : (side : Side) → side ≢ other side
other-differs White e = absurd (cc)
other-differs Black e = absurd (cc)

-- the square left, and the square reached
moved-left : (pieces : Pieces) (side : Side) (piece : Kind) (from to : ℕ) (promotion : Option Kind) → from < length pieces → from ≢ to → piece_at (pieces_after_step pieces side piece from to promotion) from ≡ None
moved-left pieces side piece from to promotion low apart = get_or-set_other (set pieces from None) to from _ None apart ∙ get_or-set_same pieces from None None low

moved-arrived : (pieces : Pieces) (side : Side) (piece : Kind) (from to : ℕ) (promotion : Option Kind) → to < length pieces → piece_at (pieces_after_step pieces side piece from to promotion) to ≡ Some (side, becomes piece promotion)
moved-arrived pieces side piece from to promotion low =
    let less : to < length (set pieces from None) = rw (length-set pieces from None) low in
    get_or-set_same (set pieces from None) to _ None less

length-moved : (pieces : Pieces) (side : Side) (piece : Kind) (from to : ℕ) (promotion : Option Kind) → length (pieces_after_step pieces side piece from to promotion) ≡ length pieces
length-moved pieces side piece from to promotion = length-set _ to _ ∙ length-set pieces from None

-- what else changes
length-prepared : (p : Position) (piece : Kind) (from to : ℕ) → length (pieces_beside_move p piece from to) ≡ length p.pieces
length-prepared p Pawn from to = elim (is_en_passant p from to) as (λ v. length (pieces_without_en_passant p.pieces v (beside from to)) ≡ length p.pieces) [ true ↦ length-set p.pieces (beside from to) None | false ↦ refl ]
length-prepared p King from to = refl
length-prepared p Knight from to = refl
length-prepared p Bishop from to = refl
length-prepared p Rook from to = refl
length-prepared p Queen from to = refl

taken-passant : (p : Position) (from to : ℕ) → TakesEnPassant p from to → pieces_beside_move p Pawn from to ≡ set p.pieces (beside from to) None
taken-passant p from to takes = let e = (EnPassantAt p from to).1 takes in rw e refl

-- squares that no rule speaks of stay
prepared-others : (p : Position) (piece : Kind) (from to s : ℕ) → (TakesBeside p piece from to → s ≢ beside from to) → piece_at (pieces_beside_move p piece from to) s ≡ piece_at p.pieces s
prepared-others p Pawn from to s beside_off =
    elim (is_en_passant p from to) as (λ v. is_en_passant p from to ≡ v → piece_at (pieces_without_en_passant p.pieces v (beside from to)) s ≡ piece_at p.pieces s) [
      | true ↦ λ e. get_or-set_other p.pieces (beside from to) s None None (beside_off (refl, (EnPassantAt p from to).0 e))
      | false ↦ λ _. refl
    ] refl
prepared-others p King from to s beside_off = refl
prepared-others p Knight from to s beside_off = refl
prepared-others p Bishop from to s beside_off = refl
prepared-others p Rook from to s beside_off = refl
prepared-others p Queen from to s beside_off = refl

-- the pawn captured en passant is gone
en_passant_gone : (p : Position) (piece : Kind) (from to : ℕ) (promotion : Option Kind) → length p.pieces ≡ 64 → from < 64 → to < 64 → piece_at p.pieces from ≡ Some (p.side, piece) → TakesBeside p piece from to →
    piece_at (pieces_after_step (pieces_beside_move p piece from to) p.side piece from to promotion) (beside from to) ≡ None
en_passant_gone p piece from to promotion whole f t occupant takes =
    let low : beside from to < length p.pieces = rw whole (grind arith) in
    let pawn = takes.1.1.1 in
    let empty = takes.1.1.0.1 in
    let off_from : beside from to ≢ from = λ same. let there : piece_at p.pieces from ≡ Some (other p.side, Pawn) = subst (λ (i : ℕ). piece_at p.pieces i ≡ Some (other p.side, Pawn)) same pawn in
    other-differs p.side (ap (side_in p.side) (sym occupant ∙ there)) in
    let off_to : beside from to ≢ to = λ same. let there : piece_at p.pieces to ≡ Some (other p.side, Pawn) = subst (λ (i : ℕ). piece_at p.pieces i ≡ Some (other p.side, Pawn)) same pawn in
    let never : ◌≡◌ {A = Occupant} None (Some (other p.side, Pawn)) = sym empty ∙ there in absurd (cc) in
    let ready : pieces_beside_move p piece from to ≡ set p.pieces (beside from to) None = subst (λ (k : Kind). pieces_beside_move p k from to ≡ set p.pieces (beside from to) None) (sym takes.0) (taken-passant p from to takes.1) in
    man_at-moved (pieces_beside_move p piece from to) p.side piece from to promotion (beside from to) off_from off_to ∙ (rw ready (get_or-set_same p.pieces (beside from to) None None low))
  where
    side_in : Side → Occupant → Side
    side_in side None = side
    side_in side (Some occupant) = occupant.0

-- a move that is no castling
no_castling : (p : Position) (piece : Kind) (from to : ℕ) → (¬ IsCastling p piece from to) → castling_of p piece from to ≡ None
no_castling p piece from to h = none (castling_of p piece from to) (λ e. h ((CastlingAt p piece from to).0 e))
  where
    none : (o : Option Wing) → (is_some o ≡ true → ⊥) → o ≡ None
    none None h = refl
    none (Some wing) h = absurd (h refl)

moves_pieces : (p : Position) (from to : ℕ) (promotion : Option Kind) → length p.pieces ≡ 64 → from < 64 → to < 64 → (m : IsLegal p from to promotion) → (¬ IsCastling p m.piece from to) → MovesPieces p m.piece from to promotion (pieces_after p m.piece from to promotion)
unfolding pieces_after
moves_pieces p from to promotion whole f t m plain =
    let ready = pieces_beside_move p m.piece from to in
    let same = length-prepared p m.piece from to in
    let low : from < length ready = rw (same, whole) f in
    let low' : to < length ready = rw (same, whole) t in
    let landing : MayLand p.side (piece_at p.pieces to) = ⊎_elim (λ (l : MayLand p.side (piece_at p.pieces to)). l) (λ (c : IsCastling p m.piece from to). absurd (plain c)) m.landing in
    let apart : from ≢ to = λ e. landing.0 (subst (λ (occupant : Occupant). IsOf p.side occupant) (sym (subst (λ (i : ℕ). piece_at p.pieces i ≡ Some (p.side, m.piece)) e m.occupant)) refl) in
    rw (no_castling p m.piece from to plain) (record {
      left = moved-left ready p.side m.piece from to promotion low apart;
      arrived = moved-arrived ready p.side m.piece from to promotion low';
      taken = en_passant_gone p m.piece from to promotion whole f t m.occupant;
      others = λ s nf nt beside_off. man_at-moved ready p.side m.piece from to promotion s nf nt ∙ prepared-others p m.piece from to s beside_off;
    })

-- castling
castles_pieces : (p : Position) (wing : Wing) (from to : ℕ) (promotion : Option Kind) → IsPosition p → from < 64 → (m : IsLegal p from to promotion) → m.piece ≡ King → (c : Castles p wing from to) → CastlesPieces p wing from c.rook (pieces_after p m.piece from to promotion)
unfolding pieces_after
castles_pieces p wing from to promotion is f m king c =
    let there : piece_at p.pieces from ≡ Some (p.side, King) = subst (λ (k : Kind). piece_at p.pieces from ≡ Some (p.side, k)) king m.occupant in
    let can = castling_can p wing from to is.pieces is.rights f there c in
    let rook = castling_rook p wing in
    let at : rook ≡ square_at c.rook (first_rank p.side) = castling_square p wing c.rook c.right in
    let whole = is.pieces.whole in
    let on : castling_of p m.piece from to ≡ Some wing = subst (λ (k : Kind). castling_of p k from to ≡ Some wing) (sym king) (castling_on p wing from to c) in
    let apart = two_pieces p.pieces p.side from rook can.king_there can.rook_there in
    let kl : from < length p.pieces = rw whole f in
    let rl : rook < length p.pieces = rw whole can.rook_low in
    rw on (record {
      king_there = castled-king p.pieces p.side wing from rook whole;
      rook_there = castled-rook p.pieces p.side wing from rook whole;
      left = λ s is nk nr. castled-lifted p.pieces p.side wing from rook s nk nr
          ∙ ⊎_elim (λ (e : s ≡ from). ap (piece_at (lifted p.pieces from rook)) e ∙ lifted_king p.pieces from rook kl (λ e. apart (sym e)))
          (λ (e : s ≡ square_at c.rook (first_rank p.side)). ap (piece_at (lifted p.pieces from rook)) (e ∙ sym at) ∙ lifted_rook p.pieces from rook rl) is;
      others = λ s a b nk nr. castled-other p.pieces p.side wing from rook s a (λ e. b (e ∙ at)) nk nr;
    })

length-after : (p : Position) (piece : Kind) (from to : ℕ) (promotion : Option Kind) → length (pieces_after p piece from to promotion) ≡ length p.pieces
unfolding pieces_after
length-after p piece from to promotion =
    elim (castling_of p piece from to) as (λ v. length (pieces_after_as p piece from to promotion v) ≡ length p.pieces) [
      | None ↦ length-moved (pieces_beside_move p piece from to) p.side piece from to promotion ∙ length-prepared p piece from to
      | Some wing ↦ length-castled p.pieces p.side wing from (castling_rook p wing)
    ]

-- a right that is kept
SideIs : (a b : Side) → Decides (same_side a b) (a ≡ b)
SideIs a b = (same_side-is a b, λ e. subst (λ (s : Side). same_side a s ≡ true) e (same_side-refl a))

KingIs : (piece : Kind) → Decides (is_king_kind piece) (piece ≡ King)
KingIs piece = (king_kind piece, λ e. rw e refl)

LostAt : (mover : Side) (piece : Kind) (from to : ℕ) (side : Side) (rook : ℕ) → Decides (is_lost mover piece from to side rook) (((mover ≡ side) × (piece ≡ King)) ⊎ (IsOnFile side rook from ⊎ IsOnFile side rook to))
LostAt mover piece from to side rook =
    Decides-or _ _ (Decides-and _ _ (SideIs mover side) (KingIs piece)) (Decides-or _ _ (OnFileAt side rook from) (OnFileAt side rook to))

right_keeps : (p : Position) (piece : Kind) (from to : ℕ) (side : Side) (right : Option ℕ) (rook : ℕ) → (right_after p.side piece from to side right ≡ Some rook) ↔ ((right ≡ Some rook) × KeepsRight p.side piece from to side rook)
right_keeps p piece from to side None rook = (λ e. absurd (cc), λ h. let e = h.0 in absurd (cc))
right_keeps p piece from to side (Some own) rook =
    let law = LostAt p.side piece from to side own in
    elim (is_lost p.side piece from to side own) as (λ v. is_lost p.side piece from to side own ≡ v → (cond v None (Some own) ≡ Some rook) ↔ ((Some own ≡ Some rook) × KeepsRight p.side piece from to side rook)) [
      | true ↦ λ e. (
        λ never. absurd (cc),
        λ h. let same : own ≡ rook = let q = h.0 in cc in
            let keeps : KeepsRight p.side piece from to side own = subst (λ (r : ℕ). KeepsRight p.side piece from to side r) (sym same) h.1 in
            absurd (⊎_elim (λ k. keeps.0 k) (λ on. ⊎_elim (λ a. keeps.1.0 a) (λ b. keeps.1.1 b) on) (law.0 e)),
      )
      | false ↦ λ e. (
        λ same. (
          same,
          let r : own ≡ rook = cc in subst (λ (r : ℕ). KeepsRight p.side piece from to side r) r
              (λ k. false≢true (sym e ∙ law.1 (inl k)), (λ a. false≢true (sym e ∙ law.1 (inr (inl a))), λ b. false≢true (sym e ∙ law.1 (inr (inr b))))),
        ),
        λ h. h.0,
      )
    ] refl

rights_keep : (p : Position) (piece : Kind) (from to : ℕ) (side : Side) (wing : Wing) (rook : ℕ) → (right_of (rights_after p piece from to) side wing ≡ Some rook) ↔ ((right_of p.rights side wing ≡ Some rook) × KeepsRight p.side piece from to side rook)
rights_keep p piece from to White HSide rook = right_keeps p piece from to White p.rights.wk rook
rights_keep p piece from to White ASide rook = right_keeps p piece from to White p.rights.wq rook
rights_keep p piece from to Black HSide rook = right_keeps p piece from to Black p.rights.bk rook
rights_keep p piece from to Black ASide rook = right_keeps p piece from to Black p.rights.bq rook

PawnIs : (piece : Kind) → Decides (is_pawn_kind piece) (piece ≡ Pawn)
PawnIs piece = (pawn_kind piece, λ e. rw e refl)

DoubleAt : (side : Side) (from to : ℕ) → Decides (is_double_step side from to) (((files_apart from to ≡ 0) × (rank_of_square from ≡ second_rank side)) × Ahead side (rank_of_square from) (rank_of_square to) 2)
DoubleAt side from to = Decides-and _ _ (Decides-and _ _ (Decides-eqb (files_apart from to) 0) (Decides-eqb (rank_of_square from) (second_rank side))) (AheadAt side (rank_of_square from) (rank_of_square to) 2)

passed-is : (side : Side) (piece : Kind) (from to at : ℕ) → (square_passed_by_pawn side piece from to ≡ Some at) ↔ PawnPassesSquare side piece from to at
passed-is side piece from to at =
    let law = Decides-and (is_pawn_kind piece) (is_double_step side from to) (PawnIs piece) (DoubleAt side from to) in
    elim (is_pawn_kind piece && is_double_step side from to) as (λ v. (is_pawn_kind piece && is_double_step side from to) ≡ v → (cond v (Some (on_the_way from to 1)) None ≡ Some at) ↔ PawnPassesSquare side piece from to at) [
      | true ↦ λ e. let h = law.0 e in (λ same. (h.0, (h.1, option_same (sym same))), λ p. ap Some (sym p.1.1))
      | false ↦ λ e. (λ never. absurd (cc), λ p. absurd (false≢true (sym e ∙ law.1 (p.0, p.1.0))))
    ] refl
  where
    option_same : {a b : ℕ} → Some a ≡ Some b → a ≡ b
    option_same {a} {b} e = cc

begins : (p : Position) (piece : Kind) (to : ℕ) → (piece ≡ Pawn) ⊎ IsOf (other p.side) (piece_at p.pieces to) → half_after p piece to ≡ 0
begins p piece to h =
    let law = Decides-or (is_pawn_kind piece) (is_of_side (other p.side) (piece_at p.pieces to)) (PawnIs piece) (Of (other p.side) (piece_at p.pieces to)) in
    rw (law.1 h) refl

counts : (p : Position) (piece : Kind) (to : ℕ) → piece ≢ Pawn → (¬ IsOf (other p.side) (piece_at p.pieces to)) → half_after p piece to ≡ min (p.half + 1) top_count
counts p piece to officer empty =
    let law = Decides-or (is_pawn_kind piece) (is_of_side (other p.side) (piece_at p.pieces to)) (PawnIs piece) (Of (other p.side) (piece_at p.pieces to)) in
    let test : (is_pawn_kind piece || is_of_side (other p.side) (piece_at p.pieces to)) ≡ false = false_from_ne_true _ (λ e. absurd (⊎_elim officer empty (law.0 e))) in
    rw test refl

plays : (p : Position) (from to : ℕ) (promotion : Option Kind) → IsPosition p → from < 64 → to < 64 → (m : IsLegal p from to promotion) → Plays p from to promotion (with_legal_en_passant (follow p m.piece from to promotion))
plays p from to promotion is f t m =
    let q = follow p m.piece from to promotion in
    let only = settled-only q in
    let rights : (with_legal_en_passant q).rights ≡ rights_after p m.piece from to = ap (λ (x : Position). x.rights) only in
    let pieces : (with_legal_en_passant q).pieces ≡ pieces_after p m.piece from to promotion = ap (λ (x : Position). x.pieces) only in
    let half : (with_legal_en_passant q).half ≡ half_after p m.piece to = ap (λ (x : Position). x.half) only in
    record {
      piece = m.piece;
      occupant = m.occupant;
      whole = ap length pieces ∙ (length-after p m.piece from to promotion ∙ is.pieces.whole);
      moved = λ plain. rw pieces (moves_pieces p from to promotion is.pieces.whole f t m plain);
      castled = λ wing king c. rw pieces (castles_pieces p wing from to promotion is f m king c);
      side = ap (λ (x : Position). x.side) only;
      rights = λ side wing rook. rw rights (rights_keep p m.piece from to side wing rook);
      passant = λ at. let here = settled-passant q at in let law = passed-is p.side m.piece from to at in
          (λ h. let parts = here.0 h in (law.0 parts.0, parts.1), λ h. here.1 (law.1 h.0, h.1));
      begun = λ h. half ∙ begins p m.piece to h;
      counted = λ officer empty. half ∙ counts p m.piece to officer empty;
      full = ap (λ (x : Position). x.full) only;
      variant = ap (λ (x : Position). x.rights.variant) only;
    }

pub play-law : PlayLaw
unfolding position_after
play-law p from to promotion is f t m =
    let kind : kind_on (piece_at p.pieces from) ≡ m.piece = let occupant = m.occupant in rw occupant refl in
    rw kind (plays p from to promotion is f t m)
