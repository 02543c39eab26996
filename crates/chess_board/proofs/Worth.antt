-- The worth of the pieces: one each, and for a pawn the ranks that it still has to go. A legal move never adds to it,
-- and a pawn's move or a capture takes from it.
use Rattle.std.proofs.Common.{◌≡◌, ◌≢◌, ◌+◌, ◌-◌, ◌<◌, ◌≤◌, ◌⊎◌, ◌∙◌, ℕ, zero, suc, [], ◌∷◌, true, false, refl, inl, inr, ⊎_elim, ap, subst, sym, Option, Some, None, length, set, arith, get_or-set_other, length-set, min}
use Rattle.chess_board.specs.declared.board.Side.{Side}
use Rattle.chess_board.specs.declared.board.Side.TheVariants.{White, Black}
use Rattle.chess_board.specs.declared.board.Kind.{Kind}
use Rattle.chess_board.specs.declared.board.Kind.TheVariants.{Pawn, Knight, Bishop, Rook, Queen, King}
use Rattle.std.proofs.lemmas.Bool.{cases_eq}
use Rattle.chess_board.specs.declared.board.Variant.{Variant}
use Rattle.chess_board.specs.declared.board.Variant.TheVariants.{Normal, Fischer}
use Rattle.chess_board.specs.declared.board.Wing.{Wing}
use Rattle.chess_board.specs.Board.{Occupant, Pieces, piece_at, other, is_of_side, is_pawn_kind, rank_of_square, square_at}
use Rattle.chess_board.specs.Laws.{IsLegal, IsOnFile, Castles}
use Rattle.chess_board.specs.Position.{Position}
use Rattle.chess_board.specs.Rules.{becomes, first_rank, castling_file, castling_of, castling_rook, may_go_to, pieces_after_step, pieces_after_as, pieces_without_en_passant, pieces_after_castling, pieces_beside_move, pieces_after, beside, is_en_passant}
use Rattle.chess_board.specs.Play.{IsPosition, half_after, follow, with_legal_en_passant, position_after, top_count}
use Rattle.chess_board.proofs.Moved.{apart}
use Rattle.chess_board.proofs.Prepared.{IsMove, IsForward, move_of_legal, promoted-officer, pawn_ahead}
use Rattle.chess_board.proofs.Castled.{MayCastle, aims, castling_can, castling_square, crowned, king_to, length_crowned, length_lifted, lifted, lifted_none, rook_to, two_pieces}
use Rattle.chess_board.proofs.Plays.{prepared_ready, can_move, kind-is}
use Rattle.chess_board.proofs.Legal.{castling_found, legal-law, pawn_kind}
use Rattle.chess_board.proofs.Settled.{settled-only}

-- the ranks that a pawn has to go
abbrev steps : Kind → Side → ℕ → ℕ
steps Pawn White s = 7 - rank_of_square s
steps Pawn Black s = rank_of_square s
steps _ side s = 0

abbrev worth : ℕ → Occupant → ℕ
worth s None = 0
worth s (Some occupant) = 1 + steps occupant.1 occupant.0 s

abbrev worth_from : ℕ → Pieces → ℕ
worth_from s [] = 0
worth_from s (occupant ∷ pieces) = worth s occupant + worth_from (suc s) pieces

abbrev pub total : Pieces → ℕ
total pieces = worth_from 0 pieces

worth_from-set : (s : ℕ) (pieces : Pieces) (i : ℕ) (y : Occupant) → i < length pieces → worth_from s (set pieces i y) + worth (s + i) (piece_at pieces i) ≡ worth_from s pieces + worth (s + i) y
worth_from-set s [] i y h = absurd (omega arith)
worth_from-set s (x ∷ pieces) zero y h = let n : s + 0 ≡ s = omega arith in rw n (omega arith)
worth_from-set s (x ∷ pieces) (suc i) y h =
    let n : s + suc i ≡ suc s + i = omega arith in
    let rest = worth_from-set (suc s) pieces i y (omega arith) in
    rw n (omega arith)

total-set : (pieces : Pieces) (i : ℕ) (y : Occupant) → i < length pieces → total (set pieces i y) + worth i (piece_at pieces i) ≡ total pieces + worth i y
total-set pieces i y h = let n : 0 + i ≡ i = omega arith in subst (λ (k : ℕ). total (set pieces i y) + worth k (piece_at pieces i) ≡ total pieces + worth k y) n (worth_from-set 0 pieces i y h)

total-moved : (pieces : Pieces) (side : Side) (piece : Kind) (from to : ℕ) (promotion : Option Kind) → length pieces ≡ 64 → from < 64 → to < 64 → from ≢ to →
    total (pieces_after_step pieces side piece from to promotion) + (worth to (piece_at pieces to) + worth from (piece_at pieces from)) ≡ total pieces + worth to (Some (side, becomes piece promotion))
total-moved pieces side piece from to promotion whole f t other =
    let less : from < length pieces = rw whole f in
    let left = total-set pieces from None less in
    let less' : to < length (set pieces from None) = rw (length-set, whole) t in
    let reached = total-set (set pieces from None) to (Some (side, becomes piece promotion)) less' in
    let target : piece_at (set pieces from None) to ≡ piece_at pieces to = get_or-set_other pieces from to None None (λ e. other (sym e)) in
    let reached' : total (pieces_after_step pieces side piece from to promotion) + worth to (piece_at pieces to) ≡ total (set pieces from None) + worth to (Some (side, becomes piece promotion)) = rw target at reached in
    omega arith

-- castling adds nothing
castled_total : {pieces : Pieces} {side : Side} {wing : Wing} {king rook : ℕ} → MayCastle pieces side wing king rook → total (pieces_after_castling pieces side wing king rook) ≡ total pieces
castled_total {pieces} {side} {wing} {king} {rook} can =
    let apart = two_pieces pieces side king rook can.king_there can.rook_there in
    let kl : king < length pieces = rw can.whole can.king_low in
    let rl : rook < length pieces = rw can.whole can.rook_low in
    let aim = aims side wing in
    let first = total-set pieces king None kl in
    let first' : total (set pieces king None) + worth king (Some (side, King)) ≡ total pieces + worth king None = rw can.king_there at first in
    let rook_still : piece_at (set pieces king None) rook ≡ Some (side, Rook) = get_or-set_other pieces king rook None None apart ∙ can.rook_there in
    let second = total-set (set pieces king None) rook None (rw (length-set pieces king None) rl) in
    let second' : total (lifted pieces king rook) + worth rook (Some (side, Rook)) ≡ total (set pieces king None) + worth rook None = rw rook_still at second in
    let king_none = lifted_none pieces king rook (king_to side wing) kl rl (λ e. apart (sym e)) can.king_free in
    let third = total-set (lifted pieces king rook) (king_to side wing) (Some (side, King)) (rw (length_lifted pieces king rook, can.whole) aim.king_low) in
    let third' : total (crowned pieces side wing king rook) + worth (king_to side wing) None ≡ total (lifted pieces king rook) + worth (king_to side wing) (Some (side, King)) = rw king_none at third in
    let rook_none : piece_at (crowned pieces side wing king rook) (rook_to side wing) ≡ None =
    get_or-set_other (lifted pieces king rook) (king_to side wing) (rook_to side wing) _ None (λ e. aim.apart (sym e)) ∙ lifted_none pieces king rook (rook_to side wing) kl rl (λ e. apart (sym e)) can.rook_free in
    let fourth = total-set (crowned pieces side wing king rook) (rook_to side wing) (Some (side, Rook)) (rw (length_crowned pieces side wing king rook, can.whole) aim.rook_low) in
    let fourth' : total (pieces_after_castling pieces side wing king rook) + worth (rook_to side wing) None ≡ total (crowned pieces side wing king rook) + worth (rook_to side wing) (Some (side, Rook)) = rw rook_none at fourth in
    omega (arith, first', second', third', fourth')

-- the square that spells castling holds no piece of the other side
spelled_on : (variant : Variant) (side : Side) (wing : Wing) (rook to : ℕ) → IsOnFile side (castling_file variant wing rook) to → (to ≡ king_to side wing) ⊎ (to ≡ square_at rook (first_rank side))
spelled_on Normal side wing rook to on = let a = on.0 in let b = on.1 in inl (omega arith)
spelled_on Fischer side wing rook to on = let a = on.0 in let b = on.1 in inr (omega arith)

other_not : (side : Side) (piece : Kind) → is_of_side (other side) (Some (side, piece)) ≡ false
other_not White piece = refl
other_not Black piece = refl

takes_none : (p : Position) (wing : Wing) (from to : ℕ) → MayCastle p.pieces p.side wing from (castling_rook p wing) → Castles p wing from to → is_of_side (other p.side) (piece_at p.pieces to) ≡ false
takes_none p wing from to can c =
    let foe = is_of_side (other p.side) in
    let at = castling_square p wing c.rook c.right in
    let own_rook = λ (s : ℕ) (e : s ≡ castling_rook p wing). ap foe (ap (piece_at p.pieces) e ∙ can.rook_there) ∙ other_not p.side Rook in
    let own_king = λ (s : ℕ) (e : s ≡ from). ap foe (ap (piece_at p.pieces) e ∙ can.king_there) ∙ other_not p.side King in
    ⊎_elim (λ (e : to ≡ king_to p.side wing).
    ap (λ (s : ℕ). foe (piece_at p.pieces s)) e ∙
    ⊎_elim (λ (k : king_to p.side wing ≡ from). own_king (king_to p.side wing) k)
    (λ (nk : king_to p.side wing ≢ from).
    ⊎_elim (λ (r : king_to p.side wing ≡ castling_rook p wing). own_rook (king_to p.side wing) r)
    (λ (nr : king_to p.side wing ≢ castling_rook p wing). ap foe (can.king_free nk nr))
    (cases_eq (king_to p.side wing) (castling_rook p wing)))
    (cases_eq (king_to p.side wing) from))
    (λ (e : to ≡ square_at c.rook (first_rank p.side)). own_rook to (e ∙ sym at))
    (spelled_on p.rights.variant p.side wing c.rook to c.spelled)

pawn_total : (p : Position) (from to : ℕ) → length p.pieces ≡ 64 → from < 64 → to < 64 → total (pieces_beside_move p Pawn from to) ≤ total p.pieces
pawn_total p from to whole f t =
    let low : beside from to < 64 = grind arith in
    let less : beside from to < length p.pieces = rw whole low in
    let sums = total-set p.pieces (beside from to) None less in
    elim (is_en_passant p from to) as (λ v. total (pieces_without_en_passant p.pieces v (beside from to)) ≤ total p.pieces) [ true ↦ omega arith | false ↦ omega arith ]

prepared_total : (p : Position) (piece : Kind) (from to : ℕ) → length p.pieces ≡ 64 → from < 64 → to < 64 → total (pieces_beside_move p piece from to) ≤ total p.pieces
prepared_total p Pawn from to whole f t = pawn_total p from to whole f t
prepared_total p King from to whole f t = omega arith
prepared_total p Knight from to whole f t = omega arith
prepared_total p Bishop from to whole f t = omega arith
prepared_total p Rook from to whole f t = omega arith
prepared_total p Queen from to whole f t = omega arith

-- a pawn that goes forward is worth less, whatever it becomes
pawn_falls : (side : Side) (from to : ℕ) (new : Kind) → from < 64 → to < 64 → IsForward side (rank_of_square from) (rank_of_square to) → worth to (Some (side, new)) < worth from (Some (side, Pawn))
pawn_falls Black from to Pawn f t h = omega arith
pawn_falls Black from to new f t h = omega arith
pawn_falls side from to Pawn f t h = let low : rank_of_square to < 8 = grind arith in omega arith
pawn_falls side from to new f t h = let low : rank_of_square to < 8 = grind arith in omega arith

-- an officer is worth one
officer_worth : (side : Side) (piece : Kind) (s : ℕ) → is_pawn_kind piece ≡ false → worth s (Some (side, piece)) ≡ 1
officer_worth side Pawn s e = absurd (cc)
officer_worth side Knight s e = refl
officer_worth side Bishop s e = refl
officer_worth side Rook s e = refl
officer_worth side Queen s e = refl
officer_worth side King s e = refl

some_worth : (side : Side) (s : ℕ) (occupant : Occupant) → is_of_side side occupant ≡ true → 1 ≤ worth s occupant
some_worth side s None e = absurd (cc)
some_worth side s (Some occupant) e = omega arith

-- how a legal move changes what the pieces are worth, and the half-move count
abbrev pub Wears : Position → Position → Type 0
Wears p q = (total q.pieces < total p.pieces) ⊎ ((total q.pieces ≤ total p.pieces) × (q.half ≡ min (p.half + 1) top_count))

abbrev Pieces_wear : Position → Kind → ℕ → Pieces → Type 0
Pieces_wear p piece to after = (total after < total p.pieces) ⊎ ((total after ≤ total p.pieces) × (half_after p piece to ≡ min (p.half + 1) top_count))

officer_wears : (p : Position) (piece : Kind) (to : ℕ) (after : Pieces) → is_pawn_kind piece ≡ false → total after + worth to (piece_at p.pieces to) ≤ total p.pieces → Pieces_wear p piece to after
officer_wears p piece to after officer sums =
    elim (is_of_side (other p.side) (piece_at p.pieces to)) as (λ v. is_of_side (other p.side) (piece_at p.pieces to) ≡ v → Pieces_wear p piece to after) [
      | false ↦ λ e. inr (omega arith, rw (officer, e) refl)
      | true ↦ λ e. let some = some_worth (other p.side) to (piece_at p.pieces to) e in inl (omega arith)
    ] refl

moved_wears : (p : Position) (from to : ℕ) (promotion : Option Kind) → IsPosition p → from < 64 → to < 64 → (m : IsMove p from to promotion) → castling_of p m.piece from to ≡ None →
    Pieces_wear p m.piece to (pieces_after_step (pieces_beside_move p m.piece from to) p.side m.piece from to promotion)
moved_wears p from to promotion is f t m none =
    let ready = prepared_ready p m.piece from to is.pieces f t m.occupant in
    let can = can_move p from to promotion f t m none ready in
    let before = prepared_total p m.piece from to is.pieces.whole f t in
    let sums = total-moved (pieces_beside_move p m.piece from to) p.side m.piece from to promotion ready.are.whole f t (apart can) in
    let sums' : total (pieces_after_step (pieces_beside_move p m.piece from to) p.side m.piece from to promotion) + (worth to (piece_at p.pieces to) + worth from (Some (p.side, m.piece))) ≡ total (pieces_beside_move p m.piece from to) + worth to (Some (p.side, becomes m.piece promotion)) =
    rw (ready.to_same, can.occupant) at sums in
    elim (is_pawn_kind m.piece) as (λ v. is_pawn_kind m.piece ≡ v → Pieces_wear p m.piece to (pieces_after_step (pieces_beside_move p m.piece from to) p.side m.piece from to promotion)) [
      | true ↦ λ e.
          let pawn : m.piece ≡ Pawn = pawn_kind m.piece e in
          let ahead = pawn_ahead p from to (subst (λ (k : Kind). may_go_to p k from to ≡ true) pawn m.way) in
          let falls = pawn_falls p.side from to (becomes m.piece promotion) f t ahead in
          let falls' : worth to (Some (p.side, becomes m.piece promotion)) < worth from (Some (p.side, m.piece)) = subst (λ (k : Kind). worth to (Some (p.side, becomes m.piece promotion)) < worth from (Some (p.side, k))) (sym pawn) falls in
          inl (omega arith)
      | false ↦ λ e.
          let one = officer_worth p.side m.piece from e in
          let same = officer_worth p.side (becomes m.piece promotion) to (promoted-officer p.side m.piece to promotion e m.promoted) in
          officer_wears p m.piece to _ e (omega arith)
    ] refl

castled_wears : (p : Position) (wing : Wing) (from to : ℕ) (promotion : Option Kind) → IsPosition p → from < 64 → (m : IsMove p from to promotion) → castling_of p m.piece from to ≡ Some wing →
    Pieces_wear p m.piece to (pieces_after_castling p.pieces p.side wing from (castling_rook p wing))
castled_wears p wing from to promotion is f m e =
    let found = castling_found p m.piece from to wing e in
    let king : piece_at p.pieces from ≡ Some (p.side, King) = subst (λ (k : Kind). piece_at p.pieces from ≡ Some (p.side, k)) found.0 m.occupant in
    let can = castling_can p wing from to is.pieces is.rights f king found.1 in
    let same = castled_total can in
    let officer : is_pawn_kind m.piece ≡ false = ap is_pawn_kind found.0 in
    let none = takes_none p wing from to can found.1 in
    inr (omega (arith, same), rw (officer, none) refl)

pieces_wear_as : (p : Position) (from to : ℕ) (promotion : Option Kind) → IsPosition p → from < 64 → to < 64 → (m : IsMove p from to promotion) → Pieces_wear p m.piece to (pieces_after p m.piece from to promotion)
unfolding pieces_after
pieces_wear_as p from to promotion is f t m =
    elim (castling_of p m.piece from to) as (λ v. castling_of p m.piece from to ≡ v → Pieces_wear p m.piece to (pieces_after_as p m.piece from to promotion v)) [
      | None ↦ λ none. moved_wears p from to promotion is f t m none
      | Some wing ↦ λ e. castled_wears p wing from to promotion is f m e
    ] refl

-- a legal move takes from what the pieces are worth, or adds nothing and is counted
pub wears : (p : Position) (from to : ℕ) (promotion : Option Kind) → IsPosition p → from < 64 → to < 64 → IsLegal p from to promotion → Wears p (position_after p from to promotion)
unfolding position_after
wears p from to promotion is f t legal =
    let m = move_of_legal p from to promotion ((legal-law p from to promotion).1 legal) in
    let kind = kind-is p from to promotion m in
    let wear = pieces_wear_as p from to promotion is f t m in
    let q = follow p m.piece from to promotion in
    let only = settled-only q in
    let pieces : (with_legal_en_passant q).pieces ≡ pieces_after p m.piece from to promotion = ap (λ (x : Position). x.pieces) only in
    let half : (with_legal_en_passant q).half ≡ half_after p m.piece to = ap (λ (x : Position). x.half) only in
    rw (kind, pieces, half) wear
