-- What castling leaves: the pieces keep what all positions keep, and squares that it does not name stay.
use Rattle.std.proofs.Common.{◌≡◌, ◌≢◌, ◌+◌, ◌<◌, ◌≤◌, ℕ, Bool, true, false, ◌&&◌, not, refl, inl, inr, ⊎_elim, ap, sym, ◌∙◌, Option, Some, None, length, set, arith, get_or-set_other, get_or-set_same, length-set}
use Rattle.std.specs.Prelude.{count_by}
use Rattle.std.specs.Option.{unwrap_or}
use Rattle.std.proofs.lemmas.Bool.{cases_eq, cases_lt, and_parts, ltb-true}
use mathlib.Core.Bool.{and-false}
use Rattle.chess_board.specs.declared.board.Kind.{Kind}
use Rattle.chess_board.specs.declared.board.Kind.TheVariants.{Rook, King}
use Rattle.chess_board.specs.declared.board.Side.{Side}
use Rattle.chess_board.specs.declared.board.Side.TheVariants.{White, Black}
use Rattle.chess_board.specs.declared.board.Variant.{Variant}
use Rattle.chess_board.specs.declared.board.Wing.{Wing}
use Rattle.chess_board.specs.declared.board.Wing.TheVariants.{HSide, ASide}
use Rattle.chess_board.specs.Board.{Occupant, Pieces, piece_at, is_of_side, is_king, is_rook, file_of, rank_of_square, square_at, some_below, each_square, squares}
use Rattle.chess_board.specs.Position.{Position}
use Rattle.chess_board.specs.Rules.{first_rank, right_of, king_aim, rook_aim, may_castle, castling_rook, pieces_after_castling}
use Rattle.chess_board.specs.Play.{ArePieces, AreRights, is_at_home, is_supported, is_king_for, is_end_rank, is_any_pawn}
use Rattle.chess_board.specs.Laws.{FromTo, Castles}
use Rattle.chess_board.proofs.Below.{each_below-all, each_below-at}
use Rattle.chess_board.proofs.Keeps.{rook-is}
use Rattle.chess_board.proofs.Legal.{CastlesAt}
use Rattle.chess_board.proofs.Moved.{bit, count-set}

-- a side's first rank, and the squares that king and rook reach
pub rank_low : (side : Side) → first_rank side ≤ 7
rank_low White = omega arith
rank_low Black = omega arith

abbrev pub king_to : Side → Wing → ℕ
king_to side wing = square_at (king_aim wing) (first_rank side)

abbrev pub rook_to : Side → Wing → ℕ
rook_to side wing = square_at (rook_aim wing) (first_rank side)

pub record AimsAt (side : Side) (wing : Wing) : Type 0 where
  pub king : king_aim wing < 8
  pub rook : rook_aim wing < 8
  pub king_low : king_to side wing < 64
  pub rook_low : rook_to side wing < 64
  pub apart : king_to side wing ≢ rook_to side wing

pub aims : (side : Side) (wing : Wing) → AimsAt side wing
aims White HSide = record { king = omega arith; rook = omega arith; king_low = omega arith; rook_low = omega arith; apart = λ e. absurd (omega arith) }
aims White ASide = record { king = omega arith; rook = omega arith; king_low = omega arith; rook_low = omega arith; apart = λ e. absurd (omega arith) }
aims Black HSide = record { king = omega arith; rook = omega arith; king_low = omega arith; rook_low = omega arith; apart = λ e. absurd (omega arith) }
aims Black ASide = record { king = omega arith; rook = omega arith; king_low = omega arith; rook_low = omega arith; apart = λ e. absurd (omega arith) }

-- what castling needs of the board
pub record MayCastle (pieces : Pieces) (side : Side) (wing : Wing) (king rook : ℕ) : Type 0 where
  pub whole : length pieces ≡ 64
  pub king_low : king < 64
  pub rook_low : rook < 64
  pub king_there : piece_at pieces king ≡ Some (side, King)
  pub rook_there : piece_at pieces rook ≡ Some (side, Rook)
  pub king_free : king_to side wing ≢ king → king_to side wing ≢ rook → piece_at pieces (king_to side wing) ≡ None
  pub rook_free : rook_to side wing ≢ king → rook_to side wing ≢ rook → piece_at pieces (rook_to side wing) ≡ None

pub two_pieces : (pieces : Pieces) (side : Side) (king rook : ℕ) → piece_at pieces king ≡ Some (side, King) → piece_at pieces rook ≡ Some (side, Rook) → rook ≢ king
two_pieces pieces side king rook k r same =
    let first : Side × Kind = (side, King) in
    let second : Side × Kind = (side, Rook) in
    let both : Some first ≡ Some second = sym k ∙ (ap (piece_at pieces) (sym same) ∙ r) in
    let pair : first ≡ second = cc in
    let kind : King ≡ Rook = ap (λ (x : Side × Kind). x.1) pair in
    absurd (cc)

-- the board from which both are taken up
abbrev pub lifted : Pieces → ℕ → ℕ → Pieces
lifted pieces king rook = set (set pieces king None) rook None

pub lifted_other : (pieces : Pieces) (king rook s : ℕ) → s ≢ king → s ≢ rook → piece_at (lifted pieces king rook) s ≡ piece_at pieces s
lifted_other pieces king rook s nk nr = get_or-set_other (set pieces king None) rook s None None nr ∙ get_or-set_other pieces king s None None nk

pub lifted_king : (pieces : Pieces) (king rook : ℕ) → king < length pieces → king ≢ rook → piece_at (lifted pieces king rook) king ≡ None
lifted_king pieces king rook low apart = get_or-set_other (set pieces king None) rook king None None apart ∙ get_or-set_same pieces king None None low

pub lifted_rook : (pieces : Pieces) (king rook : ℕ) → rook < length pieces → piece_at (lifted pieces king rook) rook ≡ None
lifted_rook pieces king rook low = let less : rook < length (set pieces king None) = rw (length-set pieces king None) low in get_or-set_same (set pieces king None) rook None None less

pub lifted_none : (pieces : Pieces) (king rook s : ℕ) → king < length pieces → rook < length pieces → king ≢ rook → (s ≢ king → s ≢ rook → piece_at pieces s ≡ None) → piece_at (lifted pieces king rook) s ≡ None
lifted_none pieces king rook s kl rl apart free =
    ⊎_elim (λ (e : s ≡ king). ap (piece_at (lifted pieces king rook)) e ∙ lifted_king pieces king rook kl apart)
    (λ (nk : s ≢ king). ⊎_elim (λ (e : s ≡ rook). ap (piece_at (lifted pieces king rook)) e ∙ lifted_rook pieces king rook rl)
    (λ (nr : s ≢ rook). lifted_other pieces king rook s nk nr ∙ free nk nr) (cases_eq s rook)) (cases_eq s king)

-- what stands where after castling
abbrev pub crowned : Pieces → Side → Wing → ℕ → ℕ → Pieces
crowned pieces side wing king rook = set (lifted pieces king rook) (king_to side wing) (Some (side, King))

pub length_lifted : (pieces : Pieces) (king rook : ℕ) → length (lifted pieces king rook) ≡ length pieces
length_lifted pieces king rook = length-set (set pieces king None) rook None ∙ length-set pieces king None

pub length_crowned : (pieces : Pieces) (side : Side) (wing : Wing) (king rook : ℕ) → length (crowned pieces side wing king rook) ≡ length pieces
length_crowned pieces side wing king rook = length-set (lifted pieces king rook) (king_to side wing) _ ∙ length_lifted pieces king rook

pub length-castled : (pieces : Pieces) (side : Side) (wing : Wing) (king rook : ℕ) → length (pieces_after_castling pieces side wing king rook) ≡ length pieces
length-castled pieces side wing king rook = length-set (crowned pieces side wing king rook) (rook_to side wing) _ ∙ length_crowned pieces side wing king rook

pub castled-rook : (pieces : Pieces) (side : Side) (wing : Wing) (king rook : ℕ) → length pieces ≡ 64 → piece_at (pieces_after_castling pieces side wing king rook) (rook_to side wing) ≡ Some (side, Rook)
castled-rook pieces side wing king rook whole =
    let less : rook_to side wing < length (crowned pieces side wing king rook) = rw (length_crowned pieces side wing king rook, whole) (aims side wing).rook_low in
    get_or-set_same (crowned pieces side wing king rook) (rook_to side wing) _ None less

pub castled-off : (pieces : Pieces) (side : Side) (wing : Wing) (king rook s : ℕ) → s ≢ rook_to side wing → piece_at (pieces_after_castling pieces side wing king rook) s ≡ piece_at (crowned pieces side wing king rook) s
castled-off pieces side wing king rook s nr = get_or-set_other (crowned pieces side wing king rook) (rook_to side wing) s _ None nr

pub castled-king : (pieces : Pieces) (side : Side) (wing : Wing) (king rook : ℕ) → length pieces ≡ 64 → piece_at (pieces_after_castling pieces side wing king rook) (king_to side wing) ≡ Some (side, King)
castled-king pieces side wing king rook whole =
    let less : king_to side wing < length (lifted pieces king rook) = rw (length_lifted pieces king rook, whole) (aims side wing).king_low in
    castled-off pieces side wing king rook (king_to side wing) (aims side wing).apart ∙ get_or-set_same (lifted pieces king rook) (king_to side wing) _ None less

pub castled-lifted : (pieces : Pieces) (side : Side) (wing : Wing) (king rook s : ℕ) → s ≢ king_to side wing → s ≢ rook_to side wing → piece_at (pieces_after_castling pieces side wing king rook) s ≡ piece_at (lifted pieces king rook) s
castled-lifted pieces side wing king rook s nk nr = castled-off pieces side wing king rook s nr ∙ get_or-set_other (lifted pieces king rook) (king_to side wing) s _ None nk

pub castled-other : (pieces : Pieces) (side : Side) (wing : Wing) (king rook s : ℕ) → s ≢ king → s ≢ rook → s ≢ king_to side wing → s ≢ rook_to side wing → piece_at (pieces_after_castling pieces side wing king rook) s ≡ piece_at pieces s
castled-other pieces side wing king rook s a b nk nr = castled-lifted pieces side wing king rook s nk nr ∙ lifted_other pieces king rook s a b

-- it leaves as many pieces of each kind
pub count-castled : (q : Occupant → Bool) {pieces : Pieces} {side : Side} {wing : Wing} {king rook : ℕ} → MayCastle pieces side wing king rook → count_by q (pieces_after_castling pieces side wing king rook) ≡ count_by q pieces
count-castled q {pieces} {side} {wing} {king} {rook} can =
    let apart = two_pieces pieces side king rook can.king_there can.rook_there in
    let kl : king < length pieces = rw can.whole can.king_low in
    let rl : rook < length pieces = rw can.whole can.rook_low in
    let aim = aims side wing in
    let first = count-set q pieces king None kl in
    let first' : count_by q (set pieces king None) + bit (q (Some (side, King))) ≡ count_by q pieces + bit (q None) = rw can.king_there at first in
    let rook_still : piece_at (set pieces king None) rook ≡ Some (side, Rook) = get_or-set_other pieces king rook None None apart ∙ can.rook_there in
    let second = count-set q (set pieces king None) rook None (rw (length-set pieces king None) rl) in
    let second' : count_by q (lifted pieces king rook) + bit (q (Some (side, Rook))) ≡ count_by q (set pieces king None) + bit (q None) = rw rook_still at second in
    let king_none = lifted_none pieces king rook (king_to side wing) kl rl (λ e. apart (sym e)) can.king_free in
    let third = count-set q (lifted pieces king rook) (king_to side wing) (Some (side, King)) (rw (length_lifted pieces king rook, can.whole) aim.king_low) in
    let third' : count_by q (crowned pieces side wing king rook) + bit (q None) ≡ count_by q (lifted pieces king rook) + bit (q (Some (side, King))) = rw king_none at third in
    let rook_none : piece_at (crowned pieces side wing king rook) (rook_to side wing) ≡ None =
    get_or-set_other (lifted pieces king rook) (king_to side wing) (rook_to side wing) _ None (λ e. aim.apart (sym e)) ∙ lifted_none pieces king rook (rook_to side wing) kl rl (λ e. apart (sym e)) can.rook_free in
    let fourth = count-set q (crowned pieces side wing king rook) (rook_to side wing) (Some (side, Rook)) (rw (length_crowned pieces side wing king rook, can.whole) aim.rook_low) in
    let fourth' : count_by q (pieces_after_castling pieces side wing king rook) + bit (q None) ≡ count_by q (crowned pieces side wing king rook) + bit (q (Some (side, Rook))) = rw rook_none at fourth in
    omega (arith, first', second', third', fourth')

-- no pawn comes to the end of the board
pawn_off : (s : ℕ) (occupant : Occupant) → is_any_pawn occupant ≡ false → not (is_end_rank (rank_of_square s) && is_any_pawn occupant) ≡ true
pawn_off s occupant e = rw (e, and-false (is_end_rank (rank_of_square s))) refl

pawns-castled : {pieces : Pieces} {side : Side} {wing : Wing} {king rook : ℕ} → ArePieces pieces → MayCastle pieces side wing king rook →
    each_square (λ s. not (is_end_rank (rank_of_square s) && is_any_pawn (piece_at (pieces_after_castling pieces side wing king rook) s))) ≡ true
pawns-castled {pieces} {side} {wing} {king} {rook} are can =
    let after = pieces_after_castling pieces side wing king rook in
    let apart = two_pieces pieces side king rook can.king_there can.rook_there in
    let kl : king < length pieces = rw can.whole can.king_low in
    let rl : rook < length pieces = rw can.whole can.rook_low in
    let test = λ (s : ℕ). not (is_end_rank (rank_of_square s) && is_any_pawn (piece_at after s)) in
    let old = λ (s : ℕ). not (is_end_rank (rank_of_square s) && is_any_pawn (piece_at pieces s)) in
    let of = λ (s t : ℕ) (o : Occupant) (e : s ≡ t) (there : piece_at after t ≡ o) (none : is_any_pawn o ≡ false).
    pawn_off s (piece_at after s) (ap (λ (i : ℕ). is_any_pawn (piece_at after i)) e ∙ (ap is_any_pawn there ∙ none)) in
    each_below-all squares test (λ s low.
    ⊎_elim (λ (e : s ≡ rook_to side wing). of s (rook_to side wing) (Some (side, Rook)) e (castled-rook pieces side wing king rook can.whole) refl)
    (λ (nr : s ≢ rook_to side wing).
    ⊎_elim (λ (e : s ≡ king_to side wing). of s (king_to side wing) (Some (side, King)) e (castled-king pieces side wing king rook can.whole) refl)
    (λ (nk : s ≢ king_to side wing).
    let here = castled-lifted pieces side wing king rook s nk nr in
    ⊎_elim (λ (e : s ≡ king). of s s None refl (here ∙ (ap (piece_at (lifted pieces king rook)) e ∙ lifted_king pieces king rook kl (λ e. apart (sym e)))) refl)
    (λ (a : s ≢ king).
    ⊎_elim (λ (e : s ≡ rook). of s s None refl (here ∙ (ap (piece_at (lifted pieces king rook)) e ∙ lifted_rook pieces king rook rl)) refl)
    (λ (b : s ≢ rook). rw (here ∙ lifted_other pieces king rook s a b) (each_below-at squares s old are.pawns low))
    (cases_eq s rook))
    (cases_eq s king))
    (cases_eq s (king_to side wing)))
    (cases_eq s (rook_to side wing)))

pub castled-keeps : {pieces : Pieces} {side : Side} {wing : Wing} {king rook : ℕ} → ArePieces pieces → MayCastle pieces side wing king rook → ArePieces (pieces_after_castling pieces side wing king rook)
castled-keeps {pieces} {side} {wing} {king} {rook} are can = record {
  whole = length-castled pieces side wing king rook ∙ are.whole;
  white_king = count-castled (is_king White) can ∙ are.white_king;
  black_king = count-castled (is_king Black) can ∙ are.black_king;
  white_few = let same = count-castled (is_of_side White) can in let few = are.white_few in omega arith;
  black_few = let same = count-castled (is_of_side Black) can in let few = are.black_few in omega arith;
  pawns = pawns-castled are can;
}

-- the parts of a right that is supported
pub record IsHome (variant : Variant) (pieces : Pieces) (side : Side) (wing : Wing) (rook : ℕ) : Type 0 where
  pub inside : rook < 8
  pub rook_there : is_rook side (piece_at pieces (square_at rook (first_rank side))) ≡ true
  pub kings : some_below 8 (is_king_for variant pieces side wing rook) ≡ true

pub home_parts : (variant : Variant) (pieces : Pieces) (side : Side) (wing : Wing) (rook : ℕ) → is_at_home variant pieces side wing rook ≡ true → IsHome variant pieces side wing rook
unfolding is_at_home
home_parts variant pieces side wing rook e =
    let parts = and_parts _ _ e in
    let ends = and_parts _ _ parts.0 in
    record { inside = ltb-true rook 8 ends.0; rook_there = ends.1; kings = parts.1 }

pub right_home : (p : Position) (side : Side) (wing : Wing) (rook : ℕ) → AreRights p.pieces p.rights → right_of p.rights side wing ≡ Some rook → is_at_home p.rights.variant p.pieces side wing rook ≡ true
right_home p side wing rook rights held = sym (ap (is_supported p.rights.variant p.pieces side wing) held) ∙ rights side wing

-- the way to a file ends there
ends_there : (a b : ℕ) → FromTo a b b
ends_there a b = ⊎_elim (λ (h : a < b). inl (omega arith, omega arith)) (λ (h : b ≤ a). inr (omega arith, h)) (cases_lt a b)

pub castling_square : (p : Position) (wing : Wing) (rook : ℕ) → right_of p.rights p.side wing ≡ Some rook → castling_rook p wing ≡ square_at rook (first_rank p.side)
castling_square p wing rook held = ap (λ (o : Option ℕ). square_at (unwrap_or o 0) (first_rank p.side)) held

-- a legal castling has what it needs
pub castling_can : (p : Position) (wing : Wing) (from to : ℕ) → ArePieces p.pieces → AreRights p.pieces p.rights → from < 64 → piece_at p.pieces from ≡ Some (p.side, King) → Castles p wing from to →
    MayCastle p.pieces p.side wing from (castling_rook p wing)
castling_can p wing from to are rights low occupant c =
    let rank = rank_low p.side in
    let inside = c.inside in
    let home = c.home in
    let at : castling_rook p wing ≡ square_at c.rook (first_rank p.side) = castling_square p wing c.rook c.right in
    let is = home_parts p.rights.variant p.pieces p.side wing c.rook (right_home p p.side wing c.rook rights c.right) in
    let there : piece_at p.pieces (square_at c.rook (first_rank p.side)) ≡ Some (p.side, Rook) = rook-is p.side _ is.rook_there in
    let aim = aims p.side wing in
    let ka = aim.king in
    let ra = aim.rook in
    record {
      whole = are.whole;
      king_low = low;
      rook_low = rw at (omega arith);
      king_there = occupant;
      rook_there = rw at there;
      king_free = λ nk nr. c.empty (king_aim wing) aim.king (inl (ends_there (file_of from) (king_aim wing)))
          (λ e. nk (omega arith)) (λ e. nr (ap (λ (f : ℕ). square_at f (first_rank p.side)) e ∙ sym at));
      rook_free = λ nk nr. c.empty (rook_aim wing) aim.rook (inr (ends_there c.rook (rook_aim wing)))
          (λ e. nk (omega arith)) (λ e. nr (ap (λ (f : ℕ). square_at f (first_rank p.side)) e ∙ sym at));
    }

-- the file of the rook with which the king may castle
pub castling_rook_low : (p : Position) (wing : Wing) (from to : ℕ) → may_castle p wing from to ≡ true → unwrap_or (right_of p.rights p.side wing) 0 < 8
castling_rook_low p wing from to e = let c = (CastlesAt p wing from to).0 e in let right = c.right in rw right c.inside
