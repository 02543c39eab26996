-- A text that was written fits the one move.
use Rattle.std.proofs.Common.{◌≡◌, ◌≢◌, ◌⊎◌, inl, inr, ℕ, ◌+◌, ◌<◌, ◌≤◌, List, [], ◌∷◌, ◌++◌, Bool, true, false, not, ◌&&◌, ◌||◌, cond, ◌==◌, Option, Some, None, IsTrue, refl, ap, sym, subst, ◌∙◌, arith, append_assoc, append-nil}
use Rattle.std.specs.Option.{option_eq}
use Rattle.std.specs.Bool.{Decides}
use Rattle.std.proofs.lemmas.Bool.Decides.{nat_tests, Decides-eqb}
use Rattle.std.proofs.lemmas.Bool.{and_from, and_parts}
use Rattle.chess_board.specs.declared.board.Kind.{Kind}
use Rattle.chess_board.specs.declared.board.Kind.TheVariants.{Pawn, Knight, Bishop, Rook, Queen, King}
use Rattle.chess_board.specs.declared.board.Move.{Move}
use Rattle.chess_board.specs.declared.board.Wing.{Wing}
use Rattle.chess_board.specs.declared.board.Wing.TheVariants.{HSide, ASide}
use Rattle.chess_board.specs.Board.{piece_at, file_of, rank_of_square, square_at, is_vacant, is_king_kind, is_pawn_kind, some_square}
use Rattle.chess_board.specs.Position.{Position}
use Rattle.chess_board.specs.Rules.{is_legal}
use Rattle.chess_board.specs.Laws.{IsLegal, MayReach as MayGo, Promotes}
use Rattle.chess_board.specs.Play.{kind_on}
use Rattle.chess_board.specs.Text.{IsOfficer}
use Rattle.chess_board.proofs.Below.{some_square-hit}
use Rattle.chess_board.proofs.Equal.{kinds-Decides}
use Rattle.chess_board.proofs.Legal.{legal-law, king_kind, pawn_kind}
use Rattle.chess_board.proofs.Places.{move_same}
use Rattle.san_text.specs.declared.pieces.RivalSquares.{RivalSquares}
use Rattle.san_text.specs.declared.pieces.RivalSquares.TheVariants.{Board, File, Rank}
use Rattle.san_text.specs.Writing.{same_san_kind, kind_at, castles_to, castles_on, castles_short, castles_long, move_captures, is_rival, is_within, has_rival}
use Rattle.san_text.specs.Fit.{allows, castles, agrees}
use Rattle.san_text.specs.Spelling.{SanSpelling, Short, Long, Goes}
use Rattle.san_text.proofs.Bools.{differs}
use Rattle.san_text.proofs.Castlings.{one_castling}
use Rattle.san_text.proofs.Pawns.{same_square, stays, forward_alone, strikes_alone}

equal : (a b : ℕ) → (a == b) ≡ true → a ≡ b
equal a b = (Decides-eqb a b).0

-- the kind of a piece that moves
pub kind_of_move : (p : Position) (from to : ℕ) (promotion : Option Kind) (h : IsLegal p from to promotion) → kind_at p from ≡ h.piece
kind_of_move p from to promotion h = ap kind_on h.occupant

-- another piece that may go there is a rival
rival_there : (p : Position) (m n : Move) → n.from.index ≢ m.from.index → kind_at p n.from.index ≡ kind_at p m.from.index → IsLegal p n.from.index m.to.index m.promotion → is_rival p m n.from.index ≡ true
rival_there p m n d k l =
    rw (differs n.from.index m.from.index d, (kinds-Decides (kind_at p n.from.index) (kind_at p m.from.index)).1 k) ((legal-law p n.from.index m.to.index m.promotion).1 l)

-- if there is none, the piece is this one
not_there : (p : Position) (m n : Move) (w : RivalSquares) → has_rival p m w ≡ false → is_within w n.from.index m.from.index ≡ true → kind_at p n.from.index ≡ kind_at p m.from.index → IsLegal p n.from.index m.to.index m.promotion → n.from.index ≢ m.from.index → ⊥
not_there p m n w none within k l d =
    let hit : has_rival p m w ≡ true = some_square-hit (λ s. is_within w s m.from.index && is_rival p m s) n.from.index n.from.on_board (and_from (is_within w n.from.index m.from.index) (is_rival p m n.from.index) within (rival_there p m n d k l)) in
    cc (none, hit)

same_by : (v : Bool) (a b : ℕ) → (a == b) ≡ v → (a ≢ b → ⊥) → a ≡ b
same_by true a b e h = equal a b e
same_by false a b e h = absurd (h (λ f. let t = (Decides-eqb a b).1 f in cc (e, t)))

same_from : (a b : ℕ) → (a ≢ b → ⊥) → a ≡ b
same_from a b h = same_by (a == b) a b refl h

-- the file and the rank that are given
abbrev pub file_by : Bool → Bool → Bool → Bool → Bool → ℕ → Option ℕ
file_by pawn takes b f r file = cond pawn (cond takes (Some file) None) (cond (not b) None (cond (not f) (Some file) (cond (not r) None (Some file))))

abbrev pub rank_by : Bool → Bool → Bool → Bool → ℕ → Option ℕ
rank_by pawn b f r rank = cond pawn None (cond (not b) None (cond (not f) None (Some rank)))

abbrev pub is_pawn_move : Position → Move → Bool
is_pawn_move p m = is_pawn_kind (kind_at p m.from.index)

abbrev pub given_file : Position → Move → Option ℕ
given_file p m = file_by (is_pawn_move p m) (move_captures p m) (has_rival p m Board) (has_rival p m File) (has_rival p m Rank) (file_of m.from.index)

abbrev pub given_rank : Position → Move → Option ℕ
given_rank p m = rank_by (is_pawn_move p m) (has_rival p m Board) (has_rival p m File) (has_rival p m Rank) (rank_of_square m.from.index)

allowed : (k n : ℕ) → allows (Some k) n ≡ true → n ≡ k
allowed k n e = sym (equal k n e)

-- another officer does not agree with what is given
officer_alone : (p : Position) (m n : Move) (takes b f r : Bool) → has_rival p m Board ≡ b → has_rival p m File ≡ f → has_rival p m Rank ≡ r
    → allows (file_by false takes b f r (file_of m.from.index)) (file_of n.from.index) ≡ true → allows (rank_by false b f r (rank_of_square m.from.index)) (rank_of_square n.from.index) ≡ true
    → kind_at p n.from.index ≡ kind_at p m.from.index → IsLegal p n.from.index m.to.index m.promotion → n.from.index ≢ m.from.index → ⊥
officer_alone p m n takes false f r eb ef er a c k l d = not_there p m n Board eb refl k l d
officer_alone p m n takes true false r eb ef er a c k l d =
    not_there p m n File ef ((Decides-eqb (file_of n.from.index) (file_of m.from.index)).1 (allowed (file_of m.from.index) (file_of n.from.index) a)) k l d
officer_alone p m n takes true true false eb ef er a c k l d =
    not_there p m n Rank er ((Decides-eqb (rank_of_square n.from.index) (rank_of_square m.from.index)).1 (allowed (rank_of_square m.from.index) (rank_of_square n.from.index) c)) k l d
officer_alone p m n takes true true true eb ef er a c k l d =
    d (same_square n.from.index m.from.index (allowed (file_of m.from.index) (file_of n.from.index) a) (allowed (rank_of_square m.from.index) (rank_of_square n.from.index) c))

goes_pawn : (p : Position) (from to : ℕ) (promotion : Option Kind) (h : IsLegal p from to promotion) → h.piece ≡ Pawn → MayGo p Pawn from to
goes_pawn p from to promotion h e = subst (λ (k : Kind). MayGo p k from to) e h.way

piece_pawn : (p : Position) (from to : ℕ) (promotion : Option Kind) (h : IsLegal p from to promotion) → h.piece ≡ Pawn → piece_at p.pieces from ≡ Some (p.side, Pawn)
piece_pawn p from to promotion h e = h.occupant ∙ ap (λ k. Some (p.side, k)) e

-- true if a pawn leaves its file
takes_by : (empty leaves : Bool) → (not empty || (true && not leaves)) ≡ false → (empty ≡ true) × (leaves ≡ true)
takes_by true true e = (refl, refl)
takes_by true false e = cc
takes_by false leaves e = cc

taking_pawn : (empty leaves : Bool) → (not empty || (true && not leaves)) ≡ true → (empty ≡ false) ⊎ (leaves ≡ false)
taking_pawn true true e = cc
taking_pawn true false e = inr refl
taking_pawn false leaves e = inl refl

differs_of : (a b : ℕ) → (a == b) ≡ false → a ≢ b
differs_of a b e f = let t = (Decides-eqb a b).1 f in cc (e, t)

-- a pawn that captures leaves its file
capturing_leaves : (p : Position) (m : Move) (h : IsLegal p m.from.index m.to.index m.promotion) → h.piece ≡ Pawn → move_captures p m ≡ true → file_of m.from.index ≢ file_of m.to.index
capturing_leaves p m h e t f =
    let pawn : kind_at p m.from.index ≡ Pawn = kind_of_move p m.from.index m.to.index m.promotion h ∙ e in
    let test = ap (λ k. not (is_vacant (piece_at p.pieces m.to.index)) || (is_pawn_kind k && not (file_of m.from.index == file_of m.to.index))) (sym pawn) ∙ t in
    elim (taking_pawn (is_vacant (piece_at p.pieces m.to.index)) (file_of m.from.index == file_of m.to.index) test) [
      | inl full ↦ let free = (stays p m.from.index m.to.index (goes_pawn p m.from.index m.to.index m.promotion h e) f).0 in let none : is_vacant (piece_at p.pieces m.to.index) ≡ true = ap is_vacant free in cc (full, none)
      | inr out ↦ differs_of (file_of m.from.index) (file_of m.to.index) out f
    ]

quiet_stays : (p : Position) (m : Move) (h : IsLegal p m.from.index m.to.index m.promotion) → h.piece ≡ Pawn → move_captures p m ≡ false → file_of m.from.index ≡ file_of m.to.index
quiet_stays p m h e t =
    let pawn : kind_at p m.from.index ≡ Pawn = kind_of_move p m.from.index m.to.index m.promotion h ∙ e in
    let test = ap (λ k. not (is_vacant (piece_at p.pieces m.to.index)) || (is_pawn_kind k && not (file_of m.from.index == file_of m.to.index))) (sym pawn) ∙ t in
    equal (file_of m.from.index) (file_of m.to.index) (takes_by (is_vacant (piece_at p.pieces m.to.index)) (file_of m.from.index == file_of m.to.index) test).1

pawn_alone : (p : Position) (m n : Move) (takes : Bool) → move_captures p m ≡ takes → (h : IsLegal p m.from.index m.to.index m.promotion) → h.piece ≡ Pawn → (i : IsLegal p n.from.index m.to.index m.promotion) → i.piece ≡ Pawn
    → allows (cond takes (Some (file_of m.from.index)) None) (file_of n.from.index) ≡ true → n.from.index ≡ m.from.index
pawn_alone p m n true t h e i f a =
    sym (strikes_alone p m.from.index n.from.index m.to.index (goes_pawn p m.from.index m.to.index m.promotion h e) (goes_pawn p n.from.index m.to.index m.promotion i f) (capturing_leaves p m h e t) (allowed (file_of m.from.index) (file_of n.from.index) a))
pawn_alone p m n false t h e i f a =
    sym (forward_alone p m.from.index n.from.index m.to.index (piece_pawn p m.from.index m.to.index m.promotion h e) (piece_pawn p n.from.index m.to.index m.promotion i f) (goes_pawn p m.from.index m.to.index m.promotion h e) (goes_pawn p n.from.index m.to.index m.promotion i f) (quiet_stays p m h e t))

-- two moves of one kind to one square, of which the second agrees with what is given of the first
from_alone : (p : Position) (m n : Move) (pawn : Bool) → is_pawn_move p m ≡ pawn → IsLegal p m.from.index m.to.index m.promotion → IsLegal p n.from.index m.to.index m.promotion → kind_at p n.from.index ≡ kind_at p m.from.index
    → allows (file_by pawn (move_captures p m) (has_rival p m Board) (has_rival p m File) (has_rival p m Rank) (file_of m.from.index)) (file_of n.from.index) ≡ true
    → allows (rank_by pawn (has_rival p m Board) (has_rival p m File) (has_rival p m Rank) (rank_of_square m.from.index)) (rank_of_square n.from.index) ≡ true
    → n.from.index ≡ m.from.index
from_alone p m n true e h i k a c =
    let mine = pawn_kind (kind_at p m.from.index) e in
    pawn_alone p m n (move_captures p m) refl h (sym (kind_of_move p m.from.index m.to.index m.promotion h) ∙ mine) i (sym (kind_of_move p n.from.index m.to.index m.promotion i) ∙ k ∙ mine) a
from_alone p m n false e h i k a c =
    same_from n.from.index m.from.index (officer_alone p m n (move_captures p m) (has_rival p m Board) (has_rival p m File) (has_rival p m Rank) refl refl refl a c k i)

pub promotions-Decides : (a b : Option Kind) → option_eq same_san_kind a b ≡ true → a ≡ b
promotions-Decides None None e = refl
promotions-Decides None (Some b) e = cc
promotions-Decides (Some a) None e = cc
promotions-Decides (Some a) (Some b) e = ap (λ k. Some k) ((kinds-Decides a b).0 e)

promotion-refl : (a : Option Kind) → option_eq same_san_kind a a ≡ true
promotion-refl None = refl
promotion-refl (Some a) = (kinds-Decides a a).1 refl

abbrev pub spelling_of : Position → Move → SanSpelling
spelling_of p m =
    cond (castles_short p m) Short (cond (castles_long p m) Long (Goes (kind_at p m.from.index) (given_file p m) (given_rank p m) (record { to = m.to.index; promotion = m.promotion })))

-- and_parts castle
king_promotion : (p : Position) (m : Move) (h : IsLegal p m.from.index m.to.index m.promotion) → is_king_kind (kind_at p m.from.index) ≡ true → m.promotion ≡ None
king_promotion p m h e =
    let king : h.piece ≡ King = sym (kind_of_move p m.from.index m.to.index m.promotion h) ∙ king_kind (kind_at p m.from.index) e in
    subst (λ (k : Kind). Promotes p.side k m.to.index m.promotion) king h.promoted

-- what castles on a wing is one move
wing_alone : (p : Position) (wing : Wing) (m n : Move) → IsLegal p m.from.index m.to.index m.promotion → IsLegal p n.from.index n.to.index n.promotion → castles_on p wing m ≡ true → castles_on p wing n ≡ true → n ≡ m
wing_alone p wing m n h i a c =
    let x = and_parts (is_king_kind (kind_at p m.from.index)) (castles_to p p.rights.variant wing m.from.index m.to.index) a in
    let y = and_parts (is_king_kind (kind_at p n.from.index)) (castles_to p p.rights.variant wing n.from.index n.to.index) c in
    let mine = sym (kind_of_move p m.from.index m.to.index m.promotion h) ∙ king_kind (kind_at p m.from.index) x.0 in
    let yours = sym (kind_of_move p n.from.index n.to.index n.promotion i) ∙ king_kind (kind_at p n.from.index) y.0 in
    let same = one_castling p.rights.variant p wing n.from.index m.from.index n.to.index m.to.index n.promotion m.promotion refl i h yours mine y.1 x.1 in
    move_same n m same.from same.to (king_promotion p n i y.0 ∙ sym (king_promotion p m h x.0))

goes_alone : (p : Position) (m n : Move) → IsLegal p m.from.index m.to.index m.promotion → IsLegal p n.from.index n.to.index n.promotion
    → agrees p (Goes (kind_at p m.from.index) (given_file p m) (given_rank p m) (record { to = m.to.index; promotion = m.promotion })) n ≡ true → n ≡ m
goes_alone p m n h i a =
    let file = allows (given_file p m) (file_of n.from.index) in
    let rank = allows (given_rank p m) (rank_of_square n.from.index) in
    let to = n.to.index == m.to.index in
    let promotion = option_eq same_san_kind n.promotion m.promotion in
    let kind = same_san_kind (kind_at p n.from.index) (kind_at p m.from.index) in
    let x = and_parts (not (castles p n) && kind) ((file && rank) && (to && promotion)) a in
    let y = and_parts (file && rank) (to && promotion) x.1 in
    let arrival = and_parts to promotion y.1 in
    let origin = and_parts file rank y.0 in
    let there = equal n.to.index m.to.index arrival.0 in
    let becomes = promotions-Decides n.promotion m.promotion arrival.1 in
    let same = (kinds-Decides (kind_at p n.from.index) (kind_at p m.from.index)).0 (and_parts (not (castles p n)) kind x.0).1 in
    let legal : IsLegal p n.from.index m.to.index m.promotion = subst (λ (t : ℕ). IsLegal p n.from.index t m.promotion) there (subst (λ (k : Option Kind). IsLegal p n.from.index n.to.index k) becomes i) in
    move_same n m (from_alone p m n (is_pawn_move p m) refl h legal same origin.0 origin.1) there becomes

alone_by : (short long : Bool) (p : Position) (m n : Move) → castles_short p m ≡ short → castles_long p m ≡ long → IsLegal p m.from.index m.to.index m.promotion → IsLegal p n.from.index n.to.index n.promotion
    → agrees p (cond short Short (cond long Long (Goes (kind_at p m.from.index) (given_file p m) (given_rank p m) (record { to = m.to.index; promotion = m.promotion })))) n ≡ true → n ≡ m
alone_by true long p m n s l h i a = wing_alone p HSide m n h i s a
alone_by false true p m n s l h i a = wing_alone p ASide m n h i l a
alone_by false false p m n s l h i a = goes_alone p m n h i a

-- no other legal move agrees with what a move is written as
pub alone : (p : Position) (m n : Move) → IsLegal p m.from.index m.to.index m.promotion → IsLegal p n.from.index n.to.index n.promotion → agrees p (spelling_of p m) n ≡ true → n ≡ m
alone p m n h i a = alone_by (castles_short p m) (castles_long p m) p m n refl refl h i a

allows_given : (pawn takes b f r : Bool) (n : ℕ) → allows (file_by pawn takes b f r n) n ≡ true
allows_given true true b f r n = (Decides-eqb n n).1 refl
allows_given true false b f r n = refl
allows_given false takes false f r n = refl
allows_given false takes true false r n = (Decides-eqb n n).1 refl
allows_given false takes true true false n = refl
allows_given false takes true true true n = (Decides-eqb n n).1 refl

allows_rank : (pawn b f r : Bool) (n : ℕ) → allows (rank_by pawn b f r n) n ≡ true
allows_rank true b f r n = refl
allows_rank false false f r n = refl
allows_rank false true false r n = refl
allows_rank false true true r n = (Decides-eqb n n).1 refl

self_by : (short long : Bool) (p : Position) (m : Move) → castles_short p m ≡ short → castles_long p m ≡ long
    → agrees p (cond short Short (cond long Long (Goes (kind_at p m.from.index) (given_file p m) (given_rank p m) (record { to = m.to.index; promotion = m.promotion })))) m ≡ true
self_by true long p m s l = s
self_by false true p m s l = l
self_by false false p m s l =
    let file = allows_given (is_pawn_move p m) (move_captures p m) (has_rival p m Board) (has_rival p m File) (has_rival p m Rank) (file_of m.from.index) in
    let rank = allows_rank (is_pawn_move p m) (has_rival p m Board) (has_rival p m File) (has_rival p m Rank) (rank_of_square m.from.index) in
    and_from _ _
    (and_from _ _ (rw (s, l) refl) ((kinds-Decides (kind_at p m.from.index) (kind_at p m.from.index)).1 refl))
    (and_from _ _ (and_from _ _ file rank) (and_from _ _ ((Decides-eqb m.to.index m.to.index).1 refl) (promotion-refl m.promotion)))

-- the move agrees with what it is written as
pub agrees_self : (p : Position) (m : Move) → agrees p (spelling_of p m) m ≡ true
agrees_self p m = self_by (castles_short p m) (castles_long p m) p m refl refl
