-- The text of a legal move has one of the forms in which moves are written.
use Rattle.std.proofs.Common.{◌≡◌, ◌≢◌, ◌⊎◌, inl, inr, ℕ, ◌+◌, ◌<◌, List, [], ◌∷◌, ◌++◌, length, get_or, Bool, true, false, not, ◌||◌, cond, eqb, Option, Some, None, refl, sym, ap, ◌∙◌, subst, arith}
use Rattle.std.proofs.lemmas.Bool.Decides.{nat_tests}
use Rattle.std.proofs.lemmas.List.Folds.{list_any_at}
use Rattle.chess_board.specs.declared.board.Kind.{Kind}
use Rattle.chess_board.specs.declared.board.Kind.TheVariants.{Pawn, Knight, Bishop, Rook, Queen, King}
use Rattle.chess_board.specs.declared.board.Move.{Move}
use Rattle.chess_board.specs.declared.board.Side.{Side}
use Rattle.chess_board.specs.declared.board.Side.TheVariants.{White, Black}
use Rattle.chess_board.specs.Attack.{is_checked}
use Rattle.chess_board.specs.Board.{file_of, rank_of_square}
use Rattle.chess_board.specs.Laws.{IsLegal, MayReach, Promotes, IsPromotion}
use Rattle.chess_board.specs.Place.{has_any_way}
use Rattle.chess_board.specs.Play.{ArePieces}
use Rattle.chess_board.specs.Position.{Position}
use Rattle.chess_board.specs.Rules.{last_rank}
use Rattle.cecp_lines.specs.San.{is_between, is_mark, has_form, forms, is_san}
use Rattle.san_text.specs.declared.pieces.RivalSquares.TheVariants.{Board, File, Rank}
use Rattle.san_text.specs.Writing.{kind_at, castles_short, castles_long, move_captures, has_rival, letter, origin, promotion_letters, target, capture_text, position_after_move, sign, san_of_move}
use Rattle.san_text.proofs.Alone.{kind_of_move}
use Rattle.think_text.proofs.Rivals.{pawn_ahead, inner_by, king_alone}

-- BYTES

file_fits : (s : ℕ) → is_between 97 104 (97 + file_of s) ≡ true
file_fits s = let low : file_of s < 8 = omega arith in grind (arith, nat_tests)

rank_fits : (s : ℕ) → s < 64 → is_between 49 56 (49 + rank_of_square s) ≡ true
rank_fits s h = let low : rank_of_square s < 8 = omega arith in grind (arith, nat_tests)

inner_fits : (s : ℕ) → (0 < rank_of_square s) × (rank_of_square s < 7) → is_between 50 55 (49 + rank_of_square s) ≡ true
inner_fits s h = let a = h.0 in let b = h.1 in grind (arith, nat_tests)

last_fits : (side : Side) → (eqb (49 + last_rank side) 49 || eqb (49 + last_rank side) 56) ≡ true
last_fits White = refl
last_fits Black = refl

end_fits : (side : Side) (s : ℕ) → rank_of_square s ≡ last_rank side → (eqb (49 + rank_of_square s) 49 || eqb (49 + rank_of_square s) 56) ≡ true
end_fits side s e = subst (λ (r : ℕ). (eqb (49 + r) 49 || eqb (49 + r) 56) ≡ true) (sym e) (last_fits side)

sign_mark : (checked moves : Bool) → is_mark (cond checked (cond moves (43 ∷ []) (35 ∷ [])) []) ≡ true
sign_mark true true = refl
sign_mark true false = refl
sign_mark false moves = refl

is_sign : (p : Position) → is_mark (sign p) ≡ true
is_sign p = sign_mark (is_checked p.pieces p.side) (has_any_way p)

form_at : (text : List ℕ) (i : ℕ) → i < length forms → has_form (get_or forms i []) text ≡ true → is_san text ≡ true
unfolding is_san
form_at text i l h = list_any_at (λ form. has_form form text) forms i [] l h

-- OFFICERS

origin_text : Bool → Bool → Bool → ℕ → List ℕ
origin_text b f r s = cond (not b) [] (cond (not f) ((97 + file_of s) ∷ []) (cond (not r) ((49 + rank_of_square s) ∷ []) ((97 + file_of s) ∷ (49 + rank_of_square s) ∷ [])))

-- Q, R, B or N
abbrev IsLetter : ℕ → Type 0
IsLetter c = ((eqb c 81 || eqb c 82) || (eqb c 66 || eqb c 78)) ≡ true

officer_form : (c : ℕ) (takes b f r : Bool) (s t : ℕ) (sg : List ℕ) → IsLetter c → s < 64 → t < 64 → is_mark sg ≡ true
    → is_san ((c ∷ (origin_text b f r s ++ (cond takes (120 ∷ []) [] ++ ((97 + file_of t) ∷ (49 + rank_of_square t) ∷ [])))) ++ sg) ≡ true
unfolding origin_text
officer_form c false false f r s t sg k l h m = form_at _ 8 (omega arith) (rw (k, file_fits t, rank_fits t h) m)
officer_form c true false f r s t sg k l h m = form_at _ 12 (omega arith) (rw (k, file_fits t, rank_fits t h) m)
officer_form c false true false r s t sg k l h m = form_at _ 9 (omega arith) (rw (k, file_fits s, file_fits t, rank_fits t h) m)
officer_form c true true false r s t sg k l h m = form_at _ 13 (omega arith) (rw (k, file_fits s, file_fits t, rank_fits t h) m)
officer_form c false true true false s t sg k l h m = form_at _ 10 (omega arith) (rw (k, rank_fits s l, file_fits t, rank_fits t h) m)
officer_form c true true true false s t sg k l h m = form_at _ 14 (omega arith) (rw (k, rank_fits s l, file_fits t, rank_fits t h) m)
officer_form c false true true true s t sg k l h m = form_at _ 11 (omega arith) (rw (k, file_fits s, rank_fits s l, file_fits t, rank_fits t h) m)
officer_form c true true true true s t sg k l h m = form_at _ 15 (omega arith) (rw (k, file_fits s, rank_fits s l, file_fits t, rank_fits t h) m)

king_form : (takes b f r : Bool) (s t : ℕ) (sg : List ℕ) → b ≡ false → t < 64 → is_mark sg ≡ true
    → is_san ((75 ∷ (origin_text b f r s ++ (cond takes (120 ∷ []) [] ++ ((97 + file_of t) ∷ (49 + rank_of_square t) ∷ [])))) ++ sg) ≡ true
unfolding origin_text
king_form false false f r s t sg e h m = form_at _ 6 (omega arith) (rw (file_fits t, rank_fits t h) m)
king_form true false f r s t sg e h m = form_at _ 7 (omega arith) (rw (file_fits t, rank_fits t h) m)
king_form takes true f r s t sg e h m = absurd (cc)

-- PAWNS

pawn_stays : (takes : Bool) (s t : ℕ) (sg : List ℕ) → (0 < rank_of_square t) × (rank_of_square t < 7) → is_mark sg ≡ true
    → is_san ((cond takes ((97 + file_of s) ∷ []) [] ++ (cond takes (120 ∷ []) [] ++ ((97 + file_of t) ∷ (49 + rank_of_square t) ∷ []))) ++ sg) ≡ true
pawn_stays false s t sg i m = form_at _ 2 (omega arith) (rw (file_fits t, inner_fits t i) m)
pawn_stays true s t sg i m = form_at _ 3 (omega arith) (rw (file_fits s, file_fits t, inner_fits t i) m)

pawn_becomes : (takes : Bool) (c s t : ℕ) (sg : List ℕ) → IsLetter c → (eqb (49 + rank_of_square t) 49 || eqb (49 + rank_of_square t) 56) ≡ true → is_mark sg ≡ true
    → is_san ((cond takes ((97 + file_of s) ∷ []) [] ++ (cond takes (120 ∷ []) [] ++ ((97 + file_of t) ∷ (49 + rank_of_square t) ∷ 61 ∷ c ∷ []))) ++ sg) ≡ true
pawn_becomes false c s t sg k e m = form_at _ 4 (omega arith) (rw (file_fits t, e, k) m)
pawn_becomes true c s t sg k e m = form_at _ 5 (omega arith) (rw (file_fits s, file_fits t, e, k) m)

pawn_by : (side : Side) (takes : Bool) (promotion : Option Kind) (s t : ℕ) (sg : List ℕ)
    → ((rank_of_square t ≡ last_rank side) × IsPromotion promotion) ⊎ ((rank_of_square t ≢ last_rank side) × (promotion ≡ None)) → (rank_of_square t ≢ last_rank side → (0 < rank_of_square t) × (rank_of_square t < 7)) → is_mark sg ≡ true
    → is_san ((cond takes ((97 + file_of s) ∷ []) [] ++ (cond takes (120 ∷ []) [] ++ ((97 + file_of t) ∷ (49 + rank_of_square t) ∷ promotion_letters promotion))) ++ sg) ≡ true
pawn_by side takes None s t sg (inl e) i m = absurd e.1
pawn_by side takes (Some Pawn) s t sg (inl e) i m = absurd e.1
pawn_by side takes (Some King) s t sg (inl e) i m = absurd e.1
pawn_by side takes (Some Queen) s t sg (inl e) i m = pawn_becomes takes 81 s t sg refl (end_fits side t e.0) m
pawn_by side takes (Some Rook) s t sg (inl e) i m = pawn_becomes takes 82 s t sg refl (end_fits side t e.0) m
pawn_by side takes (Some Bishop) s t sg (inl e) i m = pawn_becomes takes 66 s t sg refl (end_fits side t e.0) m
pawn_by side takes (Some Knight) s t sg (inl e) i m = pawn_becomes takes 78 s t sg refl (end_fits side t e.0) m
pawn_by side takes None s t sg (inr e) i m = pawn_stays takes s t sg (i e.0) m
pawn_by side takes (Some k) s t sg (inr e) i m = absurd (cc (e.1))

-- ANY MOVE

-- the text of a move that is not castling, by the piece that moves
abbrev piece_text : Kind → Position → Move → List ℕ
piece_text Pawn p m = cond (move_captures p m) ((97 + file_of m.from.index) ∷ []) [] ++ (capture_text p m ++ target m)
piece_text k p m = letter k ++ (origin_text (has_rival p m Board) (has_rival p m File) (has_rival p m Rank) m.from.index ++ (capture_text p m ++ target m))

bare_target : (m : Move) → m.promotion ≡ None → target m ≡ (97 + file_of m.to.index) ∷ (49 + rank_of_square m.to.index) ∷ []
bare_target m e = ap (λ (o : Option Kind). (97 + file_of m.to.index) ∷ (49 + rank_of_square m.to.index) ∷ promotion_letters o) e

pawn_inner : (p : Position) (m : Move) → MayReach p Pawn m.from.index m.to.index → rank_of_square m.to.index ≢ last_rank p.side → (0 < rank_of_square m.to.index) × (rank_of_square m.to.index < 7)
pawn_inner p m g n =
    let a = pawn_ahead p m.from.index m.to.index g in
    inner_by p.side (rank_of_square m.from.index) (rank_of_square m.to.index) a.0 a.1.0 a.1.1 (omega (arith, m.from.on_board)) (omega (arith, m.to.on_board)) n

officer_by : (p : Position) (m : Move) (c : ℕ) (sg : List ℕ) → IsLetter c → m.promotion ≡ None → is_mark sg ≡ true
    → is_san ((c ∷ (origin_text (has_rival p m Board) (has_rival p m File) (has_rival p m Rank) m.from.index ++ (capture_text p m ++ target m))) ++ sg) ≡ true
officer_by p m c sg k e g =
    ap (λ t. is_san ((c ∷ (origin_text (has_rival p m Board) (has_rival p m File) (has_rival p m Rank) m.from.index ++ (capture_text p m ++ t))) ++ sg)) (bare_target m e)
    ∙ officer_form c (move_captures p m) (has_rival p m Board) (has_rival p m File) (has_rival p m Rank) m.from.index m.to.index sg k m.from.on_board m.to.on_board g

king_by : (p : Position) (m : Move) (sg : List ℕ) → m.promotion ≡ None → has_rival p m Board ≡ false → is_mark sg ≡ true
    → is_san ((75 ∷ (origin_text (has_rival p m Board) (has_rival p m File) (has_rival p m Rank) m.from.index ++ (capture_text p m ++ target m))) ++ sg) ≡ true
king_by p m sg e n g =
    ap (λ t. is_san ((75 ∷ (origin_text (has_rival p m Board) (has_rival p m File) (has_rival p m Rank) m.from.index ++ (capture_text p m ++ t))) ++ sg)) (bare_target m e)
    ∙ king_form (move_captures p m) (has_rival p m Board) (has_rival p m File) (has_rival p m Rank) m.from.index m.to.index sg n m.to.on_board g

piece_form : (k : Kind) (p : Position) (m : Move) (sg : List ℕ) → (k ≡ King → has_rival p m Board ≡ false) → MayReach p k m.from.index m.to.index → Promotes p.side k m.to.index m.promotion → is_mark sg ≡ true
    → is_san (piece_text k p m ++ sg) ≡ true
piece_form Pawn p m sg n g e k = pawn_by p.side (move_captures p m) m.promotion m.from.index m.to.index sg e (pawn_inner p m g) k
piece_form Knight p m sg n g e k = officer_by p m 78 sg refl e k
piece_form Bishop p m sg n g e k = officer_by p m 66 sg refl e k
piece_form Rook p m sg n g e k = officer_by p m 82 sg refl e k
piece_form Queen p m sg n g e k = officer_by p m 81 sg refl e k
piece_form King p m sg n g e k = king_by p m sg e (n refl) k

piece_is : (k : Kind) (p : Position) (m : Move) → kind_at p m.from.index ≡ k → letter (kind_at p m.from.index) ++ (origin p m ++ (capture_text p m ++ target m)) ≡ piece_text k p m
unfolding origin_text
piece_is Pawn p m e = rw e refl
piece_is Knight p m e = rw e refl
piece_is Bishop p m e = rw e refl
piece_is Rook p m e = rw e refl
piece_is Queen p m e = rw e refl
piece_is King p m e = rw e refl

body_form : (short long : Bool) (p : Position) (m : Move) (sg : List ℕ) → ArePieces p.pieces → IsLegal p m.from.index m.to.index m.promotion → is_mark sg ≡ true
    → is_san (cond short (79 ∷ 45 ∷ 79 ∷ []) (cond long (79 ∷ 45 ∷ 79 ∷ 45 ∷ 79 ∷ []) (letter (kind_at p m.from.index) ++ (origin p m ++ (capture_text p m ++ target m)))) ++ sg) ≡ true
body_form true long p m sg are h k = form_at _ 0 (omega arith) k
body_form false true p m sg are h k = form_at _ 1 (omega arith) k
body_form false false p m sg are h k =
    let kind = kind_of_move p m.from.index m.to.index m.promotion h in
    ap (λ t. is_san (t ++ sg)) (piece_is h.piece p m kind) ∙ piece_form h.piece p m sg (λ e. king_alone p m are h (kind ∙ e)) h.way h.promoted k

pub san_form : (p : Position) (m : Move) → ArePieces p.pieces → IsLegal p m.from.index m.to.index m.promotion → is_san (san_of_move p m) ≡ true
unfolding san_of_move
san_form p m are h = body_form (castles_short p m) (castles_long p m) p m (sign (position_after_move p m)) are h (is_sign (position_after_move p m))
