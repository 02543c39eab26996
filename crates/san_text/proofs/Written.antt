-- The text written of a legal move is read as its spelling.
use Rattle.std.proofs.Common.{◌≡◌, ◌⊎◌, inl, inr, ℕ, ◌+◌, ◌<◌, List, [], ◌∷◌, ◌++◌, Bool, true, false, not, cond, ◌==◌, Option, Some, None, Result, Ok, Err, IsTrue, refl, ap, sym, subst, ◌∙◌, arith, append-nil}
use Rattle.chess_board.specs.declared.board.Kind.{Kind}
use Rattle.chess_board.specs.declared.board.Kind.TheVariants.{Pawn, Knight, Bishop, Rook, Queen, King}
use Rattle.chess_board.specs.declared.board.Move.{Move}
use Rattle.chess_board.specs.Board.{file_of, rank_of_square, square_at, is_pawn_kind}
use Rattle.chess_board.specs.Position.{Position}
use Rattle.chess_board.specs.Laws.{IsLegal}
use Rattle.chess_board.specs.Text.{IsOfficer}
use Rattle.chess_board.proofs.Texts.{legal-written}
use Rattle.san_text.specs.declared.pieces.RivalSquares.TheVariants.{Board, File, Rank}
use Rattle.san_text.specs.declared.fault.SanFault.{SanFault}
use Rattle.san_text.specs.declared.fault.SanFault.TheVariants.{BadSan, NoFit, Ambiguous}
use Rattle.san_text.specs.Writing.{kind_at, castles_short, castles_long, move_captures, has_rival, letter, promotion_letters, origin, body, position_after_move, IsCheckMark, IsSan}
use Rattle.san_text.specs.Spelling.{SanSpelling, Short, Long, Goes, is_check_byte, unmarked, places_read, read_unmarked, spelling_of_san}
use Rattle.san_text.specs.Fit.{agrees, AgreesText, MoveFitsSan, FitsAlone, SanReads, IsReadBack, TextsDiffer}
use Rattle.san_text.proofs.Texts.{file_small, rank_small, square_again, place_text, tail, Below, places_are, EndsPlain, ends_behind, tail_plain, mark_dropped}
use Rattle.san_text.proofs.Alone.{file_by, rank_by, is_pawn_move, given_file, given_rank, spelling_of, alone, agrees_self}
use Rattle.san_text.proofs.Bools.{differs}

origin_by : (pawn takes b f r : Bool) (file rank : ℕ)
    → cond pawn (cond takes ((97 + file) ∷ []) []) (cond (not b) [] (cond (not f) ((97 + file) ∷ []) (cond (not r) ((49 + rank) ∷ []) ((97 + file) ∷ (49 + rank) ∷ []))))
    ≡ place_text (file_by pawn takes b f r file) (rank_by pawn b f r rank)
origin_by true true b f r file rank = refl
origin_by true false b f r file rank = refl
origin_by false takes false f r file rank = refl
origin_by false takes true false r file rank = refl
origin_by false takes true true false file rank = refl
origin_by false takes true true true file rank = refl

origin_is : (p : Position) (m : Move) → origin p m ≡ place_text (given_file p m) (given_rank p m)
origin_is p m = origin_by (is_pawn_move p m) (move_captures p m) (has_rival p m Board) (has_rival p m File) (has_rival p m Rank) (file_of m.from.index) (rank_of_square m.from.index)

below_file : (pawn takes b f r : Bool) (n : ℕ) → n < 8 → Below (file_by pawn takes b f r n)
below_file true true b f r n h = h
below_file true false b f r n h = tt
below_file false takes false f r n h = tt
below_file false takes true false r n h = h
below_file false takes true true false n h = tt
below_file false takes true true true n h = h

below_rank : (pawn b f r : Bool) (n : ℕ) → n < 8 → Below (rank_by pawn b f r n)
below_rank true b f r n h = tt
below_rank false false f r n h = tt
below_rank false true false r n h = tt
below_rank false true true r n h = h

-- the text after the letter
abbrev places : Option ℕ → Option ℕ → Bool → ℕ → ℕ → Option Kind → List ℕ
places file rank takes f r promotion = place_text file rank ++ tail takes f r promotion

read_officer : (k : Kind) (xs : List ℕ) → is_pawn_kind k ≡ false → read_unmarked (letter k ++ xs) ≡ places_read k xs
read_officer Pawn xs e = cc
read_officer Knight xs e = refl
read_officer Bishop xs e = refl
read_officer Rook xs e = refl
read_officer Queen xs e = refl
read_officer King xs e = refl

read_pawn : (g : ℕ) (xs : List ℕ) → g < 8 → read_unmarked ((97 + g) ∷ xs) ≡ places_read Pawn ((97 + g) ∷ xs)
read_pawn g xs h =
    rw (differs (97 + g) 79 (λ e. omega arith), differs (97 + g) 48 (λ e. omega arith), differs (97 + g) 75 (λ e. omega arith), differs (97 + g) 81 (λ e. omega arith), differs (97 + g) 82 (λ e. omega arith), differs (97 + g) 66 (λ e. omega arith), differs (97 + g) 78 (λ e. omega arith)) refl

-- a pawn's text begins with a file
read_piece : (k : Kind) (pawn takes b f r : Bool) (F R g q : ℕ) (promotion : Option Kind) → is_pawn_kind k ≡ pawn → F < 8 → R < 8 → g < 8 → q < 8 → IsOfficer promotion
    → read_unmarked (letter k ++ places (file_by pawn takes b f r F) (rank_by pawn b f r R) takes g q promotion) ≡ Some (Goes k (file_by pawn takes b f r F) (rank_by pawn b f r R) (record { to = square_at g q; promotion = promotion }))
read_piece k false takes b f r F R g q promotion e hF hR hg hq o =
    read_officer k (places (file_by false takes b f r F) (rank_by false b f r R) takes g q promotion) e
    ∙ places_are k (file_by false takes b f r F) (rank_by false b f r R) takes g q promotion (below_file false takes b f r F hF) (below_rank false b f r R hR) hg hq o
read_piece Pawn true true b f r F R g q promotion e hF hR hg hq o = read_pawn F (tail true g q promotion) hF ∙ places_are Pawn (Some F) None true g q promotion hF tt hg hq o
read_piece Pawn true false b f r F R g q promotion e hF hR hg hq o = read_pawn g ((49 + q) ∷ promotion_letters promotion) hg ∙ places_are Pawn None None false g q promotion tt tt hg hq o
read_piece Knight true takes b f r F R g q promotion e hF hR hg hq o = cc
read_piece Bishop true takes b f r F R g q promotion e hF hR hg hq o = cc
read_piece Rook true takes b f r F R g q promotion e hF hR hg hq o = cc
read_piece Queen true takes b f r F R g q promotion e hF hR hg hq o = cc
read_piece King true takes b f r F R g q promotion e hF hR hg hq o = cc

mark_is : (p : Position) (mark : List ℕ) → IsCheckMark p mark → (mark ≡ []) ⊎ ((c : ℕ) × ((mark ≡ c ∷ []) × (is_check_byte c ≡ true)))
mark_is p mark (inl mate) = inr (35, (mate.0, refl))
mark_is p mark (inr (inl check)) = inr (43, (check.0, refl))
mark_is p mark (inr (inr none)) = inl none.0

-- the body of a move that is not castling
abbrev piece_text : Position → Move → List ℕ
piece_text p m = letter (kind_at p m.from.index) ++ places (given_file p m) (given_rank p m) (move_captures p m) (file_of m.to.index) (rank_of_square m.to.index) m.promotion

body_by : (short long : Bool) (p : Position) (m : Move) (mark : List ℕ) → castles_short p m ≡ short → castles_long p m ≡ long → IsLegal p m.from.index m.to.index m.promotion → (mark ≡ []) ⊎ ((c : ℕ) × ((mark ≡ c ∷ []) × (is_check_byte c ≡ true)))
    → spelling_of_san (cond short (79 ∷ 45 ∷ 79 ∷ []) (cond long (79 ∷ 45 ∷ 79 ∷ 45 ∷ 79 ∷ []) (piece_text p m)) ++ mark)
    ≡ Some (cond short Short (cond long Long (Goes (kind_at p m.from.index) (given_file p m) (given_rank p m) (record { to = m.to.index; promotion = m.promotion }))))
body_by true long p m mark s l h sign = ap read_unmarked (mark_dropped (79 ∷ 45 ∷ 79 ∷ []) (79 ∷ 45 ∷ [], (79, (refl, refl))) mark sign)
body_by false true p m mark s l h sign = ap read_unmarked (mark_dropped (79 ∷ 45 ∷ 79 ∷ 45 ∷ 79 ∷ []) (79 ∷ 45 ∷ 79 ∷ 45 ∷ [], (79, (refl, refl))) mark sign)
body_by false false p m mark s l h sign =
    let o = legal-written p m h in
    let small = rank_small m.to.index m.to.on_board in
    let ends = ends_behind (letter (kind_at p m.from.index)) _ (ends_behind (place_text (given_file p m) (given_rank p m)) _ (tail_plain (move_captures p m) (file_of m.to.index) (rank_of_square m.to.index) m.promotion small o)) in
    ap read_unmarked (mark_dropped (piece_text p m) ends mark sign)
    ∙ read_piece (kind_at p m.from.index) (is_pawn_move p m) (move_captures p m) (has_rival p m Board) (has_rival p m File) (has_rival p m Rank) (file_of m.from.index) (rank_of_square m.from.index) (file_of m.to.index) (rank_of_square m.to.index) m.promotion refl
    (file_small m.from.index) (rank_small m.from.index m.from.on_board) (file_small m.to.index) small o
    ∙ ap (λ t. Some (Goes (kind_at p m.from.index) (given_file p m) (given_rank p m) (record { to = t; promotion = m.promotion }))) (square_again m.to.index)

text_is : (p : Position) (m : Move) → body p m ≡ cond (castles_short p m) (79 ∷ 45 ∷ 79 ∷ []) (cond (castles_long p m) (79 ∷ 45 ∷ 79 ∷ 45 ∷ 79 ∷ []) (piece_text p m))
text_is p m = ap (λ o. cond (castles_short p m) (79 ∷ 45 ∷ 79 ∷ []) (cond (castles_long p m) (79 ∷ 45 ∷ 79 ∷ 45 ∷ 79 ∷ []) (letter (kind_at p m.from.index) ++ (o ++ tail (move_captures p m) (file_of m.to.index) (rank_of_square m.to.index) m.promotion)))) (origin_is p m)

-- the written text is read as the move's spelling
pub spelled_is : (p : Position) (m : Move) (text : List ℕ) → IsLegal p m.from.index m.to.index m.promotion → IsSan p m text → spelling_of_san text ≡ Some (spelling_of p m)
spelled_is p m text h w =
    ap spelling_of_san (w.whole ∙ ap (λ b. b ++ w.mark) (text_is p m)) ∙ body_by (castles_short p m) (castles_long p m) p m w.mark refl refl h (mark_is (position_after_move p m) w.mark w.fits)

-- so is the text without a sign
pub body_read : (p : Position) (m : Move) → IsLegal p m.from.index m.to.index m.promotion → spelling_of_san (body p m ++ []) ≡ Some (spelling_of p m)
body_read p m h = ap (λ (b : List ℕ). spelling_of_san (b ++ [])) (text_is p m) ∙ body_by (castles_short p m) (castles_long p m) p m [] refl refl h (inl refl)

pub read_back : IsReadBack
read_back p m text h w =
    let e = spelled_is p m text h w in (
      (h, subst (λ (o : Option SanSpelling). AgreesText p o m) (sym e) (agrees_self p m)),
      λ n f. alone p m n h f.0 (subst (λ (o : Option SanSpelling). AgreesText p o n) e f.1),
    )

pub texts_differ : TextsDiffer
texts_differ p a b text h i v w = (read_back p b text i w).1 a (read_back p a text h v).0

-- the reading of a text that was written
pub read_written : (p : Position) (m : Move) (text : List ℕ) (result : Result Move SanFault) → IsLegal p m.from.index m.to.index m.promotion → IsSan p m text → SanReads p text result → result ≡ Ok m
read_written p m text (Ok n) h w r = ap (λ x. Ok x) ((read_back p m text h w).1 n r.0)
read_written p m text (Err BadSan) h w r = cc (spelled_is p m text h w, r)
read_written p m text (Err NoFit) h w r = absurd (r.1 m (read_back p m text h w).0)
read_written p m text (Err Ambiguous) h w r =
    let one = (read_back p m text h w).1 in absurd (r.1.1.2 (one r.0 r.1.1.0 ∙ sym (one r.1.0 r.1.1.1)))
