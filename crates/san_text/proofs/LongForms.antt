-- A text is read as the move whose long form it is.
use Rattle.std.proofs.Common.{◌≡◌, ◌⊎◌, inl, inr, ℕ, ◌+◌, ◌-◌, ◌<◌, ◌≤◌, List, [], ◌∷◌, ◌++◌, Bool, true, false, ◌&&◌, cond, ◌==◌, Option, Some, None, refl, ap, sym, subst, ◌∙◌, arith}
use Rattle.std.specs.Prelude.{nat_le}
use Rattle.std.specs.Option.{option_map}
use Rattle.std.proofs.lemmas.Bool.Decides.{nat_tests, Decides-eqb}
use Rattle.std.proofs.lemmas.Bool.{and_parts}
use Rattle.chess_board.specs.declared.board.Kind.{Kind}
use Rattle.chess_board.specs.declared.board.Kind.TheVariants.{Pawn, Knight, Bishop, Rook, Queen, King}
use Rattle.chess_board.specs.declared.board.Move.{Move}
use Rattle.chess_board.specs.Board.{file_of, rank_of_square, square_at}
use Rattle.chess_board.specs.Position.{Position}
use Rattle.chess_board.specs.Rules.{is_legal}
use Rattle.chess_board.specs.Laws.{IsLegal}
use Rattle.chess_board.specs.Text.{IsOfficer}
use Rattle.chess_board.proofs.Equal.{kinds-Decides}
use Rattle.chess_board.proofs.Legal.{legal-law}
use Rattle.chess_board.proofs.Places.{move_same}
use Rattle.chess_board.proofs.Texts.{legal-written}
use Rattle.san_text.specs.Writing.{same_san_kind, kind_at, letter, promotion_letters}
use Rattle.san_text.specs.Spelling.{Target, unmarked, file_named, rank_named, kind_named, promoted, promotion_read, target_of, square_read}
use Rattle.san_text.specs.LongForm.{is_link, bare_promotion, IsLongForm, FitsLong, IsLongRead, Way, way_of, way_from, way_read, may_move, moved_by, piece_moved, long_read}
use Rattle.san_text.proofs.Texts.{file_small, rank_small, square_again, file_is, rank_is, promotion_is}
use Rattle.san_text.proofs.Bools.{differs}

-- WHAT FITS IS READ

bare_is : (promotion : Option Kind) → IsOfficer promotion → promotion_read (bare_promotion promotion) ≡ Some promotion
bare_is None o = refl
bare_is (Some Queen) o = refl
bare_is (Some Rook) o = refl
bare_is (Some Bishop) o = refl
bare_is (Some Knight) o = refl
bare_is (Some Pawn) o = absurd o
bare_is (Some King) o = absurd o

becomes_is : (promotion : Option Kind) (text : List ℕ) → IsOfficer promotion → (text ≡ bare_promotion promotion) ⊎ (text ≡ promotion_letters promotion) → promotion_read text ≡ Some promotion
becomes_is promotion text o (inl e) = ap promotion_read e ∙ bare_is promotion o
becomes_is promotion text o (inr e) = ap promotion_read e ∙ promotion_is promotion o

abbrev way : ℕ → ℕ → ℕ → ℕ → Option Kind → Way
way f r g s promotion = record { from = square_at f r; target = record { to = square_at g s; promotion = promotion } }

way_is : (f r g s link : ℕ) (becomes : List ℕ) (promotion : Option Kind) → f < 8 → r < 8 → g < 8 → s < 8 → is_link link ≡ true → promotion_read becomes ≡ Some promotion
    → way_read ((97 + f) ∷ (49 + r) ∷ link ∷ (97 + g) ∷ (49 + s) ∷ becomes) ≡ Some (way f r g s promotion)
way_is f r g s link becomes promotion hf hr hg hs l e = rw (l, file_is f hf, rank_is r hr, file_is g hg, rank_is s hs, e) refl

-- a pawn's text begins with a file
by_letter : (p : Position) (k : Kind) (f : ℕ) (xs : List ℕ) → f < 8 → long_read p (letter k ++ ((97 + f) ∷ xs)) ≡ moved_by p k (way_read ((97 + f) ∷ xs))
by_letter p Pawn f xs h =
    rw (differs (97 + f) 75 (λ e. omega arith), differs (97 + f) 81 (λ e. omega arith), differs (97 + f) 82 (λ e. omega arith), differs (97 + f) 66 (λ e. omega arith), differs (97 + f) 78 (λ e. omega arith)) refl
by_letter p Knight f xs h = refl
by_letter p Bishop f xs h = refl
by_letter p Rook f xs h = refl
by_letter p Queen f xs h = refl
by_letter p King f xs h = refl

moved_is : (p : Position) (m : Move) → IsLegal p m.from.index m.to.index m.promotion → moved_by p (kind_at p m.from.index) (Some (way_of m)) ≡ Some (way_of m)
moved_is p m h = rw ((kinds-Decides (kind_at p m.from.index) (kind_at p m.from.index)).1 refl, (legal-law p m.from.index m.to.index m.promotion).1 h) refl

fits_read : (p : Position) (text : List ℕ) (m : Move) → FitsLong p text m → long_read p (unmarked text) ≡ Some (way_of m)
fits_read p text m h =
    let form = h.1 in
    let a = m.from.index in
    let b = m.to.index in
    let becomes = becomes_is m.promotion form.becomes (legal-written p m h.0) form.promotes in
    let read = way_is (file_of a) (rank_of_square a) (file_of b) (rank_of_square b) form.link form.becomes m.promotion (file_small a) (rank_small a m.from.on_board) (file_small b) (rank_small b m.to.on_board) form.linked becomes in
    let squares : way (file_of a) (rank_of_square a) (file_of b) (rank_of_square b) m.promotion ≡ way_of m = rw (square_again a, square_again b) refl in
    ap (long_read p) form.whole ∙ by_letter p (kind_at p a) (file_of a) _ (file_small a)
    ∙ ap (moved_by p (kind_at p a)) (read ∙ ap (λ w. Some w) squares) ∙ moved_is p m h.0

-- WHAT IS READ FITS

kept : {A : Type 0} (b : Bool) (o : Option A) (a : A) → cond b o None ≡ Some a → (b ≡ true) × (o ≡ Some a)
kept true o a e = (refl, e)
kept false o a e = absurd (cc)

within : (low high b : ℕ) → (nat_le low b && nat_le b high) ≡ true → (low ≤ b) × (b ≤ high)
within low high b h = (grind (arith, nat_tests), grind (arith, nat_tests))

abbrev number_in : Option ℕ → ℕ → ℕ
number_in None n = n
number_in (Some k) n = k

named_back : (low high b n : ℕ) → cond (nat_le low b && nat_le b high) (Some (b - low)) None ≡ Some n → (b ≡ low + n) × (low + n ≤ high)
named_back low high b n e =
    let k = kept (nat_le low b && nat_le b high) (Some (b - low)) n e in
    let w = within low high b k.0 in
    let w0 = w.0 in
    let w1 = w.1 in
    let n_is : b - low ≡ n = ap (λ o. number_in o n) k.1 in
    (omega arith, omega arith)

letter_by : (k q r s n : Bool) (b : ℕ) (occupant : Kind) → (b == 75) ≡ k → (b == 81) ≡ q → (b == 82) ≡ r → (b == 66) ≡ s → (b == 78) ≡ n
    → cond k (Some King) (cond q (Some Queen) (cond r (Some Rook) (cond s (Some Bishop) (cond n (Some Knight) None)))) ≡ Some occupant → letter occupant ≡ b ∷ []
letter_by true q r s n b occupant e f g h i is = let same : King ≡ occupant = cc is in subst (λ k. letter k ≡ b ∷ []) same (ap (λ c. c ∷ []) (sym ((Decides-eqb b 75).0 e)))
letter_by false true r s n b occupant e f g h i is = let same : Queen ≡ occupant = cc is in subst (λ k. letter k ≡ b ∷ []) same (ap (λ c. c ∷ []) (sym ((Decides-eqb b 81).0 f)))
letter_by false false true s n b occupant e f g h i is = let same : Rook ≡ occupant = cc is in subst (λ k. letter k ≡ b ∷ []) same (ap (λ c. c ∷ []) (sym ((Decides-eqb b 82).0 g)))
letter_by false false false true n b occupant e f g h i is = let same : Bishop ≡ occupant = cc is in subst (λ k. letter k ≡ b ∷ []) same (ap (λ c. c ∷ []) (sym ((Decides-eqb b 66).0 h)))
letter_by false false false false true b occupant e f g h i is = let same : Knight ≡ occupant = cc is in subst (λ k. letter k ≡ b ∷ []) same (ap (λ c. c ∷ []) (sym ((Decides-eqb b 78).0 i)))
letter_by false false false false false b occupant e f g h i is = absurd (cc)

letter_back : (b : ℕ) (occupant : Kind) → kind_named b ≡ Some occupant → letter occupant ≡ b ∷ []
letter_back b occupant is = letter_by (b == 75) (b == 81) (b == 82) (b == 66) (b == 78) b occupant refl refl refl refl refl is

piece_some : (b : ℕ) (occupant : Kind) (promotion : Option Kind) → kind_named b ≡ Some occupant → Some occupant ≡ promotion → (bare_promotion promotion ≡ b ∷ []) × (promotion_letters promotion ≡ 61 ∷ b ∷ [])
piece_some b occupant promotion e h = let l = letter_back b occupant e in subst (λ q. (bare_promotion q ≡ b ∷ []) × (promotion_letters q ≡ 61 ∷ b ∷ [])) h (l, ap (λ xs. 61 ∷ xs) l)

piece_back : (b : ℕ) (k promotion : Option Kind) → kind_named b ≡ k → promoted k ≡ Some promotion → (bare_promotion promotion ≡ b ∷ []) × (promotion_letters promotion ≡ 61 ∷ b ∷ [])
piece_back b None promotion e h = absurd (cc)
piece_back b (Some Pawn) promotion e h = absurd (cc)
piece_back b (Some King) promotion e h = absurd (cc)
piece_back b (Some Queen) promotion e h = piece_some b Queen promotion e cc
piece_back b (Some Rook) promotion e h = piece_some b Rook promotion e cc
piece_back b (Some Bishop) promotion e h = piece_some b Bishop promotion e cc
piece_back b (Some Knight) promotion e h = piece_some b Knight promotion e cc

promotion_back : (text : List ℕ) (promotion : Option Kind) → promotion_read text ≡ Some promotion → (text ≡ bare_promotion promotion) ⊎ (text ≡ promotion_letters promotion)
promotion_back [] promotion e = let none : None ≡ promotion = cc in inl (ap bare_promotion none)
promotion_back (b ∷ []) promotion e = inl (sym (piece_back b (kind_named b) promotion refl e).0)
promotion_back (sign ∷ b ∷ []) promotion e =
    let k = kept (sign == 61) (promoted (kind_named b)) promotion e in
    let same : sign ≡ 61 = (Decides-eqb sign 61).0 k.0 in
    inr (ap (λ c. c ∷ b ∷ []) same ∙ sym (piece_back b (kind_named b) promotion refl k.1).1)
promotion_back (a ∷ b ∷ c ∷ rest) promotion e = absurd (cc)

abbrev target_in : Option Target → Target → Target
target_in None t = t
target_in (Some u) t = u

abbrev way_in : Option Way → Way → Way
way_in None w = w
way_in (Some v) w = v

target_parts : (a b : Option ℕ) (k : Option (Option Kind)) (t : Target) → target_of a b k ≡ Some t → (f : ℕ) × ((r : ℕ) × ((a ≡ Some f) × ((b ≡ Some r) × ((k ≡ Some t.promotion) × (t.to ≡ square_at f r)))))
target_parts None b k t e = absurd (cc)
target_parts (Some f) None k t e = absurd (cc)
target_parts (Some f) (Some r) None t e = absurd (cc)
target_parts (Some f) (Some r) (Some promotion) t e = (f, (r, (refl, (refl, (ap (λ o. Some (target_in o t).promotion) e, sym (ap (λ o. (target_in o t).to) e))))))

way_parts : (a b : Option ℕ) (t : Option Target) (w : Way) → way_from a b t ≡ Some w → (f : ℕ) × ((r : ℕ) × ((a ≡ Some f) × ((b ≡ Some r) × ((t ≡ Some w.target) × (w.from ≡ square_at f r)))))
way_parts None b t w e = absurd (cc)
way_parts (Some f) None t w e = absurd (cc)
way_parts (Some f) (Some r) None w e = absurd (cc)
way_parts (Some f) (Some r) (Some target) w e = (f, (r, (refl, (refl, (ap (λ o. Some (way_in o w).target) e, sym (ap (λ o. (way_in o w).from) e))))))

-- a square that two bytes name
record IsSquare (f r s : ℕ) : Type 0 where
  file : f ≡ 97 + file_of s
  rank : r ≡ 49 + rank_of_square s

square_back : (f r a b s : ℕ) → file_named f ≡ Some a → rank_named r ≡ Some b → s ≡ square_at a b → IsSquare f r s
square_back f r a b s e g h =
    let file = named_back 97 104 f a e in
    let rank = named_back 49 56 r b g in
    let f_is = file.0 in
    let f_low = file.1 in
    let r_is = rank.0 in
    let r_low = rank.1 in
    record { file = omega arith; rank = omega arith }

-- a target as a text
record Lands (text : List ℕ) (t : Target) : Type 0 where
  becomes : List ℕ
  promotes : (becomes ≡ bare_promotion t.promotion) ⊎ (becomes ≡ promotion_letters t.promotion)
  whole : text ≡ (97 + file_of t.to) ∷ (49 + rank_of_square t.to) ∷ becomes

target_back : (text : List ℕ) (t : Target) → square_read text ≡ Some t → Lands text t
target_back [] t e = absurd (cc)
target_back (g ∷ []) t e = absurd (cc)
target_back (g ∷ s ∷ becomes) t e =
    let parts = target_parts (file_named g) (rank_named s) (promotion_read becomes) t e in
    let at = square_back g s parts.0 parts.1.0 t.to parts.1.1.0 parts.1.1.1.0 parts.1.1.1.1.1 in
    record {
      becomes = becomes;
      promotes = promotion_back becomes t.promotion parts.1.1.1.1.0;
      whole = ap (λ c. c ∷ s ∷ becomes) at.file ∙ ap (λ c. (97 + file_of t.to) ∷ c ∷ becomes) at.rank;
    }

-- the squares of a way as a text
record Goes (text : List ℕ) (w : Way) : Type 0 where
  link : ℕ
  becomes : List ℕ
  linked : is_link link ≡ true
  promotes : (becomes ≡ bare_promotion w.target.promotion) ⊎ (becomes ≡ promotion_letters w.target.promotion)
  whole : text ≡ (97 + file_of w.from) ∷ (49 + rank_of_square w.from) ∷ link ∷ (97 + file_of w.target.to) ∷ (49 + rank_of_square w.target.to) ∷ becomes

way_back : (text : List ℕ) (w : Way) → way_read text ≡ Some w → Goes text w
way_back [] w e = absurd (cc)
way_back (f ∷ []) w e = absurd (cc)
way_back (f ∷ r ∷ []) w e = absurd (cc)
way_back (f ∷ r ∷ link ∷ rest) w e =
    let k = kept (is_link link) (way_from (file_named f) (rank_named r) (square_read rest)) w e in
    let parts = way_parts (file_named f) (rank_named r) (square_read rest) w k.1 in
    let at = square_back f r parts.0 parts.1.0 w.from parts.1.1.0 parts.1.1.1.0 parts.1.1.1.1.1 in
    let to = target_back rest w.target parts.1.1.1.1.0 in
    record {
      link = link;
      becomes = to.becomes;
      linked = k.0;
      promotes = to.promotes;
      whole = ap (λ c. c ∷ r ∷ link ∷ rest) at.file ∙ ap (λ c. (97 + file_of w.from) ∷ c ∷ link ∷ rest) at.rank ∙ ap (λ c. (97 + file_of w.from) ∷ (49 + rank_of_square w.from) ∷ link ∷ c) to.whole;
    }

moved_back : (p : Position) (occupant : Kind) (o : Option Way) (w : Way) → moved_by p occupant o ≡ Some w → (o ≡ Some w) × (may_move p occupant w ≡ true)
moved_back p occupant None w e = absurd (cc)
moved_back p occupant (Some v) w e =
    let k = kept (may_move p occupant v) (Some v) w e in
    (k.1, subst (λ u. may_move p occupant u ≡ true) (ap (λ o. way_in o w) k.1) k.0)

-- a piece of such a kind, whose letter is before its squares
form_by : (p : Position) (m : Move) (occupant : Kind) (prefix text : List ℕ) → prefix ≡ letter occupant → moved_by p occupant (way_read text) ≡ Some (way_of m) → IsLegal p m.from.index m.to.index m.promotion × IsLongForm p m (prefix ++ text)
form_by p m occupant prefix text e h =
    let moved = moved_back p occupant (way_read text) (way_of m) h in
    let tests = and_parts (same_san_kind (kind_at p m.from.index) occupant) (is_legal p m.from.index m.to.index m.promotion) moved.1 in
    let goes = way_back text (way_of m) moved.0 in
    let same : kind_at p m.from.index ≡ occupant = (kinds-Decides (kind_at p m.from.index) occupant).0 tests.0 in (
      (legal-law p m.from.index m.to.index m.promotion).0 tests.1,
      record {
        link = goes.link;
        becomes = goes.becomes;
        linked = goes.linked;
        promotes = goes.promotes;
        whole = ap (λ xs. xs ++ text) (e ∙ ap letter (sym same)) ∙ ap (λ xs. letter (kind_at p m.from.index) ++ xs) goes.whole;
      },
    )

read_by : (p : Position) (m : Move) (k : Option Kind) (b : ℕ) (bs : List ℕ) → kind_named b ≡ k → piece_moved p k b bs ≡ Some (way_of m) → IsLegal p m.from.index m.to.index m.promotion × IsLongForm p m (b ∷ bs)
read_by p m (Some occupant) b bs e h = form_by p m occupant (b ∷ []) bs (sym (letter_back b occupant e)) h
read_by p m None b bs e h = form_by p m Pawn [] (b ∷ bs) refl h

read_fits : (p : Position) (m : Move) (text : List ℕ) → long_read p text ≡ Some (way_of m) → IsLegal p m.from.index m.to.index m.promotion × IsLongForm p m text
read_fits p m [] h = absurd (cc)
read_fits p m (b ∷ bs) h = read_by p m (kind_named b) b bs refl h

-- TOGETHER

same_move : (m n : Move) → Some (way_of n) ≡ Some (way_of m) → n ≡ m
same_move m n e =
    let w = way_of m in
    move_same n m (ap (λ o. (way_in o w).from) e) (ap (λ o. (way_in o w).target.to) e) (ap (λ o. (way_in o w).target.promotion) e)

pub long_is : (p : Position) (text : List ℕ) (o : Option Move) → option_map way_of o ≡ long_read p (unmarked text) → IsLongRead p text o
long_is p text None e = λ m h. let some = fits_read p text m h in absurd (cc)
long_is p text (Some m) e = (read_fits p m (unmarked text) (sym e), λ n h. same_move m n (sym (fits_read p text n h) ∙ sym e))
