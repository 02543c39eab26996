-- The castling field written of a Chess960 position spells its rights.
use Rattle.std.proofs.Common.{◌≡◌, ◌≢◌, ℕ, ◌+◌, ◌<◌, inl, ⊎_elim, List, [], ◌∷◌, ◌++◌, true, false, ◌&&◌, ◌||◌, cond, eqb, length, set, Option, Some, None, is_some, refl, ap, subst, sym, ◌∙◌, arith, append-nil, get_or-set_other, length-set}
use Rattle.std.specs.Prelude.{count_by, IfSome}
use Rattle.std.specs.List.{list_all}
use Rattle.std.proofs.lemmas.Bool.{cases_eq}
use Rattle.std.proofs.lemmas.Bool.Decides.{nat_tests, Decides-eqb}
use Rattle.std.proofs.lemmas.List.Folds.{list_all-append}
use Rattle.chess_board.specs.declared.board.Side.{Side}
use Rattle.chess_board.specs.declared.board.Side.TheVariants.{White, Black}
use Rattle.chess_board.specs.declared.board.Kind.TheVariants.{King}
use Rattle.chess_board.specs.declared.board.Rights.{Rights}
use Rattle.chess_board.specs.declared.board.Variant.{Variant}
use Rattle.chess_board.specs.declared.board.Variant.TheVariants.{Fischer}
use Rattle.chess_board.specs.declared.board.Wing.{Wing}
use Rattle.chess_board.specs.declared.board.Wing.TheVariants.{HSide, ASide}
use Rattle.chess_board.specs.Board.{Pieces, piece_at, is_king, square_at}
use Rattle.chess_board.specs.Laws.{Beyond}
use Rattle.chess_board.specs.Lawful.{PositionInvariant}
use Rattle.chess_board.specs.Position.{Position}
use Rattle.chess_board.specs.Rules.{first_rank, right_of}
use Rattle.chess_board.proofs.Legal.{KingAt}
use Rattle.chess_board.proofs.Moved.{count-set}
use Rattle.fen_text.specs.RookFiles.{file_letter, named_rook, one_of, right_in, is_castling_letter, are_different, no_fischer_rights, fischer_rights_of, fischer_letters_of}
use Rattle.fen_text.specs.CastlingField.{IsOnlyKing, Names}
use Rattle.fen_text.specs.Written.{right_text, rights_text}
use Rattle.fen_text.proofs.Others.{some_letters}
use Rattle.fen_text.proofs.Named.{letters_apart, same_letter, named-of, named-none}

-- a side has one king, so two squares with its king are one
one_king : (pieces : Pieces) (side : Side) (a b : ℕ) → length pieces ≡ 64 → count_by (is_king side) pieces ≡ 1 → a < 64 → b < 64 → piece_at pieces a ≡ Some (side, King) → piece_at pieces b ≡ Some (side, King) → a ≡ b
one_king pieces side a b whole one al bl ka kb =
    ⊎_elim (λ (e : a ≡ b). e)
    (λ (apart : a ≢ b).
    let first = count-set (is_king side) pieces a None (rw whole al) in
    let was : is_king side (piece_at pieces a) ≡ true = (KingAt side (piece_at pieces a)).1 ka in
    let first' : count_by (is_king side) (set pieces a None) + 1 ≡ count_by (is_king side) pieces + 0 = rw was at first in
    let still : piece_at (set pieces a None) b ≡ piece_at pieces b = get_or-set_other pieces a b None None (λ e. apart (sym e)) in
    let second = count-set (is_king side) (set pieces a None) b None (rw (length-set pieces a None, whole) bl) in
    let is : is_king side (piece_at (set pieces a None) b) ≡ true = ap (is_king side) still ∙ (KingAt side (piece_at pieces b)).1 kb in
    let second' : count_by (is_king side) (set (set pieces a None) b None) + 1 ≡ count_by (is_king side) (set pieces a None) + 0 = rw is at second in
    absurd (omega (arith, one, first', second')))
    (cases_eq a b)

low_rank : (side : Side) (file : ℕ) → file < 8 → square_at file (first_rank side) < 64
low_rank White file h = omega arith
low_rank Black file h = omega arith

only_king : (p : Position) → PositionInvariant p → (side : Side) (king : ℕ) → king < 8 → piece_at p.pieces (square_at king (first_rank side)) ≡ Some (side, King) → IsOnlyKing p.pieces side king
only_king p is side king inside there = record {
  inside = inside;
  there = there;
  alone = λ file low k.
      let same : square_at file (first_rank side) ≡ square_at king (first_rank side) = one_king p.pieces side (square_at file (first_rank side)) (square_at king (first_rank side)) is.whole (is.kings.0 side) (low_rank side file low) (low_rank side king inside) k there in
      omega arith;
}

-- the letter of a rook's file names its right
own_right : (p : Position) → PositionInvariant p → (side : Side) (wing : Wing) (rook : ℕ) → right_of p.rights side wing ≡ Some rook → Names p.pieces side wing (file_letter side rook) rook
own_right p is side wing rook held =
    let home = is.rights side wing rook held in
    record {
      king = home.king;
      only = only_king p is side home.king home.king_inside home.king_there;
      inside = home.inside;
      there = home.rook_there;
      beyond = home.beyond;
      spelled = inl refl;
    }

-- and no other right
only_side : (pieces : Pieces) (side other : Side) (wing : Wing) (file rook : ℕ) → file < 8 → Names pieces side wing (file_letter other file) rook → (other ≡ side) × (file ≡ rook)
only_side pieces side other wing file rook low n =
    ⊎_elim (λ (e : file_letter other file ≡ file_letter side rook). same_letter other side file rook low n.inside e)
    (λ s. absurd (letters_apart other side wing file low s.0)) n.spelled

one_wing : (wing other : Wing) (king rook : ℕ) → Beyond wing king rook → Beyond other king rook → wing ≡ other
one_wing HSide HSide king rook h k = refl
one_wing HSide ASide king rook h k = absurd (omega arith)
one_wing ASide HSide king rook h k = absurd (omega arith)
one_wing ASide ASide king rook h k = refl

only_right : (p : Position) → PositionInvariant p → (side other : Side) (wing wing' : Wing) (file rook : ℕ) → right_of p.rights other wing' ≡ Some file → Names p.pieces side wing (file_letter other file) rook → (other ≡ side) × (wing' ≡ wing)
only_right p is side other wing wing' file rook held n =
    let home = is.rights other wing' file held in
    let same = only_side p.pieces side other wing file rook home.inside n in
    let own : Names p.pieces side wing' (file_letter side file) file = subst (λ (s : Side). Names p.pieces s wing' (file_letter s file) file) same.0 (own_right p is other wing' file held) in
    let king : own.king ≡ n.king = n.only.alone own.king own.only.inside own.only.there in
    let beyond : Beyond wing n.king file = subst (λ (f : ℕ). Beyond wing n.king f) (sym same.1) n.beyond in
    let beyond' : Beyond wing' n.king file = subst (λ (k : ℕ). Beyond wing' k file) king own.beyond in
    (same.0, one_wing wing' wing n.king file beyond' beyond)

no_other : (p : Position) → PositionInvariant p → (side other : Side) (wing wing' : Wing) (file : ℕ) → right_of p.rights other wing' ≡ Some file → ((other ≡ side) × (wing' ≡ wing) → ⊥) → named_rook p.pieces side wing (file_letter other file) ≡ None
no_other p is side other wing wing' file held apart = named-none p.pieces side wing (file_letter other file) (λ rook n. apart (only_right p is side other wing wing' file rook held n))

one_none : (right : Option ℕ) → one_of right None ≡ Some right
one_none None = refl
one_none (Some x) = refl

-- a letter that names no right of the wing, and the one that does
passes : (pieces : Pieces) (side : Side) (wing : Wing) (w a : ℕ) (held right : Option ℕ) (letters : List ℕ) → ((f : ℕ) → held ≡ Some f → named_rook pieces side wing (a + f) ≡ None)
    → right_in pieces side wing (Some right) (right_text Fischer w a held ++ letters) ≡ right_in pieces side wing (Some right) letters
passes pieces side wing w a None right letters h = refl
passes pieces side wing w a (Some f) right letters h = ap (λ (o : Option (Option ℕ)). right_in pieces side wing o letters) (ap (one_of right) (h f refl) ∙ one_none right)

keeps_own : (pieces : Pieces) (side : Side) (wing : Wing) (w a : ℕ) (held : Option ℕ) (letters : List ℕ) → ((f : ℕ) → held ≡ Some f → named_rook pieces side wing (a + f) ≡ Some f)
    → right_in pieces side wing (Some None) (right_text Fischer w a held ++ letters) ≡ right_in pieces side wing (Some held) letters
keeps_own pieces side wing w a None letters h = refl
keeps_own pieces side wing w a (Some f) letters h = ap (λ (o : Option (Option ℕ)). right_in pieces side wing o letters) (ap (one_of None) (h f refl))

-- the letters of the rights
letters : Option ℕ → Option ℕ → Option ℕ → Option ℕ → List ℕ
letters wk wq bk bq = right_text Fischer 75 65 wk ++ (right_text Fischer 81 65 wq ++ (right_text Fischer 107 97 bk ++ right_text Fischer 113 97 bq))

abbrev IsFile : Option ℕ → Type 0
IsFile right = IfSome right (λ file. file < 8)

Apart : Option ℕ → Option ℕ → Type 0
Apart right other = (a b : ℕ) → right ≡ Some a → other ≡ Some b → a ≢ b

different : (wk wq bk bq : Option ℕ) → IsFile wk → IsFile wq → IsFile bk → IsFile bq → Apart wk wq → Apart bk bq → are_different (letters wk wq bk bq) ≡ true
unfolding letters Apart
different (Some a) (Some b) (Some c) (Some d) ah bh ch dh white black = let x : a ≢ b = white a b refl refl in let y : c ≢ d = black c d refl refl in grind (arith, nat_tests)
different (Some a) (Some b) (Some c) None ah bh ch dh white black = let x : a ≢ b = white a b refl refl in grind (arith, nat_tests)
different (Some a) (Some b) None (Some d) ah bh ch dh white black = let x : a ≢ b = white a b refl refl in grind (arith, nat_tests)
different (Some a) (Some b) None None ah bh ch dh white black = let x : a ≢ b = white a b refl refl in grind (arith, nat_tests)
different (Some a) None (Some c) (Some d) ah bh ch dh white black = let y : c ≢ d = black c d refl refl in grind (arith, nat_tests)
different (Some a) None (Some c) None ah bh ch dh white black = grind (arith, nat_tests)
different (Some a) None None (Some d) ah bh ch dh white black = grind (arith, nat_tests)
different (Some a) None None None ah bh ch dh white black = grind (arith, nat_tests)
different None (Some b) (Some c) (Some d) ah bh ch dh white black = let y : c ≢ d = black c d refl refl in grind (arith, nat_tests)
different None (Some b) (Some c) None ah bh ch dh white black = grind (arith, nat_tests)
different None (Some b) None (Some d) ah bh ch dh white black = grind (arith, nat_tests)
different None (Some b) None None ah bh ch dh white black = grind (arith, nat_tests)
different None None (Some c) (Some d) ah bh ch dh white black = let y : c ≢ d = black c d refl refl in grind (arith, nat_tests)
different None None (Some c) None ah bh ch dh white black = grind (arith, nat_tests)
different None None None (Some d) ah bh ch dh white black = grind (arith, nat_tests)
different None None None None ah bh ch dh white black = grind (arith, nat_tests)

is_letter : (side : Side) (file : ℕ) → file < 8 → is_castling_letter (file_letter side file) ≡ true
is_letter White file h = grind (arith, nat_tests)
is_letter Black file h = grind (arith, nat_tests)

white_letters : (w : ℕ) (right : Option ℕ) → IsFile right → list_all is_castling_letter (right_text Fischer w 65 right) ≡ true
white_letters w None h = refl
white_letters w (Some file) h = let is : is_castling_letter (65 + file) ≡ true = is_letter White file h in rw is refl

black_letters : (w : ℕ) (right : Option ℕ) → IsFile right → list_all is_castling_letter (right_text Fischer w 97 right) ≡ true
black_letters w None h = refl
black_letters w (Some file) h = let is : is_castling_letter (97 + file) ≡ true = is_letter Black file h in rw is refl

both_all : (xs ys : List ℕ) → list_all is_castling_letter xs ≡ true → list_all is_castling_letter ys ≡ true → list_all is_castling_letter (xs ++ ys) ≡ true
both_all xs ys x y = list_all-append is_castling_letter xs ys ∙ rw (x, y) refl

all_letters : (wk wq bk bq : Option ℕ) → IsFile wk → IsFile wq → IsFile bk → IsFile bq → list_all is_castling_letter (letters wk wq bk bq) ≡ true
unfolding letters
all_letters wk wq bk bq a b c d =
    both_all (right_text Fischer 75 65 wk) _ (white_letters 75 wk a) (both_all (right_text Fischer 81 65 wq) _ (white_letters 81 wq b)
    (both_all (right_text Fischer 107 97 bk) (right_text Fischer 113 97 bq) (black_letters 107 bk c) (black_letters 113 bq d)))

-- letters are no dash
pub letters_read : (pieces : Pieces) (field : List ℕ) → list_all is_castling_letter field ≡ true → 0 < length field → fischer_rights_of pieces field ≡ fischer_letters_of pieces field
letters_read pieces [] e h = absurd (omega arith)
letters_read pieces (x ∷ []) e h =
    elim (eqb x 45) as (λ v. eqb x 45 ≡ v → cond v (Some no_fischer_rights) (fischer_letters_of pieces (x ∷ [])) ≡ fischer_letters_of pieces (x ∷ [])) [
      | true ↦ λ t. let no : (is_castling_letter 45 && true) ≡ true = subst (λ (n : ℕ). (is_castling_letter n && true) ≡ true) ((Decides-eqb x 45).0 t) e in absurd (cc)
      | false ↦ λ _. refl
    ] refl
letters_read pieces (x ∷ y ∷ ys) e h = refl

unfoldable pub five : Variant → Option ℕ → Option ℕ → Option ℕ → Option ℕ → Rights
five variant wk wq bk bq = record { variant = variant; wk = wk; wq = wq; bk = bk; bq = bq }

pub found : (pieces : Pieces) (field : List ℕ) (wk wq bk bq : Option ℕ) → list_all is_castling_letter field ≡ true → are_different field ≡ true
    → right_in pieces White HSide (Some None) field ≡ Some wk → right_in pieces White ASide (Some None) field ≡ Some wq → right_in pieces Black HSide (Some None) field ≡ Some bk → right_in pieces Black ASide (Some None) field ≡ Some bq
    → fischer_letters_of pieces field ≡ Some (five Fischer wk wq bk bq)
unfolding five
found pieces field wk wq bk bq all apart k q l r = rw (all, apart, k, q, l, r) refl

none_held : (wk wq bk bq : Option ℕ) → ((is_some wk || is_some wq) || (is_some bk || is_some bq)) ≡ false → Some no_fischer_rights ≡ Some (five Fischer wk wq bk bq)
unfolding five
none_held None None None None e = refl
none_held (Some a) wq bk bq e = absurd (cc)
none_held None (Some a) bk bq e = absurd (cc)
none_held None None (Some a) bq e = absurd (cc)
none_held None None None (Some a) e = absurd (cc)

-- the rights of one side stand on both sides of its king
apart : (p : Position) → PositionInvariant p → (side : Side) → Apart (right_of p.rights side HSide) (right_of p.rights side ASide)
unfolding Apart
apart p is side a b h k same =
    let other : Names p.pieces side HSide (file_letter side b) a = subst (λ (f : ℕ). Names p.pieces side HSide (file_letter side f) a) same (own_right p is side HSide a h) in
    let e : ASide ≡ HSide = (only_right p is side side HSide ASide b a k other).1 in
    absurd (cc)

file_in : (p : Position) → PositionInvariant p → (side : Side) (wing : Wing) (right : Option ℕ) → right_of p.rights side wing ≡ right → IsFile right
file_in p is side wing None held = tt
file_in p is side wing (Some rook) held = (is.rights side wing rook held).inside

last : (wk wq bk bq : Option ℕ) → letters wk wq bk bq ≡ right_text Fischer 75 65 wk ++ (right_text Fischer 81 65 wq ++ (right_text Fischer 107 97 bk ++ (right_text Fischer 113 97 bq ++ [])))
unfolding letters
last wk wq bk bq = ap (λ (zs : List ℕ). right_text Fischer 75 65 wk ++ (right_text Fischer 81 65 wq ++ (right_text Fischer 107 97 bk ++ zs))) (sym (append-nil (right_text Fischer 113 97 bq)))

right_wk : (p : Position) → PositionInvariant p → right_in p.pieces White HSide (Some None) (letters p.rights.wk p.rights.wq p.rights.bk p.rights.bq) ≡ Some p.rights.wk
right_wk p is =
    ap (λ (field : List ℕ). right_in p.pieces White HSide (Some None) field) (last p.rights.wk p.rights.wq p.rights.bk p.rights.bq)
    ∙ keeps_own p.pieces White HSide 75 65 p.rights.wk _ (λ f h. named-of p.pieces White HSide (file_letter White f) f (own_right p is White HSide f h))
    ∙ passes p.pieces White HSide 81 65 p.rights.wq p.rights.wk _ (λ f h. no_other p is White White HSide ASide f h (λ same. let e = same.1 in absurd (cc)))
    ∙ passes p.pieces White HSide 107 97 p.rights.bk p.rights.wk _ (λ f h. no_other p is White Black HSide HSide f h (λ same. let e = same.0 in absurd (cc)))
    ∙ passes p.pieces White HSide 113 97 p.rights.bq p.rights.wk [] (λ f h. no_other p is White Black HSide ASide f h (λ same. let e = same.0 in absurd (cc)))

right_wq : (p : Position) → PositionInvariant p → right_in p.pieces White ASide (Some None) (letters p.rights.wk p.rights.wq p.rights.bk p.rights.bq) ≡ Some p.rights.wq
right_wq p is =
    ap (λ (field : List ℕ). right_in p.pieces White ASide (Some None) field) (last p.rights.wk p.rights.wq p.rights.bk p.rights.bq)
    ∙ passes p.pieces White ASide 75 65 p.rights.wk None _ (λ f h. no_other p is White White ASide HSide f h (λ same. let e = same.1 in absurd (cc)))
    ∙ keeps_own p.pieces White ASide 81 65 p.rights.wq _ (λ f h. named-of p.pieces White ASide (file_letter White f) f (own_right p is White ASide f h))
    ∙ passes p.pieces White ASide 107 97 p.rights.bk p.rights.wq _ (λ f h. no_other p is White Black ASide HSide f h (λ same. let e = same.0 in absurd (cc)))
    ∙ passes p.pieces White ASide 113 97 p.rights.bq p.rights.wq [] (λ f h. no_other p is White Black ASide ASide f h (λ same. let e = same.0 in absurd (cc)))

right_bk : (p : Position) → PositionInvariant p → right_in p.pieces Black HSide (Some None) (letters p.rights.wk p.rights.wq p.rights.bk p.rights.bq) ≡ Some p.rights.bk
right_bk p is =
    ap (λ (field : List ℕ). right_in p.pieces Black HSide (Some None) field) (last p.rights.wk p.rights.wq p.rights.bk p.rights.bq)
    ∙ passes p.pieces Black HSide 75 65 p.rights.wk None _ (λ f h. no_other p is Black White HSide HSide f h (λ same. let e = same.0 in absurd (cc)))
    ∙ passes p.pieces Black HSide 81 65 p.rights.wq None _ (λ f h. no_other p is Black White HSide ASide f h (λ same. let e = same.0 in absurd (cc)))
    ∙ keeps_own p.pieces Black HSide 107 97 p.rights.bk _ (λ f h. named-of p.pieces Black HSide (file_letter Black f) f (own_right p is Black HSide f h))
    ∙ passes p.pieces Black HSide 113 97 p.rights.bq p.rights.bk [] (λ f h. no_other p is Black Black HSide ASide f h (λ same. let e = same.1 in absurd (cc)))

right_bq : (p : Position) → PositionInvariant p → right_in p.pieces Black ASide (Some None) (letters p.rights.wk p.rights.wq p.rights.bk p.rights.bq) ≡ Some p.rights.bq
right_bq p is =
    ap (λ (field : List ℕ). right_in p.pieces Black ASide (Some None) field) (last p.rights.wk p.rights.wq p.rights.bk p.rights.bq)
    ∙ passes p.pieces Black ASide 75 65 p.rights.wk None _ (λ f h. no_other p is Black White ASide HSide f h (λ same. let e = same.0 in absurd (cc)))
    ∙ passes p.pieces Black ASide 81 65 p.rights.wq None _ (λ f h. no_other p is Black White ASide ASide f h (λ same. let e = same.0 in absurd (cc)))
    ∙ passes p.pieces Black ASide 107 97 p.rights.bk None _ (λ f h. no_other p is Black Black ASide HSide f h (λ same. let e = same.1 in absurd (cc)))
    ∙ keeps_own p.pieces Black ASide 113 97 p.rights.bq [] (λ f h. named-of p.pieces Black ASide (file_letter Black f) f (own_right p is Black ASide f h))

spelled : (p : Position) → PositionInvariant p → fischer_letters_of p.pieces (letters p.rights.wk p.rights.wq p.rights.bk p.rights.bq) ≡ Some (five Fischer p.rights.wk p.rights.wq p.rights.bk p.rights.bq)
spelled p is =
    let wk = file_in p is White HSide p.rights.wk refl in
    let wq = file_in p is White ASide p.rights.wq refl in
    let bk = file_in p is Black HSide p.rights.bk refl in
    let bq = file_in p is Black ASide p.rights.bq refl in
    found p.pieces (letters p.rights.wk p.rights.wq p.rights.bk p.rights.bq) p.rights.wk p.rights.wq p.rights.bk p.rights.bq
    (all_letters p.rights.wk p.rights.wq p.rights.bk p.rights.bq wk wq bk bq)
    (different p.rights.wk p.rights.wq p.rights.bk p.rights.bq wk wq bk bq (apart p is White) (apart p is Black))
    (right_wk p is) (right_wq p is) (right_bk p is) (right_bq p is)

text_of : (p : Position) → PositionInvariant p → fischer_rights_of p.pieces (rights_text (five Fischer p.rights.wk p.rights.wq p.rights.bk p.rights.bq)) ≡ Some (five Fischer p.rights.wk p.rights.wq p.rights.bk p.rights.bq)
unfolding five letters
text_of p is =
    let any = (is_some p.rights.wk || is_some p.rights.wq) || (is_some p.rights.bk || is_some p.rights.bq) in
    let field = letters p.rights.wk p.rights.wq p.rights.bk p.rights.bq in
    let wk = file_in p is White HSide p.rights.wk refl in
    let wq = file_in p is White ASide p.rights.wq refl in
    let bk = file_in p is Black HSide p.rights.bk refl in
    let bq = file_in p is Black ASide p.rights.bq refl in
    elim any as (λ v. any ≡ v → fischer_rights_of p.pieces (cond v field (45 ∷ [])) ≡ Some (five Fischer p.rights.wk p.rights.wq p.rights.bk p.rights.bq)) [
      | true ↦ λ e. letters_read p.pieces field (all_letters p.rights.wk p.rights.wq p.rights.bk p.rights.bq wk wq bk bq) (some_letters Fischer p.rights.wk p.rights.wq p.rights.bk p.rights.bq e) ∙ spelled p is
      | false ↦ λ e. none_held p.rights.wk p.rights.wq p.rights.bk p.rights.bq e
    ] refl

pub fischer_rights_of-text : (p : Position) → PositionInvariant p → p.rights.variant ≡ Fischer → fischer_rights_of p.pieces (rights_text p.rights) ≡ Some p.rights
unfolding five
fischer_rights_of-text p is fischer =
    let same : p.rights ≡ five Fischer p.rights.wk p.rights.wq p.rights.bk p.rights.bq = ap (λ (v : Variant). five v p.rights.wk p.rights.wq p.rights.bk p.rights.bq) fischer in
    subst (λ (r : Rights). fischer_rights_of p.pieces (rights_text r) ≡ Some r) (sym same) (text_of p is)
