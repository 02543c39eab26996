-- Castling as it is written, and castling by the Laws.
use Rattle.std.proofs.Common.{◌≡◌, ◌≢◌, ◌⊎◌, inl, inr, ⊎_elim, ℕ, ◌+◌, ◌<◌, ◌≤◌, true, false, ◌==◌, Option, Some, None, refl, ap, sym, subst, ◌∙◌, arith}
use Rattle.std.specs.Prelude.{nat_lt}
use Rattle.std.proofs.lemmas.Bool.Decides.{nat_tests, Decides-eqb}
use Rattle.std.proofs.lemmas.Bool.{and_from, and_parts, cases_lt}
use mathlib.Core.Bool.{and-false}
use Rattle.chess_board.specs.declared.board.Side.{Side}
use Rattle.chess_board.specs.declared.board.Side.TheVariants.{White, Black}
use Rattle.chess_board.specs.declared.board.Kind.{Kind}
use Rattle.chess_board.specs.declared.board.Kind.TheVariants.{Rook, King}
use Rattle.chess_board.specs.declared.board.Variant.{Variant}
use Rattle.chess_board.specs.declared.board.Variant.TheVariants.{Normal, Fischer}
use Rattle.chess_board.specs.declared.board.Wing.{Wing}
use Rattle.chess_board.specs.declared.board.Wing.TheVariants.{HSide, ASide}
use Rattle.chess_board.specs.Board.{piece_at, is_of_side, file_of, rank_of_square, square_at, distance}
use Rattle.chess_board.specs.Position.{Position}
use Rattle.chess_board.specs.Rules.{first_rank, king_home, is_beyond, king_aim, rook_aim, castling_file}
use Rattle.chess_board.specs.Laws.{MayLand, IsOnFile, Beyond, FromTo, Castles, IsCastling, MayReach, IsLegal}
use Rattle.chess_board.specs.Lawful.{PositionInvariant}
use Rattle.chess_board.proofs.Bools.{same_side-refl}
use Rattle.chess_board.proofs.Legal.{Of, BeyondAt}
use Rattle.chess_board.proofs.NormalCastling.{normal-castling}
use Rattle.san_text.specs.Writing.{castles_to}
use Rattle.san_text.proofs.Bools.{differs}
use Rattle.san_text.proofs.Pawns.{same_square}
use Rattle.san_text.proofs.Texts.{file_small, square_again}

equal : (a b : ℕ) → (a == b) ≡ true → a ≡ b
equal a b = (Decides-eqb a b).0

-- the square that spells castling
spelled_normal : (p : Position) (wing : Wing) (rook to : ℕ) → p.rights.variant ≡ Normal → IsOnFile p.side (castling_file p.rights.variant wing rook) to → IsOnFile p.side (king_aim wing) to
spelled_normal p wing rook to normal on = subst (λ (v : Variant). IsOnFile p.side (castling_file v wing rook) to) normal on

spelled_fischer : (p : Position) (wing : Wing) (rook to : ℕ) → p.rights.variant ≡ Fischer → IsOnFile p.side (castling_file p.rights.variant wing rook) to → IsOnFile p.side rook to
spelled_fischer p wing rook to fischer on = subst (λ (v : Variant). IsOnFile p.side (castling_file v wing rook) to) fischer on

-- WHAT IS WRITTEN AS CASTLING IS CASTLING

-- a legal move to a piece of the side's own castles
own_castles : (p : Position) (piece : Kind) (from to : ℕ) → MayLand p.side (piece_at p.pieces to) ⊎ IsCastling p piece from to → is_of_side p.side (piece_at p.pieces to) ≡ true → Castles p HSide from to ⊎ Castles p ASide from to
own_castles p piece from to (inl l) own = absurd (l.0 ((Of p.side (piece_at p.pieces to)).0 own))
own_castles p piece from to (inr c) own = c.1

-- in Chess960 the square that spells castling lies towards the wing
towards : (p : Position) (wing : Wing) (from to : ℕ) → p.rights.variant ≡ Fischer → Castles p wing from to → Beyond wing (file_of from) (file_of to)
towards p wing from to fischer c = subst (λ (rook : ℕ). Beyond wing (file_of from) rook) (sym (spelled_fischer p wing c.rook to fischer c.spelled).1) c.beyond

wing_is : (p : Position) (wing : Wing) (from to : ℕ) → p.rights.variant ≡ Fischer → Castles p HSide from to ⊎ Castles p ASide from to → Beyond wing (file_of from) (file_of to) → Castles p wing from to
wing_is p HSide from to fischer (inl c) b = c
wing_is p ASide from to fischer (inl c) b = let t = towards p HSide from to fischer c in absurd (omega (arith, t, b))
wing_is p HSide from to fischer (inr c) b = let t = towards p ASide from to fischer c in absurd (omega (arith, t, b))
wing_is p ASide from to fischer (inr c) b = c

pub fischer_castles : (p : Position) (wing : Wing) (from to : ℕ) (promotion : Option Kind) → p.rights.variant ≡ Fischer → IsLegal p from to promotion → castles_to p Fischer wing from to ≡ true → Castles p wing from to
fischer_castles p wing from to promotion fischer h e =
    let parts = and_parts (is_of_side p.side (piece_at p.pieces to)) (is_beyond wing (file_of from) (file_of to)) e in
    wing_is p wing from to fischer (own_castles p h.piece from to h.landing parts.0) ((BeyondAt wing (file_of from) (file_of to)).0 parts.1)

short_file : (side : Side) (to : ℕ) → to ≡ king_home side + 2 → file_of to ≡ 6
short_file White to e = omega arith
short_file Black to e = omega arith

long_file : (side : Side) (to : ℕ) → to + 2 ≡ king_home side → file_of to ≡ 2
long_file White to e = omega arith
long_file Black to e = omega arith

home_file : (side : Side) (from : ℕ) → from ≡ king_home side → file_of from ≡ 4
home_file White from e = omega arith
home_file Black from e = omega arith

-- two files are further than a king goes, unless he castles
far : (from to : ℕ) → file_of from + 2 ≡ file_of to ⊎ file_of to + 2 ≡ file_of from → distance from to ≡ 1 → ⊥
far from to (inl e) d = omega arith
far from to (inr e) d = omega arith

normal_by : (p : Position) (wing : Wing) (from to : ℕ) → p.rights.variant ≡ Normal → MayReach p King from to → castles_to p Normal wing from to ≡ true → Castles p wing from to
normal_by p HSide from to normal way e =
    let parts = and_parts (from == king_home p.side) (to == king_home p.side + 2) e in
    let home = home_file p.side from (equal _ _ parts.0) in
    let there = short_file p.side to (equal _ _ parts.1) in
    (elim way [
      | inl near ↦ absurd (far from to (inl (omega arith)) near)
      | inr (inl c) ↦ c
      | inr (inr c) ↦ let on = spelled_normal p ASide c.rook to normal c.spelled in let file = on.1 in absurd (omega arith)
    ])
normal_by p ASide from to normal way e =
    let parts = and_parts (from == king_home p.side) (to + 2 == king_home p.side) e in
    let home = home_file p.side from (equal _ _ parts.0) in
    let there = long_file p.side to (equal _ _ parts.1) in
    (elim way [
      | inl near ↦ absurd (far from to (inr (omega arith)) near)
      | inr (inl c) ↦ let on = spelled_normal p HSide c.rook to normal c.spelled in let file = on.1 in absurd (omega arith)
      | inr (inr c) ↦ c
    ])

pub normal_castles : (p : Position) (wing : Wing) (from to : ℕ) (promotion : Option Kind) → p.rights.variant ≡ Normal → (h : IsLegal p from to promotion) → h.piece ≡ King → castles_to p Normal wing from to ≡ true → Castles p wing from to
normal_castles p wing from to promotion normal h king e = normal_by p wing from to normal (subst (λ (k : Kind). MayReach p k from to) king h.way) e

-- CASTLING IS WRITTEN SO

pub fischer_written : (p : Position) (wing : Wing) (from to : ℕ) → p.rights.variant ≡ Fischer → PositionInvariant p → Castles p wing from to → castles_to p Fischer wing from to ≡ true
fischer_written p wing from to fischer is c =
    let on = spelled_fischer p wing c.rook to fischer c.spelled in
    let at : to ≡ square_at c.rook (first_rank p.side) = sym (square_again to) ∙ ap (λ (f : ℕ). square_at f (rank_of_square to)) on.1 ∙ ap (λ (r : ℕ). square_at c.rook r) on.0 in
    let rook = ap (piece_at p.pieces) at ∙ (is.rights p.side wing c.rook c.right).rook_there in
    and_from (is_of_side p.side (piece_at p.pieces to)) (is_beyond wing (file_of from) (file_of to)) (ap (is_of_side p.side) rook ∙ same_side-refl p.side) ((BeyondAt wing (file_of from) (file_of to)).1 (towards p wing from to fischer c))

pub normal_written : (p : Position) (wing : Wing) (from to : ℕ) → p.rights.variant ≡ Normal → PositionInvariant p → from < 64 → to < 64 → piece_at p.pieces from ≡ Some (p.side, King) → Castles p wing from to → castles_to p Normal wing from to ≡ true
normal_written p HSide from to normal is low low' king c =
    let s = (normal-castling p from to is normal low low' king).0.0 c in
    and_from (from == king_home p.side) (to == king_home p.side + 2) ((Decides-eqb from (king_home p.side)).1 s.0.0) ((Decides-eqb to (king_home p.side + 2)).1 s.0.1)
normal_written p ASide from to normal is low low' king c =
    let s = (normal-castling p from to is normal low low' king).1.0 c in
    and_from (from == king_home p.side) (to + 2 == king_home p.side) ((Decides-eqb from (king_home p.side)).1 s.0.0) ((Decides-eqb (to + 2) (king_home p.side)).1 s.0.1)

not_less : (x y : ℕ) → y < x → nat_lt x y ≡ false
not_less x y h = grind (arith, nat_tests)

-- nothing is written as castling on both wings
pub not_both : (v : Variant) (p : Position) (from to : ℕ) → castles_to p v ASide from to ≡ true → castles_to p v HSide from to ≡ false
not_both Normal p from to e =
    let parts = and_parts (from == king_home p.side) (to + 2 == king_home p.side) e in
    let there = equal _ _ parts.1 in
    rw (differs to (king_home p.side + 2) (λ f. omega (arith, f, there))) (and-false (from == king_home p.side))
not_both Fischer p from to e =
    let parts = and_parts (is_of_side p.side (piece_at p.pieces to)) (is_beyond ASide (file_of from) (file_of to)) e in
    let beyond = (BeyondAt ASide (file_of from) (file_of to)).0 parts.1 in
    rw (not_less (file_of from) (file_of to) beyond) (and-false (is_of_side p.side (piece_at p.pieces to)))

-- ON A WING ONE MOVE CASTLES

-- no other king stands where king and rook go
passed : (p : Position) (wing : Wing) (a b to : ℕ) (c : Castles p wing a to) → piece_at p.pieces b ≡ Some (p.side, King) → rank_of_square b ≡ first_rank p.side → FromTo (file_of a) (king_aim wing) (file_of b) ⊎ FromTo c.rook (rook_aim wing) (file_of b) → file_of b ≢ file_of a → file_of b ≢ c.rook → ⊥
passed p wing a b to c king home way nk nr =
    let empty = c.empty (file_of b) (file_small b) way nk nr in
    let here : square_at (file_of b) (first_rank p.side) ≡ b = ap (λ (r : ℕ). square_at (file_of b) r) (sym home) ∙ square_again b in
    let none : piece_at p.pieces b ≡ None = subst (λ (s : ℕ). piece_at p.pieces s ≡ None) here empty in
    cc (none, king)

one_rook : (p : Position) (wing : Wing) (a b t u : ℕ) (c : Castles p wing a t) (d : Castles p wing b u) → c.rook ≡ d.rook
one_rook p wing a b t u c d = let same : Some c.rook ≡ Some d.rook = sym c.right ∙ d.right in cc same

not_further : (p : Position) (wing : Wing) (a b t u : ℕ) → Castles p wing a t → Castles p wing b u → piece_at p.pieces b ≡ Some (p.side, King) → Beyond wing (file_of a) (file_of b) → ⊥
not_further p HSide a b t u c d king further =
    let rook = one_rook p HSide a b t u c d in
    let past = d.beyond in
    let inside = d.inside in
    let way : FromTo (file_of a) 6 (file_of b) = inl (omega arith, omega arith) in
    passed p HSide a b t c king d.home (inl way) (λ e. omega arith) (λ e. omega arith)
not_further p ASide a b t u c d king further =
    let rook = one_rook p ASide a b t u c d in
    let past = d.beyond in
    ⊎_elim (λ (low : file_of b < 3). let way : FromTo c.rook 3 (file_of b) = inl (omega arith, omega arith) in passed p ASide a b t c king d.home (inr way) (λ e. omega arith) (λ e. omega arith))
    (λ (high : 3 ≤ file_of b). let way : FromTo (file_of a) 2 (file_of b) = inr (omega arith, omega arith) in passed p ASide a b t c king d.home (inl way) (λ e. omega arith) (λ e. omega arith))
    (cases_lt (file_of b) 3)

neither : (a b : ℕ) → (a < b → ⊥) → (b < a → ⊥) → a ≡ b
neither a b f g =
    ⊎_elim (λ (l : a < b). absurd (f l)) (λ (h : b ≤ a). ⊎_elim (λ (l : b < a). absurd (g l)) (λ (i : a ≤ b). let same : a ≡ b = omega arith in same) (cases_lt b a)) (cases_lt a b)

one_file : (p : Position) (wing : Wing) (a b t u : ℕ) → Castles p wing a t → Castles p wing b u → piece_at p.pieces a ≡ Some (p.side, King) → piece_at p.pieces b ≡ Some (p.side, King) → file_of a ≡ file_of b
one_file p HSide a b t u c d ka kb = neither (file_of a) (file_of b) (λ l. not_further p HSide a b t u c d kb l) (λ l. not_further p HSide b a u t d c ka l)
one_file p ASide a b t u c d ka kb = neither (file_of a) (file_of b) (λ l. not_further p ASide b a u t d c ka l) (λ l. not_further p ASide a b t u c d kb l)

-- the squares of two moves are the same
pub record SameSquares (a b t u : ℕ) : Type 0 where
  pub from : a ≡ b
  pub to : t ≡ u

fischer_one : (p : Position) (wing : Wing) (a b t u : ℕ) → p.rights.variant ≡ Fischer → Castles p wing a t → Castles p wing b u → piece_at p.pieces a ≡ Some (p.side, King) → piece_at p.pieces b ≡ Some (p.side, King) → SameSquares a b t u
fischer_one p wing a b t u fischer c d ka kb =
    let on = spelled_fischer p wing c.rook t fischer c.spelled in
    let on' = spelled_fischer p wing d.rook u fischer d.spelled in
    record {
      from = same_square a b (one_file p wing a b t u c d ka kb) (c.home ∙ sym d.home);
      to = same_square t u (on.1 ∙ one_rook p wing a b t u c d ∙ sym on'.1) (on.0 ∙ sym on'.0);
    }

king_there : (p : Position) (from to : ℕ) (promotion : Option Kind) (h : IsLegal p from to promotion) → h.piece ≡ King → piece_at p.pieces from ≡ Some (p.side, King)
king_there p from to promotion h king = h.occupant ∙ ap (λ (k : Kind). Some (p.side, k)) king

-- what is written as castling on a wing is one move
pub one_castling : (v : Variant) (p : Position) (wing : Wing) (a b t u : ℕ) (j k : Option Kind) → p.rights.variant ≡ v → (h : IsLegal p a t j) → (i : IsLegal p b u k) → h.piece ≡ King → i.piece ≡ King → castles_to p v wing a t ≡ true → castles_to p v wing b u ≡ true → SameSquares a b t u
one_castling Normal p HSide a b t u j k normal h i kh ki e f =
    let x = and_parts (a == king_home p.side) (t == king_home p.side + 2) e in
    let y = and_parts (b == king_home p.side) (u == king_home p.side + 2) f in
    record { from = equal _ _ x.0 ∙ sym (equal _ _ y.0); to = equal _ _ x.1 ∙ sym (equal _ _ y.1) }
one_castling Normal p ASide a b t u j k normal h i kh ki e f =
    let x = and_parts (a == king_home p.side) (t + 2 == king_home p.side) e in
    let y = and_parts (b == king_home p.side) (u + 2 == king_home p.side) f in
    let to = equal _ _ x.1 ∙ sym (equal _ _ y.1) in
    record { from = equal _ _ x.0 ∙ sym (equal _ _ y.0); to = omega (arith, to) }
one_castling Fischer p wing a b t u j k fischer h i kh ki e f =
    fischer_one p wing a b t u fischer (fischer_castles p wing a t j fischer h e) (fischer_castles p wing b u k fischer i f) (king_there p a t j h kh) (king_there p b u k i ki)
