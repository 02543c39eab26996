-- In normal chess castling is that of article 3.8.2, square by square.
use Rattle.std.proofs.Common.{◌≡◌, ◌≢◌, ◌+◌, ◌-◌, ◌<◌, ◌≤◌, ◌⊎◌, ℕ, true, refl, inl, inr, ⊎_elim, ap, subst, sym, ◌∙◌, Option, Some, None, length, set, arith, get_or-set_other, length-set}
use Rattle.std.specs.Prelude.{IsSome, count_by}
use Rattle.std.proofs.lemmas.Bool.{cases_eq, false≢true}
use Rattle.chess_board.specs.declared.board.Kind.TheVariants.{King}
use Rattle.chess_board.specs.declared.board.Side.{Side}
use Rattle.chess_board.specs.declared.board.Side.TheVariants.{White, Black}
use Rattle.chess_board.specs.declared.board.Variant.{Variant}
use Rattle.chess_board.specs.declared.board.Variant.TheVariants.{Normal}
use Rattle.chess_board.specs.declared.board.Wing.{Wing}
use Rattle.chess_board.specs.declared.board.Wing.TheVariants.{HSide, ASide}
use Rattle.chess_board.specs.Board.{Pieces, piece_at, other, is_king, file_of, rank_of_square, square_at}
use Rattle.chess_board.specs.Position.{Position}
use Rattle.chess_board.specs.Rules.{first_rank, king_home, corner_file, right_of, king_aim, castling_file}
use Rattle.chess_board.specs.Laws.{FromTo, IsOnFile, Unattacked, Castles, CastlesShort, CastlesLong}
use Rattle.chess_board.specs.Lawful.{BeginOn, PositionInvariant, NormalCastlingLaw}
use Rattle.chess_board.proofs.Castled.{rank_low}
use Rattle.chess_board.proofs.Legal.{KingAt}
use Rattle.chess_board.proofs.Moved.{count-set}

-- a side has one king, so two squares with its king are one
one_king : (pieces : Pieces) (side : Side) (a b : ℕ) → length pieces ≡ 64 → count_by (is_king side) pieces ≡ 1 → a < 64 → b < 64 → piece_at pieces a ≡ Some (side, King) → piece_at pieces b ≡ Some (side, King) → a ≡ b
one_king pieces side a b whole one al bl ka kb =
    ⊎_elim (λ (e : a ≡ b). e)
    (λ (apart : a ≢ b).
    let first = count-set (is_king side) pieces a None (rw whole al) in
    let was : is_king side (piece_at pieces a) ≡ true = (KingAt side (piece_at pieces a)).1 ka in
    let first' : count_by (is_king side) (set pieces a None) + 1 ≡ count_by (is_king side) pieces + 0 = rw was at first in
    let still : piece_at (set pieces a None) b ≡ piece_at pieces b = get_or-set_other pieces a b None None (λ e. apart (sym e)) in
    let second = count-set (is_king side) (set pieces a None) b None (rw (length-set pieces a None, whole) bl) in
    let is : is_king side (piece_at (set pieces a None) b) ≡ true = ap (is_king side) still ∙ (KingAt side (piece_at pieces b)).1 kb in
    let second' : count_by (is_king side) (set (set pieces a None) b None) + 1 ≡ count_by (is_king side) (set pieces a None) + 0 = rw is at second in
    absurd (omega (arith, one, first', second')))
    (cases_eq a b)

-- the king's home is the square of the file e
home_is : (side : Side) → king_home side ≡ square_at 4 (first_rank side)
home_is White = refl
home_is Black = refl

held : (o : Option ℕ) → IsSome o → (rook : ℕ) × (o ≡ Some rook)
held None h = absurd (false≢true h)
held (Some rook) h = (rook, refl)

held_some : (o : Option ℕ) (rook : ℕ) → o ≡ Some rook → IsSome o
held_some None rook e = absurd (cc)
held_some (Some own) rook e = refl

-- where king and rook stand when a right is held in normal chess
record Begun (p : Position) (wing : Wing) (rook : ℕ) : Type 0 where
  rook_file : rook ≡ corner_file wing
  king_there : piece_at p.pieces (king_home p.side) ≡ Some (p.side, King)

begun : (p : Position) (wing : Wing) (rook : ℕ) → PositionInvariant p → p.rights.variant ≡ Normal → right_of p.rights p.side wing ≡ Some rook → Begun p wing rook
begun p wing rook is normal right =
    let home = is.rights p.side wing rook right in
    let files : BeginOn Normal wing home.king rook = subst (λ (v : Variant). BeginOn v wing home.king rook) normal home.begin in
    record {
      rook_file = files.1;
      king_there = ap (piece_at p.pieces) (home_is p.side ∙ ap (λ (f : ℕ). square_at f (first_rank p.side)) (sym files.0)) ∙ home.king_there;
    }

home_low : (side : Side) → king_home side < 64
home_low White = omega arith
home_low Black = omega arith

from_home : (p : Position) (wing : Wing) (from rook : ℕ) → PositionInvariant p → p.rights.variant ≡ Normal → from < 64 → piece_at p.pieces from ≡ Some (p.side, King) → right_of p.rights p.side wing ≡ Some rook → from ≡ king_home p.side
from_home p wing from rook is normal low occupant right =
    one_king p.pieces p.side from (king_home p.side) is.whole (is.kings.0 p.side) low (home_low p.side) occupant (begun p wing rook is normal right).king_there

spelled_normal : (p : Position) (wing : Wing) (rook to : ℕ) → p.rights.variant ≡ Normal → IsOnFile p.side (castling_file p.rights.variant wing rook) to → IsOnFile p.side (king_aim wing) to
spelled_normal p wing rook to normal on = subst (λ (v : Variant). IsOnFile p.side (castling_file v wing rook) to) normal on

spells_normal : (p : Position) (wing : Wing) (rook to : ℕ) → p.rights.variant ≡ Normal → IsOnFile p.side (king_aim wing) to → IsOnFile p.side (castling_file p.rights.variant wing rook) to
spells_normal p wing rook to normal on = subst (λ (v : Variant). IsOnFile p.side (castling_file v wing rook) to) (sym normal) on

-- the files that a castling passes
either_way : {C : Type 0} (a b file : ℕ) → FromTo a b file → (a ≤ file → file ≤ b → C) → (b ≤ file → file ≤ a → C) → C
either_way a b file way f g = ⊎_elim (λ (h : (a ≤ file) × (file ≤ b)). f h.0 h.1) (λ (h : (b ≤ file) × (file ≤ a)). g h.0 h.1) way

abbrev At : Pieces → Side → ℕ → Type 0
At pieces side file = piece_at pieces (square_at file (first_rank side)) ≡ None

record ShortWay (pieces : Pieces) (side : Side) : Type 0 where
  f : At pieces side 5
  g : At pieces side 6

short_empty : (pieces : Pieces) (side : Side) (file : ℕ) → ShortWay pieces side → 4 ≤ file → file ≤ 7 → file ≢ 4 → file ≢ 7 → At pieces side file
short_empty pieces side file w low high n4 n7 =
    ⊎_elim (λ (e : file ≡ 5). subst (λ (i : ℕ). At pieces side i) (sym e) w.f)
    (λ (n5 : file ≢ 5). let e : file ≡ 6 = omega arith in subst (λ (i : ℕ). At pieces side i) (sym e) w.g)
    (cases_eq file 5)

record LongWay (pieces : Pieces) (side : Side) : Type 0 where
  b : At pieces side 1
  c : At pieces side 2
  d : At pieces side 3

long_empty : (pieces : Pieces) (side : Side) (file : ℕ) → LongWay pieces side → file ≤ 4 → file ≢ 4 → file ≢ 0 → At pieces side file
long_empty pieces side file w high n4 n0 =
    ⊎_elim (λ (e : file ≡ 1). subst (λ (i : ℕ). At pieces side i) (sym e) w.b)
    (λ (n1 : file ≢ 1). ⊎_elim (λ (e : file ≡ 2). subst (λ (i : ℕ). At pieces side i) (sym e) w.c)
    (λ (n2 : file ≢ 2). let e : file ≡ 3 = omega arith in subst (λ (i : ℕ). At pieces side i) (sym e) w.d) (cases_eq file 2))
    (cases_eq file 1)

abbrev Quiet : Position → ℕ → Type 0
Quiet p file = Unattacked p.pieces (other p.side) (square_at file (first_rank p.side))

three_quiet : (p : Position) (a b c file : ℕ) → Quiet p a → Quiet p b → Quiet p c → (file ≢ a → file ≢ b → file ≡ c) → Quiet p file
three_quiet p a b c file qa qb qc last =
    ⊎_elim (λ (e : file ≡ a). subst (Quiet p) (sym e) qa)
    (λ (na : file ≢ a). ⊎_elim (λ (e : file ≡ b). subst (Quiet p) (sym e) qb) (λ (nb : file ≢ b). subst (Quiet p) (sym (last na nb)) qc) (cases_eq file b))
    (cases_eq file a)

short_to : (p : Position) (from to : ℕ) → PositionInvariant p → p.rights.variant ≡ Normal → from < 64 → piece_at p.pieces from ≡ Some (p.side, King) → Castles p HSide from to → CastlesShort p from to
short_to p from to is normal low occupant c =
    let e = from_home p HSide from c.rook is normal low occupant c.right in
    let h = home_is p.side in
    let r = rank_low p.side in
    let rook = (begun p HSide c.rook is normal c.right).rook_file in
    let on = spelled_normal p HSide c.rook to normal c.spelled in
    let o0 = on.0 in let o1 = on.1 in
    let king : file_of from ≡ 4 = omega arith in
    let way = λ (file : ℕ) (l : 4 ≤ file) (u : file ≤ 6). let w : FromTo (file_of from) 6 file = inl (omega arith, u) in w in
    let empty = λ (file : ℕ) (l : 4 ≤ file) (u : file ≤ 6) (n : file ≢ 4). c.empty file (omega arith) (inl (way file l u)) (λ q. n (q ∙ king)) (λ q. absurd (omega arith)) in
    let quiet = λ (file : ℕ) (l : 4 ≤ file) (u : file ≤ 6). c.safe file (omega arith) (way file l u) in
    let s5 : square_at 5 (first_rank p.side) ≡ king_home p.side + 1 = omega arith in
    let s6 : square_at 6 (first_rank p.side) ≡ king_home p.side + 2 = omega arith in
    let none = λ (s t : ℕ) (q : s ≡ t) (n : piece_at p.pieces s ≡ None). subst (λ (i : ℕ). piece_at p.pieces i ≡ None) q n in
    let calm = λ (s t : ℕ) (q : s ≡ t) (n : Unattacked p.pieces (other p.side) s). subst (λ (i : ℕ). Unattacked p.pieces (other p.side) i) q n in (
      (e, omega arith),
      (
        held_some _ c.rook c.right,
        (
          (none _ _ s5 (empty 5 (omega arith) (omega arith) (λ q. absurd (omega arith))), none _ _ s6 (empty 6 (omega arith) (omega arith) (λ q. absurd (omega arith)))),
          ((calm _ _ (sym h) (quiet 4 (omega arith) (omega arith)), calm _ _ s5 (quiet 5 (omega arith) (omega arith))), calm _ _ s6 (quiet 6 (omega arith) (omega arith))),
        ),
      ),
    )

short_from : (p : Position) (from to : ℕ) → PositionInvariant p → p.rights.variant ≡ Normal → CastlesShort p from to → Castles p HSide from to
short_from p from to is normal s =
    let some = held (right_of p.rights p.side HSide) s.1.0 in
    let rook = (begun p HSide some.0 is normal some.1).rook_file in
    let h = home_is p.side in
    let r = rank_low p.side in
    let e = s.0.0 in
    let t = s.0.1 in
    let king : file_of from ≡ 4 = omega arith in
    let s5 : king_home p.side + 1 ≡ square_at 5 (first_rank p.side) = omega arith in
    let s6 : king_home p.side + 2 ≡ square_at 6 (first_rank p.side) = omega arith in
    let none = λ (s t : ℕ) (q : s ≡ t) (n : piece_at p.pieces s ≡ None). subst (λ (i : ℕ). piece_at p.pieces i ≡ None) q n in
    let calm = λ (s t : ℕ) (q : s ≡ t) (n : Unattacked p.pieces (other p.side) s). subst (λ (i : ℕ). Unattacked p.pieces (other p.side) i) q n in
    let way : ShortWay p.pieces p.side = record { f = none _ _ s5 s.1.1.0.0; g = none _ _ s6 s.1.1.0.1 } in
    let quiet = λ (file : ℕ) (l : 4 ≤ file) (u : file ≤ 6). three_quiet p 4 5 6 file (calm _ _ h s.1.1.1.0.0) (calm _ _ s5 s.1.1.1.0.1) (calm _ _ s6 s.1.1.1.1) (λ a b. omega arith) in
    let home : rank_of_square from ≡ first_rank p.side = omega arith in
    let aim : IsOnFile p.side 6 to = (omega arith, omega arith) in
    record {
      rook = some.0;
      right = some.1;
      inside = omega arith;
      beyond = let b : file_of from < some.0 = omega arith in b;
      home = home;
      spelled = spells_normal p HSide some.0 to normal aim;
      empty = λ file low passed nk nr.
          ⊎_elim (λ (w : FromTo (file_of from) 6 file). either_way (file_of from) 6 file w (λ a b. short_empty p.pieces p.side file way (omega arith) (omega arith) (λ q. nk (q ∙ sym king)) (λ q. nr (q ∙ sym rook))) (λ a b. absurd (omega arith)))
          (λ (w : FromTo some.0 5 file). either_way some.0 5 file w (λ a b. absurd (omega arith)) (λ a b. short_empty p.pieces p.side file way (omega arith) (omega arith) (λ q. nk (q ∙ sym king)) (λ q. nr (q ∙ sym rook)))) passed;
      safe = λ file low w. either_way (file_of from) 6 file w (λ a b. quiet file (omega arith) b) (λ a b. absurd (omega arith));
    }

long_to : (p : Position) (from to : ℕ) → PositionInvariant p → p.rights.variant ≡ Normal → from < 64 → piece_at p.pieces from ≡ Some (p.side, King) → Castles p ASide from to → CastlesLong p from to
long_to p from to is normal low occupant c =
    let e = from_home p ASide from c.rook is normal low occupant c.right in
    let h = home_is p.side in
    let r = rank_low p.side in
    let rook = (begun p ASide c.rook is normal c.right).rook_file in
    let on = spelled_normal p ASide c.rook to normal c.spelled in
    let o0 = on.0 in let o1 = on.1 in
    let king : file_of from ≡ 4 = omega arith in
    let way = λ (file : ℕ) (l : 2 ≤ file) (u : file ≤ 4). let w : FromTo (file_of from) 2 file = inr (l, omega arith) in w in
    let empty = λ (file : ℕ) (l : 2 ≤ file) (u : file ≤ 4) (n : file ≢ 4). c.empty file (omega arith) (inl (way file l u)) (λ q. n (q ∙ king)) (λ q. absurd (omega arith)) in
    let past = λ (file : ℕ) (l : 0 < file) (u : file ≤ 3). c.empty file (omega arith) (let w : FromTo (file_of from) 2 file ⊎ FromTo c.rook 3 file = inr (inl (omega arith, u)) in w) (λ q. absurd (omega arith)) (λ q. absurd (omega arith)) in
    let quiet = λ (file : ℕ) (l : 2 ≤ file) (u : file ≤ 4). c.safe file (omega arith) (way file l u) in
    let s3 : square_at 3 (first_rank p.side) ≡ king_home p.side - 1 = omega arith in
    let s2 : square_at 2 (first_rank p.side) ≡ king_home p.side - 2 = omega arith in
    let s1 : square_at 1 (first_rank p.side) ≡ king_home p.side - 3 = omega arith in
    let none = λ (s t : ℕ) (q : s ≡ t) (n : piece_at p.pieces s ≡ None). subst (λ (i : ℕ). piece_at p.pieces i ≡ None) q n in
    let calm = λ (s t : ℕ) (q : s ≡ t) (n : Unattacked p.pieces (other p.side) s). subst (λ (i : ℕ). Unattacked p.pieces (other p.side) i) q n in (
      (e, omega arith),
      (
        held_some _ c.rook c.right,
        (
          ((none _ _ s3 (past 3 (omega arith) (omega arith)), none _ _ s2 (past 2 (omega arith) (omega arith))), none _ _ s1 (past 1 (omega arith) (omega arith))),
          ((calm _ _ (sym h) (quiet 4 (omega arith) (omega arith)), calm _ _ s3 (quiet 3 (omega arith) (omega arith))), calm _ _ s2 (quiet 2 (omega arith) (omega arith))),
        ),
      ),
    )

long_from : (p : Position) (from to : ℕ) → PositionInvariant p → p.rights.variant ≡ Normal → CastlesLong p from to → Castles p ASide from to
long_from p from to is normal s =
    let some = held (right_of p.rights p.side ASide) s.1.0 in
    let rook = (begun p ASide some.0 is normal some.1).rook_file in
    let h = home_is p.side in
    let r = rank_low p.side in
    let e = s.0.0 in
    let t = s.0.1 in
    let king : file_of from ≡ 4 = omega arith in
    let s3 : king_home p.side - 1 ≡ square_at 3 (first_rank p.side) = omega arith in
    let s2 : king_home p.side - 2 ≡ square_at 2 (first_rank p.side) = omega arith in
    let s1 : king_home p.side - 3 ≡ square_at 1 (first_rank p.side) = omega arith in
    let none = λ (s t : ℕ) (q : s ≡ t) (n : piece_at p.pieces s ≡ None). subst (λ (i : ℕ). piece_at p.pieces i ≡ None) q n in
    let calm = λ (s t : ℕ) (q : s ≡ t) (n : Unattacked p.pieces (other p.side) s). subst (λ (i : ℕ). Unattacked p.pieces (other p.side) i) q n in
    let way : LongWay p.pieces p.side = record { b = none _ _ s1 s.1.1.0.1; c = none _ _ s2 s.1.1.0.0.1; d = none _ _ s3 s.1.1.0.0.0 } in
    let quiet = λ (file : ℕ) (l : 2 ≤ file) (u : file ≤ 4). three_quiet p 4 3 2 file (calm _ _ h s.1.1.1.0.0) (calm _ _ s3 s.1.1.1.0.1) (calm _ _ s2 s.1.1.1.1) (λ a b. omega arith) in
    let home : rank_of_square from ≡ first_rank p.side = omega arith in
    let aim : IsOnFile p.side 2 to = (omega arith, omega arith) in
    record {
      rook = some.0;
      right = some.1;
      inside = omega arith;
      beyond = let b : some.0 < file_of from = omega arith in b;
      home = home;
      spelled = spells_normal p ASide some.0 to normal aim;
      empty = λ file low passed nk nr.
          let four = λ (q : file ≡ 4). nk (q ∙ sym king) in
          let zero' = λ (q : file ≡ 0). nr (q ∙ sym rook) in
          ⊎_elim (λ (w : FromTo (file_of from) 2 file). either_way (file_of from) 2 file w (λ a b. absurd (omega arith)) (λ a b. long_empty p.pieces p.side file way (omega arith) four zero'))
          (λ (w : FromTo some.0 3 file). either_way some.0 3 file w (λ a b. long_empty p.pieces p.side file way (omega arith) four zero') (λ a b. absurd (omega arith))) passed;
      safe = λ file low w. either_way (file_of from) 2 file w (λ a b. absurd (omega arith)) (λ a b. quiet file a (omega arith));
    }

pub normal-castling : NormalCastlingLaw
normal-castling p from to is normal low low' occupant = (
  (λ c. short_to p from to is normal low occupant c, λ s. short_from p from to is normal s),
  (λ c. long_to p from to is normal low occupant c, λ s. long_from p from to is normal s),
)
