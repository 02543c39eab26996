-- The rook whose right a letter names, in words.
use Rattle.std.proofs.Common.{◌≡◌, ◌≢◌, ℕ, suc, zero, ◌<◌, ◌⊎◌, inl, inr, ⊎_elim, Bool, true, false, ◌&&◌, ◌||◌, not, cond, eqb, Option, Some, None, refl, ap, subst, sym, ◌∙◌, arith}
use Rattle.std.specs.Bool.{Decides}
use Rattle.std.specs.Option.{option_and_then}
use Rattle.std.proofs.lemmas.Bool.{cases_eq, false≢true, and_parts}
use Rattle.std.proofs.lemmas.Bool.Decides.{Decides-and, Decides-or, Decides-eqb}
use Rattle.chess_board.specs.declared.board.Side.{Side}
use Rattle.chess_board.specs.declared.board.Side.TheVariants.{White, Black}
use Rattle.chess_board.specs.declared.board.Kind.TheVariants.{Rook}
use Rattle.chess_board.specs.declared.board.Wing.{Wing}
use Rattle.chess_board.specs.declared.board.Wing.TheVariants.{HSide, ASide}
use Rattle.chess_board.specs.Board.{Occupant, Pieces, is_rook, each_below}
use Rattle.chess_board.specs.Laws.{Beyond}
use Rattle.chess_board.specs.Rules.{is_beyond}
use Rattle.chess_board.proofs.Below.{each_below-at, each_below-all}
use Rattle.chess_board.proofs.Bools.{same_side-refl}
use Rattle.chess_board.proofs.Keeps.{rook-is}
use Rattle.chess_board.proofs.Legal.{BeyondAt, KingAt}
use Rattle.fen_text.specs.RookFiles.{on_first_rank, has_king, has_rook, last_below, is_no_other_king, is_only_king, king_file, file_letter, wing_letter, is_no_rook_beyond, is_outermost, names_rook, rook_beyond, named_rook}
use Rattle.fen_text.specs.CastlingField.{IsOnlyKing, IsOutermost, Names}

last_below-found : (n k : ℕ) (test : ℕ → Bool) → last_below n test ≡ Some k → (k < n) × (test k ≡ true)
last_below-found zero k test e = absurd (cc)
last_below-found (suc n) k test e =
    elim (test n) as (λ v. test n ≡ v → cond v (Some n) (last_below n test) ≡ Some k → (k < suc n) × (test k ≡ true)) [
      | true ↦ λ t s. let same : n ≡ k = cc in (omega arith, subst (λ (i : ℕ). test i ≡ true) same t)
      | false ↦ λ _ s. let found = last_below-found n k test s in (omega arith, found.1)
    ] refl e

last_below-only : (n k : ℕ) (test : ℕ → Bool) → k < n → test k ≡ true → ((j : ℕ) → j < n → test j ≡ true → j ≡ k) → last_below n test ≡ Some k
last_below-only zero k test h t only = absurd (omega arith)
last_below-only (suc n) k test h t only =
    elim (test n) as (λ v. test n ≡ v → cond v (Some n) (last_below n test) ≡ Some k) [
      | true ↦ λ e. ap Some (only n (omega arith) e)
      | false ↦ λ e. ⊎_elim (λ (q : k ≡ n). let at : test n ≡ true = subst (λ (i : ℕ). test i ≡ true) q t in absurd (false≢true (sym e ∙ at)))
          (λ (q : k ≢ n). let less : k < n = omega arith in last_below-only n k test less t (λ j l. only j (omega arith)))
          (cases_eq k n)
    ] refl

RookAt : (side : Side) (occupant : Occupant) → Decides (is_rook side occupant) (occupant ≡ Some (side, Rook))
RookAt side occupant = (
  rook-is side occupant,
  λ e. let own = same_side-refl side in let is : is_rook side (Some (side, Rook)) ≡ true = rw own refl in subst (λ (m : Occupant). is_rook side m ≡ true) (sym e) is,
)

or_not : (a b : Bool) → (a || not b) ≡ true → b ≡ true → a ≡ true
or_not true b e t = refl
or_not false true e t = absurd (cc)
or_not false false e t = absurd (cc)

if_other : (a b : Bool) → (b ≡ true → a ≡ true) → (a || not b) ≡ true
if_other true b h = refl
if_other false true h = absurd (false≢true (h refl))
if_other false false h = refl

not_both : (a b : Bool) → not (a && b) ≡ true → a ≡ true → b ≡ true → ⊥
not_both true true e s t = absurd (cc)
not_both true false e s t = absurd (cc)
not_both false b e s t = absurd (cc)

if_not_both : (a b : Bool) → (a ≡ true → b ≡ true → ⊥) → not (a && b) ≡ true
if_not_both true true h = absurd (h refl refl)
if_not_both true false h = refl
if_not_both false b h = refl

OnlyKingAt : (pieces : Pieces) (side : Side) (king : ℕ) → king < 8 → Decides (is_only_king pieces side king) (IsOnlyKing pieces side king)
unfolding is_only_king
OnlyKingAt pieces side king inside = (
  λ e.
      let parts = and_parts (has_king pieces side king) (each_below 8 (is_no_other_king pieces side king)) e in
      record {
        inside = inside;
        there = (KingAt side (on_first_rank pieces side king)).0 parts.0;
        alone = λ file low there. (Decides-eqb file king).0 (or_not (eqb file king) (has_king pieces side file) (each_below-at 8 file (is_no_other_king pieces side king) parts.1 low) ((KingAt side (on_first_rank pieces side file)).1 there));
      },
  λ only.
      let there : has_king pieces side king ≡ true = (KingAt side (on_first_rank pieces side king)).1 only.there in
      let alone : each_below 8 (is_no_other_king pieces side king) ≡ true = each_below-all 8 (is_no_other_king pieces side king) (λ file low. if_other (eqb file king) (has_king pieces side file) (λ k. (Decides-eqb file king).1 (only.alone file low ((KingAt side (on_first_rank pieces side file)).0 k)))) in
      rw (there, alone) refl,
)

king_file-is : (pieces : Pieces) (side : Side) (king : ℕ) → king_file pieces side ≡ Some king → IsOnlyKing pieces side king
unfolding king_file
king_file-is pieces side king e =
    let found = last_below-found 8 king (is_only_king pieces side) e in
    (OnlyKingAt pieces side king found.0).0 found.1

king_file-of : (pieces : Pieces) (side : Side) (king : ℕ) → IsOnlyKing pieces side king → king_file pieces side ≡ Some king
unfolding king_file
king_file-of pieces side king only =
    last_below-only 8 king (is_only_king pieces side) only.inside ((OnlyKingAt pieces side king only.inside).1 only)
    (λ j low t. let other = (OnlyKingAt pieces side j low).0 t in only.alone j low other.there)

OutermostAt : (pieces : Pieces) (side : Side) (wing : Wing) (rook : ℕ) → Decides (is_outermost pieces side wing rook) (IsOutermost pieces side wing rook)
unfolding is_outermost
OutermostAt pieces side wing rook = (
  λ e file low there beyond. not_both (is_beyond wing rook file) (has_rook pieces side file) (each_below-at 8 file (is_no_rook_beyond pieces side wing rook) e low) ((BeyondAt wing rook file).1 beyond) ((RookAt side (on_first_rank pieces side file)).1 there),
  λ h. each_below-all 8 (is_no_rook_beyond pieces side wing rook) (λ file low. if_not_both (is_beyond wing rook file) (has_rook pieces side file) (λ b r. h file low ((RookAt side (on_first_rank pieces side file)).0 r) ((BeyondAt wing rook file).0 b))),
)

abbrev IsSpelled : Pieces → Side → Wing → ℕ → ℕ → Type 0
IsSpelled pieces side wing letter rook = (letter ≡ file_letter side rook) ⊎ ((letter ≡ wing_letter side wing) × IsOutermost pieces side wing rook)

RookNamedAt : (pieces : Pieces) (side : Side) (wing : Wing) (letter king rook : ℕ)
    → Decides (names_rook pieces side wing letter king rook) (((on_first_rank pieces side rook ≡ Some (side, Rook)) × Beyond wing king rook) × IsSpelled pieces side wing letter rook)
unfolding names_rook
RookNamedAt pieces side wing letter king rook =
    Decides-and _ _ (Decides-and _ _ (RookAt side (on_first_rank pieces side rook)) (BeyondAt wing king rook))
    (Decides-or _ _ (Decides-eqb letter (file_letter side rook)) (Decides-and _ _ (Decides-eqb letter (wing_letter side wing)) (OutermostAt pieces side wing rook)))

pub letters_apart : (side other : Side) (wing : Wing) (rook : ℕ) → rook < 8 → file_letter side rook ≢ wing_letter other wing
letters_apart White White HSide rook h e = omega arith
letters_apart White White ASide rook h e = omega arith
letters_apart White Black HSide rook h e = omega arith
letters_apart White Black ASide rook h e = omega arith
letters_apart Black White HSide rook h e = omega arith
letters_apart Black White ASide rook h e = omega arith
letters_apart Black Black HSide rook h e = omega arith
letters_apart Black Black ASide rook h e = omega arith

-- a file's letter is that of one side and file
pub same_letter : (side other : Side) (a b : ℕ) → a < 8 → b < 8 → file_letter side a ≡ file_letter other b → (side ≡ other) × (a ≡ b)
same_letter White White a b h k e = (refl, omega arith)
same_letter White Black a b h k e = absurd (omega arith)
same_letter Black White a b h k e = absurd (omega arith)
same_letter Black Black a b h k e = (refl, omega arith)

one_outermost : (wing : Wing) (a b : ℕ) → (Beyond wing a b → ⊥) → (Beyond wing b a → ⊥) → a ≡ b
one_outermost HSide a b h k = omega arith
one_outermost ASide a b h k = omega arith

-- a letter names one rook of a wing
one_named : (pieces : Pieces) (side : Side) (wing : Wing) (letter a b : ℕ) → a < 8 → b < 8 → on_first_rank pieces side a ≡ Some (side, Rook) → on_first_rank pieces side b ≡ Some (side, Rook)
    → IsSpelled pieces side wing letter a → IsSpelled pieces side wing letter b → a ≡ b
one_named pieces side wing letter a b h k p q (inl x) (inl y) = (same_letter side side a b h k (sym x ∙ y)).1
one_named pieces side wing letter a b h k p q (inl x) (inr y) = absurd (letters_apart side side wing a h (sym x ∙ y.0))
one_named pieces side wing letter a b h k p q (inr x) (inl y) = absurd (letters_apart side side wing b k (sym y ∙ x.0))
one_named pieces side wing letter a b h k p q (inr x) (inr y) = one_outermost wing a b (x.1 b k q) (y.1 a h p)

pub named-is : (pieces : Pieces) (side : Side) (wing : Wing) (letter rook : ℕ) → named_rook pieces side wing letter ≡ Some rook → Names pieces side wing letter rook
unfolding rook_beyond
named-is pieces side wing letter rook e = go (king_file pieces side) refl e
  where
    go : (o : Option ℕ) → king_file pieces side ≡ o → option_and_then (rook_beyond pieces side wing letter) o ≡ Some rook → Names pieces side wing letter rook
    go None k f = absurd (cc)
    go (Some king) k f =
        let found = last_below-found 8 rook (names_rook pieces side wing letter king) f in
        let is = (RookNamedAt pieces side wing letter king rook).0 found.1 in
        record { king = king; only = king_file-is pieces side king k; inside = found.0; there = is.0.0; beyond = is.0.1; spelled = is.1 }

rook_beyond-of : (pieces : Pieces) (side : Side) (wing : Wing) (letter rook : ℕ) (n : Names pieces side wing letter rook) → rook_beyond pieces side wing letter n.king ≡ Some rook
unfolding rook_beyond
rook_beyond-of pieces side wing letter rook n =
    last_below-only 8 rook (names_rook pieces side wing letter n.king) n.inside ((RookNamedAt pieces side wing letter n.king rook).1 ((n.there, n.beyond), n.spelled))
    (λ j low t. let other = (RookNamedAt pieces side wing letter n.king j).0 t in one_named pieces side wing letter j rook low n.inside other.0.0 n.there other.1 n.spelled)

pub named-of : (pieces : Pieces) (side : Side) (wing : Wing) (letter rook : ℕ) → Names pieces side wing letter rook → named_rook pieces side wing letter ≡ Some rook
named-of pieces side wing letter rook n = rw (king_file-of pieces side n.king n.only) (rook_beyond-of pieces side wing letter rook n)

pub named-none : (pieces : Pieces) (side : Side) (wing : Wing) (letter : ℕ) → ((rook : ℕ) → Names pieces side wing letter rook → ⊥) → named_rook pieces side wing letter ≡ None
named-none pieces side wing letter none = go (named_rook pieces side wing letter) refl
  where
    go : (o : Option ℕ) → named_rook pieces side wing letter ≡ o → o ≡ None
    go None e = refl
    go (Some rook) e = absurd (none rook (named-is pieces side wing letter rook e))
