-- A text spells a move exactly where the function gives it.
use Rattle.std.proofs.Common.{◌≡◌, ℕ, ◌+◌, ◌-◌, ◌*◌, ◌≤◌, Bool, true, false, ◌&&◌, ltb, leb, cond, List, [], ◌∷◌, Option, Some, None, refl, sym, ap, ◌∙◌, subst, arith}
use Rattle.std.specs.Prelude.{IsSome, IfSome, IfNone}
use Rattle.std.proofs.lemmas.Bool.Decides.{nat_tests}
use Rattle.chess_board.specs.declared.board.Square.{Square}
use Rattle.chess_board.specs.declared.board.Kind.{Kind}
use Rattle.chess_board.specs.declared.board.Kind.TheVariants.{Knight, Bishop, Rook, Queen}
use Rattle.chess_board.specs.declared.board.Move.{Move}
use Rattle.chess_board.specs.Text.{SpellsMove, SquareSpells, promotion_of, IsOfficer}
use Rattle.chess_board.proofs.Places.{square_same}
use Rattle.chess_board.specs.Spelling.{square_if, square_named, move_from, move_with_promotion, move_spelled_by}

if_there : (n : ℕ) (s : Square) (b : Bool) (e : ltb n 64 ≡ b) → n ≡ s.index → square_if n b e ≡ Some s
if_there n s true e h = ap Some (square_same _ s h)
if_there n s false e h = absurd (grind (arith, nat_tests, s.on_board))

named_there : (f r : ℕ) (s : Square) → SquareSpells f r s.index → square_named f r ≡ Some s
named_there f r s h =
    let low = s.on_board in
    let file = h.0 in
    let rank = h.1 in
    let a : leb 97 f ≡ true = grind (arith, nat_tests) in
    let b : leb f 104 ≡ true = grind (arith, nat_tests) in
    let c : leb 49 r ≡ true = grind (arith, nat_tests) in
    let d : leb r 56 ≡ true = grind (arith, nat_tests) in
    rw (a, b, c, d) (if_there ((r - 49) * 8 + (f - 97)) s (ltb ((r - 49) * 8 + (f - 97)) 64) refl (omega arith))

abbrev index_of : Option Square → ℕ → ℕ
index_of None n = n
index_of (Some s) n = s.index

if_some : (n : ℕ) (s : Square) (b : Bool) (e : ltb n 64 ≡ b) → square_if n b e ≡ Some s → n ≡ s.index
if_some n s true e h = ap (λ (o : Option Square). index_of o n) h
if_some n s false e h = absurd (cc)

within : (f r : ℕ) → (leb 97 f && leb f 104 && leb 49 r && leb r 56) ≡ true → (97 ≤ f) × (f ≤ 104) × (49 ≤ r) × (r ≤ 56)
within f r h = (grind (arith, nat_tests), grind (arith, nat_tests), grind (arith, nat_tests), grind (arith, nat_tests))

named_by : (f r : ℕ) (s : Square) (b : Bool) → (b ≡ true → (97 ≤ f) × (f ≤ 104) × (49 ≤ r) × (r ≤ 56)) → cond b (square_if ((r - 49) * 8 + (f - 97)) (ltb ((r - 49) * 8 + (f - 97)) 64) refl) None ≡ Some s → SquareSpells f r s.index
named_by f r s true bounds h =
    let e : (r - 49) * 8 + (f - 97) ≡ s.index = if_some ((r - 49) * 8 + (f - 97)) s (ltb ((r - 49) * 8 + (f - 97)) 64) refl h in
    let w = bounds refl in
    let w0 = w.0 in
    let w1 = w.1 in
    let w2 = w.2 in
    let w3 = w.3 in
    (omega arith, omega arith)
named_by f r s false bounds h = absurd (cc)

named_spells : (f r : ℕ) (s : Square) → square_named f r ≡ Some s → SquareSpells f r s.index
named_spells f r s h = named_by f r s (leb 97 f && leb f 104 && leb 49 r && leb r 56) (within f r) h

abbrev source_of : Option Move → Square → Square
source_of None s = s
source_of (Some m) s = m.from

abbrev target_of : Option Move → Square → Square
target_of None s = s
target_of (Some m) s = m.to

abbrev promotion_in : Option Move → Option Kind → Option Kind
promotion_in None p = p
promotion_in (Some m) p = m.promotion

-- a move from two squares and a promotion
from_parts : (a b : Option Square) (p : Option Kind) (m : Move) → move_from a b p ≡ Some m → (a ≡ Some m.from) × (b ≡ Some m.to) × (p ≡ m.promotion)
from_parts (Some a) (Some b) p m h = (ap (λ (o : Option Move). Some (source_of o a)) h, ap (λ (o : Option Move). Some (target_of o b)) h, ap (λ (o : Option Move). promotion_in o p) h)
from_parts None b p m h = absurd (cc)
from_parts (Some a) None p m h = absurd (cc)

to_parts : (a b : Option Square) (p : Option Kind) (m : Move) → a ≡ Some m.from → b ≡ Some m.to → p ≡ m.promotion → move_from a b p ≡ Some m
to_parts a b p m e f g = rw (e, f, g) refl

promoted_parts : (a b : Option Square) (p : Option Kind) (m : Move) → move_with_promotion a b p ≡ Some m → (a ≡ Some m.from) × (b ≡ Some m.to) × (p ≡ m.promotion) × IsSome p
promoted_parts a b None m h = absurd (cc)
promoted_parts a b (Some k) m h = let parts = from_parts a b (Some k) m h in (parts.0, parts.1, parts.2, refl)

promoted_from : (a b : Option Square) (p : Option Kind) → IsSome p → move_with_promotion a b p ≡ move_from a b p
promoted_from a b None h = absurd (cc)
promoted_from a b (Some k) h = refl

pub move_spells : (text : List ℕ) (m : Move) → move_spelled_by text ≡ Some m → SpellsMove text m
unfolding move_spelled_by
move_spells [] m h = absurd (cc)
move_spells (f ∷ []) m h = absurd (cc)
move_spells (f ∷ r ∷ []) m h = absurd (cc)
move_spells (f ∷ r ∷ g ∷ []) m h = absurd (cc)
move_spells (f ∷ r ∷ g ∷ s ∷ []) m h =
    let parts = from_parts (square_named f r) (square_named g s) None m h in
    (named_spells f r m.from parts.0, named_spells g s m.to parts.1, sym parts.2)
move_spells (f ∷ r ∷ g ∷ s ∷ letter ∷ []) m h =
    let parts = promoted_parts (square_named f r) (square_named g s) (promotion_of letter) m h in
    (named_spells f r m.from parts.0, named_spells g s m.to parts.1, sym parts.2, parts.3)
move_spells (f ∷ r ∷ g ∷ s ∷ letter ∷ more ∷ others) m h = absurd (cc)

pub spells_move : (text : List ℕ) (m : Move) → SpellsMove text m → move_spelled_by text ≡ Some m
unfolding move_spelled_by
spells_move [] m h = absurd h
spells_move (f ∷ []) m h = absurd h
spells_move (f ∷ r ∷ []) m h = absurd h
spells_move (f ∷ r ∷ g ∷ []) m h = absurd h
spells_move (f ∷ r ∷ g ∷ s ∷ []) m h = to_parts (square_named f r) (square_named g s) None m (named_there f r m.from h.0) (named_there g s m.to h.1) (sym h.2)
spells_move (f ∷ r ∷ g ∷ s ∷ letter ∷ []) m h =
    promoted_from (square_named f r) (square_named g s) (promotion_of letter) h.3
    ∙ to_parts (square_named f r) (square_named g s) (promotion_of letter) m (named_there f r m.from h.0) (named_there g s m.to h.1) (sym h.2)
spells_move (f ∷ r ∷ g ∷ s ∷ letter ∷ more ∷ others) m h = absurd h

no_move : (text : List ℕ) (o : Option Move) → move_spelled_by text ≡ o → ((m : Move) → SpellsMove text m → ⊥) → None ≡ o
no_move text None e h = refl
no_move text (Some m) e h = absurd (h m (move_spells text m e))

-- a call that answers the move that a text spells answers the function's
pub read_is : (text : List ℕ) (o : Option Move) → IfSome o (SpellsMove text) → IfNone o ((m : Move) → SpellsMove text m → ⊥) → o ≡ move_spelled_by text
read_is text (Some m) h none = sym (spells_move text m h)
read_is text None h none = no_move text (move_spelled_by text) refl none

-- a text names no pawn and no king
chosen : (a b c d : Bool) → IsOfficer (cond a (Some Queen) (cond b (Some Rook) (cond c (Some Bishop) (cond d (Some Knight) None))))
chosen true b c d = tt
chosen false true c d = tt
chosen false false true d = tt
chosen false false false true = tt
chosen false false false false = tt

officer : (letter : ℕ) → IsOfficer (promotion_of letter)
officer letter = chosen _ _ _ _

pub spelled_officer : (text : List ℕ) (m : Move) → SpellsMove text m → IsOfficer m.promotion
spelled_officer [] m h = absurd h
spelled_officer (f ∷ []) m h = absurd h
spelled_officer (f ∷ r ∷ []) m h = absurd h
spelled_officer (f ∷ r ∷ g ∷ []) m h = absurd h
spelled_officer (f ∷ r ∷ g ∷ s ∷ []) m h = subst IsOfficer (sym h.2) tt
spelled_officer (f ∷ r ∷ g ∷ s ∷ letter ∷ []) m h = subst IsOfficer (sym h.2) (officer letter)
spelled_officer (f ∷ r ∷ g ∷ s ∷ letter ∷ more ∷ others) m h = absurd h

pub read_officer : (text : List ℕ) (m : Move) → move_spelled_by text ≡ Some m → IsOfficer m.promotion
read_officer text m h = spelled_officer text m (move_spells text m h)

pub some_officer : (text : List ℕ) (o : Option Move) → IfSome o (SpellsMove text) → IfSome o (λ m. IsOfficer m.promotion)
some_officer text None h = tt
some_officer text (Some m) h = spelled_officer text m h
