-- The positions of a game: one move more, or the first moves alone.
use Rattle.std.proofs.Common.{◌≡◌, ℕ, zero, suc, ◌-◌, ◌<◌, List, [], ◌∷◌, ◌++◌, length, take, Some, None, refl, sym, ap, ◌∙◌, arith}
use Rattle.std.proofs.lemmas.Option.{slice_get_within, slice_get-get_or}
use Rattle.std.specs.List.{slice_get}
use Rattle.chess_board.specs.Position.{Position}
use Rattle.game_record.specs.Game.{Ply, IsPlayablePly, position_after_ply, now_after, later, AreLegal}

pub later-append : (p : Position) (moves : List Ply) (m : Ply) → later p (moves ++ m ∷ []) ≡ later p moves ++ position_after_ply (now_after p moves) m ∷ []
later-append p [] m = refl
later-append p (n ∷ moves) m = ap (λ (xs : List Position). position_after_ply p n ∷ xs) (later-append (position_after_ply p n) moves m)

pub now_after-append : (p : Position) (moves : List Ply) (m : Ply) → now_after p (moves ++ m ∷ []) ≡ position_after_ply (now_after p moves) m
now_after-append p [] m = refl
now_after-append p (n ∷ moves) m = now_after-append (position_after_ply p n) moves m

pub legal-append : (p : Position) (moves : List Ply) (m : Ply) → AreLegal p moves → IsPlayablePly (now_after p moves) m → AreLegal p (moves ++ m ∷ [])
legal-append p [] m h l = (l, tt)
legal-append p (n ∷ moves) m h l = (h.0, legal-append (position_after_ply p n) moves m h.1 l)

pub length-later : (p : Position) (moves : List Ply) → length (later p moves) ≡ length moves
length-later p [] = refl
length-later p (m ∷ moves) = ap suc (length-later (position_after_ply p m) moves)

pub take-later : (k : ℕ) (p : Position) (moves : List Ply) → take k (later p moves) ≡ later p (take k moves)
take-later zero p moves = refl
take-later (suc k) p [] = refl
take-later (suc k) p (m ∷ moves) = ap (λ (xs : List Position). position_after_ply p m ∷ xs) (take-later k (position_after_ply p m) moves)

pub legal-take : (k : ℕ) (p : Position) (moves : List Ply) → AreLegal p moves → AreLegal p (take k moves)
legal-take zero p moves h = tt
legal-take (suc k) p [] h = tt
legal-take (suc k) p (m ∷ moves) h = (h.0, legal-take k (position_after_ply p m) moves h.1)

-- the last position is the present one
pub last_is : (p : Position) (moves : List Ply) → slice_get (p ∷ later p moves) (length moves) ≡ Some (now_after p moves)
last_is p [] = refl
last_is p (m ∷ moves) = last_is (position_after_ply p m) moves

pub last_some : (p : Position) (moves : List Ply) (q : Position) → slice_get (later p moves) (length (later p moves) - 1) ≡ Some q → q ≡ now_after p moves
last_some p moves q e =
    let within : length (later p moves) - 1 < length (later p moves) = slice_get_within (later p moves) (length (later p moves) - 1) q e in
    let same = length-later p moves in
    let n : suc (length (later p moves) - 1) ≡ length moves = omega arith in
    let at : slice_get (p ∷ later p moves) (length moves) ≡ Some q = ap (slice_get (p ∷ later p moves)) (sym n) ∙ e in
    let now = last_is p moves in
    cc

pub last_none : (p : Position) (moves : List Ply) → slice_get (later p moves) (length (later p moves) - 1) ≡ None → p ≡ now_after p moves
last_none p [] e = refl
last_none p (m ∷ moves) e =
    let there = slice_get-get_or (later p (m ∷ moves)) (length (later p (m ∷ moves)) - 1) p (omega arith) in
    cc
