-- No position from before the last pawn's move or capture comes again.
use Rattle.std.proofs.Common.{◌≡◌, ℕ, suc, ◌+◌, ◌-◌, ◌<◌, ◌≤◌, ◌⊎◌, List, [], ◌∷◌, ◌++◌, length, take, drop, min, inl, inr, ⊎_elim, refl, sym, ap, subst, ◌∙◌, arith, length-append, false}
use Rattle.std.proofs.lemmas.Bool.{cases_lt, false_from_ne_true}
use Rattle.std.proofs.lemmas.List.{map-append, length-map, take-append-le, take-append-drop}
use Rattle.chess_board.specs.declared.board.Move.{Move}
use Rattle.chess_board.specs.Board.{piece_at}
use Rattle.chess_board.specs.Position.{Position}
use Rattle.chess_board.specs.Play.{IsPosition, kind_on, top_count}
use Rattle.chess_board.proofs.Legal.{legal-law}
use Rattle.chess_board.proofs.Plays.{position_kept, passed_low}
use Rattle.chess_board.proofs.Worth.{total, Wears, wears}
use Rattle.game_record.specs.Game.{Ply, ply_of, plies_of, IsPlayablePly, position_after_ply, now_after, later, AreLegal}
use Rattle.game_record.specs.Ending.{is_same, stood_in}
use Rattle.game_record.specs.Keeps.{left_behind}
use Rattle.game_record.proofs.Replays.{later-append, now_after-append, legal-append, length-later}
use Rattle.game_record.proofs.Times.{stood_in-append, stood_in-cons}
use Rattle.game_record.proofs.Sames.{same-law}

still_position : (p : Position) (m : Move) → IsPosition p → IsPlayablePly p (ply_of m) → IsPosition (position_after_ply p (ply_of m))
still_position p m is legal =
    position_kept p m.from.index m.to.index m.promotion is m.from.on_board m.to.on_board
    (passed_low p.side (kind_on (piece_at p.pieces m.from.index)) m.from.index m.to.index m.from.on_board m.to.on_board) ((legal-law p m.from.index m.to.index m.promotion).1 legal)

-- after some moves the pieces are worth less, or each move was counted
abbrev Fades : Position → ℕ → Position → Type 0
Fades p plies q = (total q.pieces < total p.pieces) ⊎ ((total q.pieces ≤ total p.pieces) × (min (p.half + plies) top_count ≤ q.half))

fades_more : (p r q : Position) (plies : ℕ) → Wears p r → Fades r plies q → Fades p (suc plies) q
fades_more p r q plies (inl less) (inl fewer) = inl (omega arith)
fades_more p r q plies (inl less) (inr counted) = let most = counted.0 in inl (omega arith)
fades_more p r q plies (inr kept) (inl fewer) = let most = kept.0 in inl (omega arith)
fades_more p r q plies (inr kept) (inr counted) =
    let a = kept.0 in
    let b = kept.1 in
    let c = counted.0 in
    let d = counted.1 in
    inr (omega arith, omega arith)

fades : (p : Position) (moves : List Move) → IsPosition p → AreLegal p (plies_of moves) → Fades p (length moves) (now_after p (plies_of moves))
fades p [] is legal = inr (omega arith, omega arith)
fades p (m ∷ moves) is legal =
    let wear = wears p m.from.index m.to.index m.promotion is m.from.on_board m.to.on_board legal.0 in
    fades_more p (position_after_ply p (ply_of m)) (now_after (position_after_ply p (ply_of m)) (plies_of moves)) (length moves) wear (fades (position_after_ply p (ply_of m)) moves (still_position p m is legal.0) legal.1)

-- a position that is worth less is another one
other_worth : (q p : Position) → total q.pieces < total p.pieces → is_same q p ≡ false
other_worth q p less = false_from_ne_true (is_same q p) (λ e. let pieces = ap total ((same-law q p).0 e).pieces in absurd (omega arith))

other_first : (p q : Position) (plies : ℕ) → Fades p plies q → q.half < plies → plies ≤ top_count → is_same q p ≡ false
other_first p q plies (inl less) h few = other_worth q p less
other_first p q plies (inr counted) h few = let c = counted.1 in absurd (omega arith)

none_behind : (p : Position) (moves : List Move) (q : Position) → IsPosition p → AreLegal p (plies_of moves) → length moves ≤ top_count → q ≡ now_after p (plies_of moves) →
    stood_in q (take (length moves - q.half) (p ∷ later p (plies_of moves))) ≡ 0
none_behind p [] q is legal few now = let z : 0 - q.half ≡ 0 = omega arith in rw z refl
none_behind p (m ∷ moves) q is legal few now =
    let r = position_after_ply p (ply_of m) in
    let rest = later p (plies_of (m ∷ moves)) in
    ⊎_elim (λ (h : q.half < length (m ∷ moves)).
    let k : length (m ∷ moves) - q.half ≡ suc (length moves - q.half) = omega arith in
    let faded : Fades p (length (m ∷ moves)) q = subst (Fades p (length (m ∷ moves))) (sym now) (fades p (m ∷ moves) is legal) in
    let first = other_first p q (length (m ∷ moves)) faded h few in
    let others = none_behind r moves q (still_position p m is legal.0) legal.1 (omega arith) now in
    ap (λ (n : ℕ). stood_in q (take n (p ∷ rest))) k ∙ stood_in-cons q p (take (length moves - q.half) rest) ∙ rw (first, others) refl)
    (λ (h : length (m ∷ moves) ≤ q.half).
    let z : length (m ∷ moves) - q.half ≡ 0 = omega arith in
    rw z refl)
    (cases_lt q.half (length (m ∷ moves)))

-- the position after a move stood nowhere before the last pawn's move or capture
pub new_behind : (p : Position) (moves : List Move) (m : Move) (q : Position) → IsPosition p → AreLegal p (plies_of moves) → length moves < top_count → IsPlayablePly (now_after p (plies_of moves)) (ply_of m) →
    q ≡ position_after_ply (now_after p (plies_of moves)) (ply_of m) → stood_in q (left_behind q (p ∷ later p (plies_of moves))) ≡ 0
new_behind p moves m q is legal few playable now =
    let longer : plies_of (moves ++ m ∷ []) ≡ plies_of moves ++ ply_of m ∷ [] = map-append ply_of moves (m ∷ []) in
    let legal' : AreLegal p (plies_of (moves ++ m ∷ [])) = subst (AreLegal p) (sym longer) (legal-append p (plies_of moves) (ply_of m) legal playable) in
    let now' : q ≡ now_after p (plies_of (moves ++ m ∷ [])) = now ∙ sym (now_after-append p (plies_of moves) (ply_of m)) ∙ ap (now_after p) (sym longer) in
    let count : length (moves ++ m ∷ []) ≡ length moves + 1 = length-append moves (m ∷ []) in
    let all : length (later p (plies_of moves)) ≡ length moves = length-later p (plies_of moves) ∙ length-map moves ply_of in
    let none = none_behind p (moves ++ m ∷ []) q is legal' (omega arith) now' in
    let positions : p ∷ later p (plies_of (moves ++ m ∷ [])) ≡ (p ∷ later p (plies_of moves)) ++ position_after_ply (now_after p (plies_of moves)) (ply_of m) ∷ [] =
    ap (λ (ms : List Ply). p ∷ later p ms) longer ∙ ap (λ (xs : List Position). p ∷ xs) (later-append p (plies_of moves) (ply_of m)) in
    let places : length (moves ++ m ∷ []) - q.half ≡ length (p ∷ later p (plies_of moves)) - q.half = omega arith in
    let part : take (length (p ∷ later p (plies_of moves)) - q.half) (p ∷ later p (plies_of (moves ++ m ∷ []))) ≡ left_behind q (p ∷ later p (plies_of moves)) =
    ap (take (length (p ∷ later p (plies_of moves)) - q.half)) positions
    ∙ take-append-le (length (p ∷ later p (plies_of moves)) - q.half) (p ∷ later p (plies_of moves)) (position_after_ply (now_after p (plies_of moves)) (ply_of m) ∷ []) (omega arith) in
    ap (stood_in q) (sym (ap (λ (n : ℕ). take n (p ∷ later p (plies_of (moves ++ m ∷ [])))) places ∙ part)) ∙ none

-- a position that is neither among those that were left nor among the others is nowhere
pub stood_nowhere : (p start : Position) (positions : List Position) (oldest : ℕ) → oldest ≡ length positions - p.half → 0 < oldest → stood_in p (left_behind p (start ∷ positions)) ≡ 0 → stood_in p (drop oldest positions) ≡ 0 →
    stood_in p (start ∷ positions) ≡ 0
stood_nowhere p start positions oldest e some behind none =
    let k : length (start ∷ positions) - p.half ≡ suc oldest = omega arith in
    let prefix : stood_in p (start ∷ take oldest positions) ≡ 0 = ap (λ (n : ℕ). stood_in p (take n (start ∷ positions))) (sym k) ∙ behind in
    let parts = stood_in-append p (start ∷ take oldest positions) (drop oldest positions) in
    ap (λ (xs : List Position). stood_in p (start ∷ xs)) (sym (take-append-drop oldest positions)) ∙ parts ∙ rw (prefix, none) refl
