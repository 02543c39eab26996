-- The number of times that each position stood.
use Rattle.std.proofs.Common.{◌≡◌, ℕ, zero, suc, ◌+◌, ◌-◌, ◌<◌, ◌≤◌, List, [], ◌∷◌, ◌++◌, Bool, true, false, ◌&&◌, cond, length, take, drop, get_or, Option, Some, None, refl, sym, ap, subst, ◌∙◌, arith, append_assoc}
use Rattle.std.proofs.Math.Seq.{take-length}
use Rattle.std.proofs.lemmas.List.{take-append-drop, drop_more}
use Rattle.std.proofs.lemmas.List.Sums.{sum_by-append, sum_by-cons, count_by-le-length}
use Rattle.std.proofs.lemmas.Option.{slice_get_within, slice_get-get_or}
use Rattle.std.specs.List.{slice_get, count_by}
use Rattle.std.specs.Option.{unwrap_or}
use Rattle.chess_board.specs.Board.{Pieces, same_side}
use Rattle.chess_board.specs.declared.board.Side.{Side}
use Rattle.chess_board.specs.declared.board.Rights.{Rights}
use Rattle.chess_board.specs.Position.{Position}
use Rattle.game_record.specs.Game.{Ply, position_after_ply, now_after, later}
use Rattle.game_record.specs.Ending.{is_same, same_pieces, same_rights, same_square, stood_in}
use Rattle.game_record.specs.Keeps.{repetitions_of, AreTimes}
use Rattle.game_record.proofs.Replays.{length-later, last_is}
use Rattle.game_record.proofs.Sames.{same-law, is_same-refl}

pub stood_in-append : (p : Position) (xs ys : List Position) → stood_in p (xs ++ ys) ≡ stood_in p xs + stood_in p ys
stood_in-append p xs ys = sum_by-append (λ (q : Position). cond (is_same p q) 1 0) xs ys

pub stood_in-cons : (p q : Position) (xs : List Position) → stood_in p (q ∷ xs) ≡ cond (is_same p q) 1 0 + stood_in p xs
stood_in-cons p q xs = sum_by-cons (λ (r : Position). cond (is_same p r) 1 0) q xs

-- a position occurs once itself
pub stood_once : (p : Position) (xs : List Position) → stood_in p (xs ++ p ∷ []) ≡ stood_in p xs + 1
stood_once p xs =
    let own : stood_in p (p ∷ []) ≡ 1 = rw (is_same-refl p) refl in
    stood_in-append p xs (p ∷ []) ∙ ap (λ (n : ℕ). stood_in p xs + n) own

pub times-append : (before : List Position) (p : Position) (moves : List Ply) (m : Ply) →
    repetitions_of before p (moves ++ m ∷ []) ≡ repetitions_of before p moves ++ stood_in (position_after_ply (now_after p moves) m) (before ++ (later p moves ++ position_after_ply (now_after p moves) m ∷ [])) ∷ []
times-append before p [] m = refl
times-append before p (n ∷ moves) m =
    let q = position_after_ply p n in
    let last = position_after_ply (now_after q moves) m in
    ap (λ (xs : List ℕ). stood_in q (before ++ q ∷ []) ∷ xs) (times-append (before ++ q ∷ []) q moves m
    ∙ ap (λ (xs : List Position). repetitions_of (before ++ q ∷ []) q moves ++ stood_in last xs ∷ []) (append_assoc before (q ∷ []) (later q moves ++ last ∷ [])))

pub take-times : (k : ℕ) (before : List Position) (p : Position) (moves : List Ply) → take k (repetitions_of before p moves) ≡ repetitions_of before p (take k moves)
take-times zero before p moves = refl
take-times (suc k) before p [] = refl
take-times (suc k) before p (m ∷ moves) = ap (λ (xs : List ℕ). stood_in (position_after_ply p m) (before ++ position_after_ply p m ∷ []) ∷ xs) (take-times k (before ++ position_after_ply p m ∷ []) (position_after_ply p m) moves)

pub length-times : (before : List Position) (p : Position) (moves : List Ply) → length (repetitions_of before p moves) ≡ length moves
length-times before p [] = refl
length-times before p (m ∷ moves) = ap suc (length-times (before ++ position_after_ply p m ∷ []) (position_after_ply p m) moves)

times_at : (before : List Position) (p : Position) (moves : List Ply) (i : ℕ) (d : Position) → i < length moves →
    get_or (repetitions_of before p moves) i 0 ≡ stood_in (get_or (later p moves) i d) (before ++ take (i + 1) (later p moves))
times_at before p [] i d h = absurd (omega arith)
times_at before p (m ∷ moves) zero d h = refl
times_at before p (m ∷ moves) (suc i) d h =
    let q = position_after_ply p m in
    let n : suc i + 1 ≡ suc (i + 1) = omega arith in
    times_at (before ++ q ∷ []) q moves i d (omega arith)
    ∙ ap (stood_in (get_or (later q moves) i d)) (append_assoc before (q ∷ []) (take (i + 1) (later q moves)))
    ∙ ap (λ (k : ℕ). stood_in (get_or (later q moves) i d) (before ++ take k (q ∷ later q moves))) (sym n)

pub are_times : (p : Position) (moves : List Ply) (positions : List Position) (times : List ℕ) → positions ≡ later p moves → times ≡ repetitions_of (p ∷ []) p moves → AreTimes p positions times
are_times p moves positions times l t =
    let own : AreTimes p (later p moves) (repetitions_of (p ∷ []) p moves) = record {
      length_is = length-times (p ∷ []) p moves ∙ sym (length-later p moves);
      each = λ k h. let count = length-later p moves in times_at (p ∷ []) p moves k p (omega arith);
    } in
    subst (λ (xs : List Position). AreTimes p xs times) (sym l) (subst (λ (ns : List ℕ). AreTimes p (later p moves) ns) (sym t) own)

-- the last of the times is that of the present position
pub times_last : (p : Position) (moves : List Ply) (n : ℕ) → slice_get (repetitions_of (p ∷ []) p moves) (length (repetitions_of (p ∷ []) p moves) - 1) ≡ Some n → n ≡ stood_in (now_after p moves) (p ∷ later p moves)
times_last p moves n e =
    let ts = repetitions_of (p ∷ []) p moves in
    let i = length ts - 1 in
    let within : i < length ts = slice_get_within ts i n e in
    let count : length ts ≡ length moves = length-times (p ∷ []) p moves in
    let same = length-later p moves in
    let next : suc i ≡ length moves = omega arith in
    let all : i + 1 ≡ length (later p moves) = omega arith in
    let low : i < length moves = omega arith in
    let there = slice_get-get_or ts i 0 within in
    let value : get_or ts i 0 ≡ n = ap (λ (o : Option ℕ). unwrap_or o 0) (sym there ∙ e) in
    let position = slice_get-get_or (later p moves) i p (omega arith) in
    let last : Some (now_after p moves) ≡ Some (get_or (later p moves) i p) =
    sym (last_is p moves) ∙ ap (slice_get (p ∷ later p moves)) (sym next) ∙ position in
    let now : get_or (later p moves) i p ≡ now_after p moves = ap (λ (o : Option Position). unwrap_or o p) (sym last) in
    sym value ∙ times_at (p ∷ []) p moves i p low
    ∙ ap (λ (q : Position). stood_in q (p ∷ take (i + 1) (later p moves))) now
    ∙ ap (λ (k : ℕ). stood_in (now_after p moves) (p ∷ take k (later p moves))) all
    ∙ ap (λ (xs : List Position). stood_in (now_after p moves) (p ∷ xs)) (take-length (later p moves))

pub times_none : (p : Position) (moves : List Ply) → slice_get (repetitions_of (p ∷ []) p moves) (length (repetitions_of (p ∷ []) p moves) - 1) ≡ None → 1 ≡ stood_in (now_after p moves) (p ∷ later p moves)
times_none p [] e = sym (stood_once p [])
times_none p (m ∷ moves) e =
    let there = slice_get-get_or (repetitions_of (p ∷ []) p (m ∷ moves)) (length (repetitions_of (p ∷ []) p (m ∷ moves)) - 1) 0 (omega arith) in
    cc

test : Pieces → Side → Rights → Option ℕ → Position → Bool
test pieces side rights passant q = (same_pieces pieces q.pieces && same_side side q.side) && (same_rights rights q.rights && same_square passant q.passant)

-- a position that is the same as one of two same positions is the same as the other
same_test : (p q : Position) → is_same p q ≡ true → (xs : List Position) → stood_in p xs ≡ stood_in q xs
unfolding is_same test
same_test p q e xs =
    let s = (same-law p q).0 e in
    ap (λ (m : Pieces). count_by (test m p.side p.rights p.passant) xs) s.pieces
    ∙ ap (λ (m : Side). count_by (test q.pieces m p.rights p.passant) xs) s.side
    ∙ ap (λ (m : Rights). count_by (test q.pieces q.side m p.passant) xs) s.rights
    ∙ ap (λ (m : Option ℕ). count_by (test q.pieces q.side q.rights m) xs) s.passant

-- the last occurrence tells how often a position stood
pub stood_found : (p start : Position) (positions : List Position) (i : ℕ) → i < length positions → is_same p (get_or positions i start) ≡ true → stood_in p (drop (i + 1) positions) ≡ 0 →
    stood_in (get_or positions i start) (start ∷ take (i + 1) positions) ≡ stood_in p (start ∷ positions)
stood_found p start positions i h same none =
    let prefix = sym (same_test p (get_or positions i start) same (start ∷ take (i + 1) positions)) in
    let parts : stood_in p (start ∷ positions) ≡ stood_in p (start ∷ take (i + 1) positions) + stood_in p (drop (i + 1) positions) =
    ap (λ (xs : List Position). stood_in p (start ∷ xs)) (sym (take-append-drop (i + 1) positions)) ∙ stood_in-append p (start ∷ take (i + 1) positions) (drop (i + 1) positions) in
    prefix ∙ (let zero_more : stood_in p (start ∷ take (i + 1) positions) ≡ stood_in p (start ∷ positions) = omega arith in zero_more)

-- one position before, which is another
pub stood_before : (p start : Position) (positions : List Position) (i : ℕ) → i < length positions → is_same p (get_or positions i start) ≡ false → stood_in p (drop (i + 1) positions) ≡ 0 → stood_in p (drop i positions) ≡ 0
stood_before p start positions i h other none =
    ap (stood_in p) (drop_more positions i start h) ∙ stood_in-cons p (get_or positions i start) (drop (i + 1) positions) ∙ rw (other, none) refl

pub stood_few : (p start : Position) (positions : List Position) → stood_in p (start ∷ positions) ≤ length positions + 1
stood_few p start positions = let most = count_by-le-length (is_same p) (start ∷ positions) in omega arith
