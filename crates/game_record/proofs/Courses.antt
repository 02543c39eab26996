-- The parts that a game keeps when a move is played, and when moves are taken back.
use Rattle.std.proofs.Common.{◌≡◌, ℕ, ◌+◌, ◌<◌, ◌≤◌, List, [], ◌∷◌, ◌++◌, Option, length, take, sym, ap, subst, ◌∙◌, arith, length-append}
use Rattle.std.proofs.lemmas.List.{map-append, take-map, length-map}
use Rattle.chess_board.specs.declared.board.Move.{Move}
use Rattle.chess_board.specs.Position.{Position}
use Rattle.game_record.specs.declared.ending.GameEnd.{GameEnd}
use Rattle.game_record.specs.Game.{Ply, Game, ply_of, plies_of, IsPlayablePly, position_after_ply, now_after, later, AreLegal}
use Rattle.game_record.specs.Ending.{stood_in, state_of, ended_by, ended_of}
use Rattle.game_record.specs.Keeps.{GameInvariant, most_plies, repetitions_of}
use Rattle.game_record.proofs.Replays.{later-append, legal-append, take-later, legal-take}
use Rattle.game_record.proofs.Times.{stood_once, times-append, take-times}
use Rattle.game_record.proofs.States.{ended_more}

pub plies_of-take : (n : ℕ) (moves : List Move) → plies_of (take n moves) ≡ take n (plies_of moves)
plies_of-take n moves = sym (take-map ply_of n moves)

-- a game keeps what it keeps when a move is played
pub keeps_push : (p : Position) (moves longer : List Move) (positions more : List Position) (times often : List ℕ) (m : Move) (after : Position) (stood : ℕ) (ended ended' : Option GameEnd) (room room' places places' rows rows' : ℕ) →
    GameInvariant p (plies_of moves) positions times ended room places rows → longer ≡ moves ++ m ∷ [] → more ≡ positions ++ after ∷ [] → often ≡ times ++ stood ∷ [] → room' ≡ room → places' ≡ places → rows' ≡ rows →
    after ≡ position_after_ply (now_after p (plies_of moves)) (ply_of m) → stood ≡ stood_in after (p ∷ later p (plies_of moves)) + 1 →
    ended' ≡ ended_by (state_of after) stood after.half →
    IsPlayablePly (now_after p (plies_of moves)) (ply_of m) → length (plies_of moves) < most_plies → GameInvariant p (plies_of longer) more often ended' room' places' rows'
keeps_push p moves longer positions more times often m after stood ended ended' room room' places places' rows rows' k l q t r s u a o e legal few =
    let course : List Ply → Game = λ plies. record { start = p; moves = plies } in
    let plies : plies_of longer ≡ plies_of moves ++ ply_of m ∷ [] = ap plies_of l ∙ map-append ply_of moves (m ∷ []) in
    let count : length (plies_of longer) ≡ length (plies_of moves) + 1 = ap length plies ∙ length-append (plies_of moves) (ply_of m ∷ []) in
    let next = position_after_ply (now_after p (plies_of moves)) (ply_of m) in
    let once : stood ≡ stood_in next (p ∷ (later p (plies_of moves) ++ next ∷ [])) =
    o ∙ ap (λ (x : Position). stood_in x (p ∷ later p (plies_of moves)) + 1) a ∙ sym (stood_once next (p ∷ later p (plies_of moves))) in
    let wide = k.move_room_is in
    let high = k.position_room_is in
    let deep = k.time_room_is in
    record {
      positions_are = q ∙ ap (λ (xs : List Position). xs ++ after ∷ []) k.positions_are ∙ ap (λ (x : Position). later p (plies_of moves) ++ x ∷ []) a
          ∙ sym (later-append p (plies_of moves) (ply_of m)) ∙ ap (later p) (sym plies);
      times_are = t ∙ ap (λ (xs : List ℕ). xs ++ stood ∷ []) k.times_are ∙ ap (λ (n : ℕ). repetitions_of (p ∷ []) p (plies_of moves) ++ n ∷ []) once
          ∙ sym (times-append (p ∷ []) p (plies_of moves) (ply_of m)) ∙ ap (repetitions_of (p ∷ []) p) (sym plies);
      ended_is = e ∙ ended_more (course (plies_of moves)) (ply_of m) after stood a o ∙ ap (λ (xs : List Ply). ended_of (course xs)) (sym plies);
      legal = subst (AreLegal p) (sym plies) (legal-append p (plies_of moves) (ply_of m) k.legal legal);
      few = omega arith;
      move_room_is = omega arith;
      position_room_is = omega arith;
      time_room_is = omega arith;
    }

-- and when moves are taken back
pub keeps_take : (n : ℕ) (p : Position) (moves shorter : List Move) (positions fewer : List Position) (times rarer : List ℕ) (ended ended' : Option GameEnd) (room room' places places' rows rows' : ℕ) →
    GameInvariant p (plies_of moves) positions times ended room places rows → shorter ≡ take n moves → fewer ≡ take n positions → rarer ≡ take n times → room' ≡ room → places' ≡ places → rows' ≡ rows →
    length shorter ≤ length moves → ((left : List Ply) → fewer ≡ later p left → rarer ≡ repetitions_of (p ∷ []) p left → ended' ≡ ended_of (record { start = p; moves = left })) → GameInvariant p (plies_of shorter) fewer rarer ended' room' places' rows'
keeps_take n p moves shorter positions fewer times rarer ended ended' room room' places places' rows rows' k l q t r s u less end =
    let plies : plies_of shorter ≡ take n (plies_of moves) = ap plies_of l ∙ plies_of-take n moves in
    let count : length (plies_of shorter) ≡ length shorter = length-map shorter ply_of in
    let before : length (plies_of moves) ≡ length moves = length-map moves ply_of in
    let most = k.few in
    let wide = k.move_room_is in
    let high = k.position_room_is in
    let deep = k.time_room_is in
    let positions_are : fewer ≡ later p (plies_of shorter) = q ∙ ap (take n) k.positions_are ∙ take-later n p (plies_of moves) ∙ ap (later p) (sym plies) in
    let times_are : rarer ≡ repetitions_of (p ∷ []) p (plies_of shorter) = t ∙ ap (take n) k.times_are ∙ take-times n (p ∷ []) p (plies_of moves) ∙ ap (repetitions_of (p ∷ []) p) (sym plies) in
    record {
      positions_are = positions_are;
      times_are = times_are;
      ended_is = end (plies_of shorter) positions_are times_are;
      legal = subst (AreLegal p) (sym plies) (legal-take n p (plies_of moves) k.legal);
      few = omega arith;
      move_room_is = omega arith;
      position_room_is = omega arith;
      time_room_is = omega arith;
    }
