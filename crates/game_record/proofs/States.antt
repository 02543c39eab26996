-- The state of a position, and how a game has ended, by tests and by the Laws.
use Rattle.std.proofs.Common.{◌≡◌, ℕ, ◌+◌, List, [], ◌∷◌, ◌++◌, Bool, true, false, ◌&&◌, cond, leb, eqb, Some, None, refl, sym, ap, ◌∙◌}
use Rattle.std.specs.Prelude.{count_by}
use Rattle.std.specs.Bool.{Decides}
use Rattle.std.proofs.lemmas.Bool.Decides.{Decides-and, Decides-or, Decides-eqb}
use Rattle.std.proofs.lemmas.Bool.{leb-true, leb-false}
use Rattle.chess_board.specs.declared.board.State.{State}
use Rattle.chess_board.specs.declared.board.State.TheVariants as states
use Rattle.chess_board.specs.Attack.{is_checked}
use Rattle.chess_board.specs.Board.{Pieces}
use Rattle.chess_board.specs.Laws.{IsChecked}
use Rattle.chess_board.specs.Position.{Position}
use Rattle.chess_board.specs.Play.{is_piece, is_minor, HasLegal, IsDead, StateFits}
use Rattle.chess_board.proofs.Legal.{checked-law}
use Rattle.chess_board.proofs.Ways.{way-law}
use Rattle.game_record.specs.declared.ending.GameEnd.TheVariants as ends
use Rattle.game_record.specs.Game.{position_after_ply, Ply, Game, current_position, positions_of, with_ply, later}
use Rattle.game_record.specs.Ending.{has_legal, is_dead, state_by, state_of, ended_by, ended_of, stood_in, repeats_of, GameEndsBy, StateLaw, EndingLaw}
use Rattle.game_record.proofs.Replays.{later-append, now_after-append}
use Rattle.game_record.proofs.Times.{stood_once}

pub has_legal-law : (p : Position) → Decides (has_legal p) (HasLegal p)
unfolding has_legal
has_legal-law p = way-law p

dead-law : (pieces : Pieces) → Decides (is_dead pieces) (IsDead pieces)
dead-law pieces =
    Decides-or (eqb (count_by is_piece pieces) 2) (eqb (count_by is_piece pieces) 3 && eqb (count_by is_minor pieces) 1) (Decides-eqb (count_by is_piece pieces) 2)
    (Decides-and (eqb (count_by is_piece pieces) 3) (eqb (count_by is_minor pieces) 1) (Decides-eqb (count_by is_piece pieces) 3) (Decides-eqb (count_by is_minor pieces) 1))

fits_by : (p : Position) (moves checked dead : Bool) → Decides moves (HasLegal p) → Decides checked (IsChecked p.pieces p.side) → Decides dead (IsDead p.pieces) → StateFits p (state_by moves checked dead)
fits_by p false true dead m c d = (c.0 refl, λ h. let e = m.1 h in cc)
fits_by p false false dead m c d = (λ h. let e = c.1 h in cc, λ h. let e = m.1 h in cc)
fits_by p true checked true m c d = (m.0 refl, d.0 refl)
fits_by p true checked false m c d = (m.0 refl, λ h. let e = d.1 h in cc)

pub state-law : StateLaw
unfolding state_of
state-law p = fits_by p (has_legal p) (is_checked p.pieces p.side) (is_dead p.pieces) (has_legal-law p) (checked-law p.pieces p.side) (dead-law p.pieces)

-- a position has one state
pub one_state : (p : Position) (a b : State) → StateFits p a → StateFits p b → a ≡ b
one_state p states.Mate states.Mate h k = refl
one_state p a states.Mate h k = search (h.0, h.1, k.0, k.1)
one_state p a b h k = search (h.0, h.1, k.0, k.1)

open_ends : (g : Game) → StateFits (current_position g) states.Open → GameEndsBy g (ended_by states.Open (repeats_of g) (current_position g).half)
open_ends g f =
    elim (leb 3 (repeats_of g)) as (λ v. leb 3 (repeats_of g) ≡ v → GameEndsBy g (cond v (Some ends.Repetition) (cond (leb 100 (current_position g).half) (Some ends.Fifty) None))) [
      | true ↦ λ e. (f, leb-true 3 (repeats_of g) e)
      | false ↦ λ e. elim (leb 100 (current_position g).half) as (λ v. leb 100 (current_position g).half ≡ v → GameEndsBy g (cond v (Some ends.Fifty) None)) [
        | true ↦ λ k. (f, leb-false 3 (repeats_of g) e, leb-true 100 (current_position g).half k)
        | false ↦ λ k. (f, leb-false 3 (repeats_of g) e, leb-false 100 (current_position g).half k)
      ] refl
    ] refl

ends_by : (g : Game) (state : State) → StateFits (current_position g) state → GameEndsBy g (ended_by state (repeats_of g) (current_position g).half)
ends_by g states.Mate f = f
ends_by g states.Stale f = f
ends_by g states.Dead f = f
ends_by g states.Open f = open_ends g f

pub ending-law : EndingLaw
unfolding ended_of
ending-law g = ends_by g (state_of (current_position g)) (state-law (current_position g))

pub ended_same : (a b : State) (r q h k : ℕ) → a ≡ b → r ≡ q → h ≡ k → ended_by a r h ≡ ended_by b q k
ended_same a b r q h k s t u = ap (λ (x : State). ended_by x r h) s ∙ ap (λ (x : ℕ). ended_by b x h) t ∙ ap (λ (x : ℕ). ended_by b q x) u

-- after a move its position stood once more than before
pub repeats_more : (g : Game) (m : Ply) → repeats_of (with_ply g m) ≡ stood_in (current_position (with_ply g m)) (positions_of g) + 1
repeats_more g m =
    let now = current_position (with_ply g m) in
    let all : positions_of (with_ply g m) ≡ positions_of g ++ now ∷ [] =
    ap (λ (xs : List Position). g.start ∷ xs) (later-append g.start g.moves m ∙ ap (λ (q : Position). later g.start g.moves ++ q ∷ []) (sym (now_after-append g.start g.moves m))) in
    ap (stood_in now) all ∙ stood_once now (positions_of g)

-- the end after a move, by its position and how often that stood
pub ended_more : (g : Game) (m : Ply) (after : Position) (times : ℕ) → after ≡ position_after_ply (current_position g) m → times ≡ stood_in after (positions_of g) + 1 →
    ended_by (state_of after) times after.half ≡ ended_of (with_ply g m)
unfolding ended_of
ended_more g m after times a t =
    let now : after ≡ current_position (with_ply g m) = a ∙ sym (now_after-append g.start g.moves m) in
    let repeats : times ≡ repeats_of (with_ply g m) = t ∙ ap (λ (p : Position). stood_in p (positions_of g) + 1) now ∙ sym (repeats_more g m) in
    ended_same _ _ _ _ _ _ (ap state_of now) repeats (ap (λ (p : Position). p.half) now)
