-- The side on move has a legal move exactly where the game has not ended by mate or stalemate.
use Rattle.std.proofs.Common.{◌≡◌, ℕ, Bool, true, false, not, cond, nat_le, Option, Some, None, refl, ap, ◌∙◌}
use Rattle.chess_board.specs.Attack.{is_checked}
use Rattle.game_record.specs.declared.ending.GameEnd.{GameEnd}
use Rattle.game_record.specs.declared.ending.GameEnd.TheVariants.{Repetition, Fifty}
use Rattle.game_record.specs.Game.{Game, current_position}
use Rattle.game_record.specs.Ending.{has_legal, is_dead, state_by, state_of, repeats_of, ended_by, ended_of}
use Rattle.desk_rules.specs.Desk.{is_moveless}

open_by : (often long : Bool) → not (is_moveless (cond often (Some Repetition) (cond long (Some Fifty) None))) ≡ true
open_by true long = refl
open_by false true = refl
open_by false false = refl

moves_by : (legal checked dead : Bool) (repeats half : ℕ) → not (is_moveless (ended_by (state_by legal checked dead) repeats half)) ≡ legal
moves_by false true dead repeats half = refl
moves_by false false dead repeats half = refl
moves_by true checked true repeats half = refl
moves_by true checked false repeats half = open_by (nat_le 3 repeats) (nat_le 100 half)

pub has_moves : (g : Game) (end : Option GameEnd) → end ≡ ended_of g → not (is_moveless end) ≡ has_legal (current_position g)
unfolding ended_of state_of
has_moves g end e =
    let p = current_position g in
    ap (λ (o : Option GameEnd). not (is_moveless o)) e ∙ moves_by (has_legal p) (is_checked p.pieces p.side) (is_dead p.pieces) (repeats_of g) p.half
