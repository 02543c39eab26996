-- The call for a Move rests on the game and the mode alone.
use Rattle.std.proofs.Common.{◌≡◌, [], Bool, true, false, not, cond, ◌&&◌, ◌||◌, Option, Some, None, refl, sym, ap, ◌∙◌}
use Rattle.std.specs.Option.{is_some}
use mathlib.Core.Bool.{and-false}
use Rattle.chess_board.specs.declared.board.Move.{Move}
use Rattle.chess_board.specs.Board.{same_side}
use Rattle.cecp_lines.specs.Messages.{IfaceMsg}
use Rattle.cecp_lines.specs.Messages as says
use Rattle.option_map.specs.DeclaredOptions.Shown.{check_named}
use Rattle.game_record.specs.Game.{Game, current_position}
use Rattle.game_record.specs.Ending.{has_legal}
use Rattle.search_epochs.specs.declared.words.Call.{Call}
use Rattle.search_epochs.specs.declared.words.Call.TheVariants as calls
use Rattle.search_epochs.specs.Tickets.{is_move}
use Rattle.desk_rules.specs.declared.mode.Mode.{Mode}
use Rattle.desk_rules.specs.declared.mode.Mode.TheVariants as modes
use Rattle.desk_rules.specs.declared.desk.Desk.{Desk}
use Rattle.desk_rules.specs.Desk.{Situation, call_of_desk, call_in, call_for_hint, call_while_waiting, call_before, has_ended, on_move, game_played, is_gone, is_boot, is_full, owes_move, table, ponder_name}
use Rattle.desk_rules.specs.Lines.{asks, change, is_epoch_line}
use Rattle.desk_rules.specs.Steps.{Effect, Accepts, Shows, Forfeits, Dies, desk_after_effect, begins_epoch, call_after, is_death, over_where, resigns_at_end}

-- a Move is called for, by the game and the mode
abbrev pub plays_now : Game → Mode → Bool
plays_now g (modes.Plays s) = not (has_ended g) && same_side s (on_move g)
plays_now g m = false

abbrev pub calls_move : Bool → Bool → Game → Mode → Bool
calls_move closed gone g m = not (closed || gone || is_full g) && plays_now g m

hint_not : (b : Bool) (g : Move) → is_move (cond b calls.Nothing (calls.Ponder g)) ≡ false
hint_not true g = refl
hint_not false g = refl

for_hint_not : (g : Game) (o : Option Move) → is_move (call_for_hint g o) ≡ false
for_hint_not g None = refl
for_hint_not g (Some h) = hint_not (has_ended (game_played g h)) h

wait_not : (b : Bool) (d : Desk) → is_move (cond b (call_for_hint d.game d.hint) calls.Nothing) ≡ false
wait_not true d = for_hint_not d.game d.hint
wait_not false d = refl

mine : (over on : Bool) (c : Call) → is_move c ≡ false → is_move (cond over calls.Nothing (cond on calls.Move c)) ≡ (not over && on)
mine true on c e = refl
mine false true c e = refl
mine false false c e = e

analyses_not : (b : Bool) → is_move (cond b calls.Analyse calls.Nothing) ≡ false
analyses_not true = refl
analyses_not false = refl

in_is : (d : Desk) (m : Mode) → is_move (call_in d m) ≡ plays_now d.game m
in_is d modes.Force = refl
in_is d modes.Over = refl
in_is d modes.Analyse = analyses_not (has_legal (current_position d.game))
in_is d (modes.Plays s) = mine (has_ended d.game) (same_side s (on_move d.game)) (call_while_waiting d) (wait_not (d.pondering && is_some (check_named ponder_name (table d))) d)

out_is : (b : Bool) (c : Call) (p : Bool) → is_move c ≡ p → is_move (cond b calls.Nothing c) ≡ (not b && p)
out_is true c p e = refl
out_is false c p e = e

pub call_is : (closed gone : Bool) (d : Desk) → is_move (call_of_desk closed gone d) ≡ calls_move closed gone d.game d.mode
unfolding call_of_desk
call_is closed gone d = out_is (closed || gone || is_full d.game) (call_in d d.mode) (plays_now d.game d.mode) (in_is d d.mode)

-- in a closed session none is called for
pub closed_calls : (closed gone : Bool) (d : Desk) → closed ≡ true → is_move (call_of_desk closed gone d) ≡ false
closed_calls true gone d e = call_is true gone d
closed_calls false gone d e = cc

-- nor where the game is over
pub over_calls : (closed gone : Bool) (d : Desk) → d.mode ≡ modes.Over → is_move (call_of_desk closed gone d) ≡ false
over_calls closed gone d e = call_is closed gone d ∙ ap (λ (x : Mode). calls_move closed gone d.game x) e ∙ and-false (not (closed || gone || is_full d.game))

-- the game and the mode are as before, or the mode is Over
pub data Stays (d e : Desk) : Type 0 where
  Same : e.game ≡ d.game → e.mode ≡ d.mode → Stays d e
  Ends : e.mode ≡ modes.Over → Stays d e

line_stays : (h : Situation) (m : IfaceMsg) → is_epoch_line (owes_move h) (asks (is_gone h.engine) h.desk m) m ≡ false → Stays h.desk (change (is_boot h.engine) h.desk m)
unfolding change is_epoch_line
line_stays h says.New r = cc
line_stays h says.Force r = cc
line_stays h says.Go r = cc
line_stays h says.PlayOther r = cc
line_stays h (says.UserMove m) r = cc
line_stays h says.Undo r = cc
line_stays h says.Remove r = cc
line_stays h (says.SetBoard text) r = cc
line_stays h says.Analyze r = cc
line_stays h says.Exit r = cc
line_stays h says.Result r = cc
line_stays h m r = Same refl refl

over_stays : (h : Situation) (b : Bool) → Stays h.desk (record h.desk { mode = over_where b h.desk.mode; due = h.desk.due && h.closed; early = [] })
over_stays h true = Ends refl
over_stays h false = Same refl refl

-- without a new epoch the game and the mode stay, unless the game is abandoned
pub stays : (h : Situation) (d : Effect) → begins_epoch h d ≡ false → Stays h.desk (desk_after_effect h d)
unfolding desk_after_effect
stays h (Accepts m) r = line_stays h m r
stays h (Shows best hint) r = cc
stays h (Forfeits answer) r = Ends refl
stays h Dies r = over_stays h (resigns_at_end h)
stays h d r = Same refl refl

or_gone : (c g x f : Bool) (p : Bool) → (not (c || g || f) && p) ≡ false → (not (c || (g || x) || f) && p) ≡ false
or_gone true g x f p e = refl
or_gone false true x f p e = refl
or_gone false false true f p e = refl
or_gone false false false f p e = e

stays_quiet : (h : Situation) (d : Effect) (e : Desk) → Stays h.desk e → is_move (call_before h) ≡ false → is_move (call_of_desk h.closed (is_gone h.engine || is_death d) e) ≡ false
stays_quiet h d e (Same g m) p =
    call_is h.closed (is_gone h.engine || is_death d) e
    ∙ ap (λ (x : Game). calls_move h.closed (is_gone h.engine || is_death d) x e.mode) g
    ∙ ap (λ (x : Mode). calls_move h.closed (is_gone h.engine || is_death d) h.desk.game x) m
    ∙ or_gone h.closed (is_gone h.engine) (is_death d) (is_full h.desk.game) (plays_now h.desk.game h.desk.mode) (sym (call_is h.closed (is_gone h.engine) h.desk) ∙ p)
stays_quiet h d e (Ends m) p = over_calls h.closed (is_gone h.engine || is_death d) e m

-- where no Move is called for and no epoch begins, none is called for afterwards
pub still_quiet : (h : Situation) (d : Effect) → begins_epoch h d ≡ false → is_move (call_before h) ≡ false → is_move (call_after h.closed h d) ≡ false
still_quiet h d r p = stays_quiet h d (desk_after_effect h d) (stays h d r) p
