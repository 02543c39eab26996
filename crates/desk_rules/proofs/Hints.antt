-- The hint changes only where the epoch rises, and a call to ponder is for the hint.
use Rattle.std.proofs.Common.{◌≡◌, Bool, true, false, cond, ◌&&◌, ◌||◌, Option, Some, None, refl, ap}
use Rattle.std.specs.Option.{is_some}
use Rattle.chess_board.specs.declared.board.Move.{Move}
use Rattle.chess_board.specs.Board.{same_side}
use Rattle.cecp_lines.specs.Messages.{IfaceMsg}
use Rattle.cecp_lines.specs.Messages as says
use Rattle.uci_lines.specs.Orders.{Order}
use Rattle.option_map.specs.DeclaredOptions.Shown.{check_named}
use Rattle.game_record.specs.Game.{current_position}
use Rattle.game_record.specs.Ending.{has_legal}
use Rattle.search_epochs.specs.declared.words.Call.TheVariants as calls
use Rattle.desk_rules.specs.declared.mode.Mode.{Mode}
use Rattle.desk_rules.specs.declared.mode.Mode.TheVariants as modes
use Rattle.desk_rules.specs.declared.desk.Desk.{Desk}
use Rattle.desk_rules.specs.Desk.{Situation, is_boot, is_gone, is_full, owes_move, on_move, game_played, has_ended, table, ponder_name, call_of_desk, call_in, call_while_waiting, call_for_hint}
use Rattle.desk_rules.specs.Lines.{asks, change, is_epoch_line}
use Rattle.desk_rules.specs.Steps.{Effect, Accepts, Shows, desk_after_effect, begins_epoch}

changed : (boot : Bool) (d : Desk) (owes : Bool) (a : Option Order) (m : IfaceMsg) → is_epoch_line owes a m ≡ false → (change boot d m).hint ≡ d.hint
unfolding change is_epoch_line
changed boot d owes a says.New r = cc
changed boot d owes a (says.UserMove m) r = cc
changed boot d owes a says.Undo r = cc
changed boot d owes a says.Remove r = cc
changed boot d owes a (says.SetBoard text) r = cc
changed boot d owes a m r = refl

pub hint_kept : (h : Situation) (d : Effect) → begins_epoch h d ≡ false → (desk_after_effect h d).hint ≡ h.desk.hint
unfolding desk_after_effect
hint_kept h (Accepts m) r = changed (is_boot h.engine) h.desk (owes_move h) (asks (is_gone h.engine) h.desk m) m r
hint_kept h (Shows best hint) r = cc
hint_kept h d r = refl

for_hint : (b : Bool) (g x : Move) → cond b calls.Nothing (calls.Ponder x) ≡ calls.Ponder g → x ≡ g
for_hint true g x e = cc
for_hint false g x e = cc

call_hint_at : (d : Desk) (o : Option Move) (g : Move) → call_for_hint d.game o ≡ calls.Ponder g → o ≡ Some g
call_hint_at d None g e = cc
call_hint_at d (Some x) g e = ap Some (for_hint (has_ended (game_played d.game x)) g x e)

call_waits : (d : Desk) (b : Bool) (g : Move) → cond b (call_for_hint d.game d.hint) calls.Nothing ≡ calls.Ponder g → d.hint ≡ Some g
call_waits d true g e = call_hint_at d d.hint g e
call_waits d false g e = cc

call_plays : (d : Desk) (over mine : Bool) (g : Move) → cond over calls.Nothing (cond mine calls.Move (call_while_waiting d)) ≡ calls.Ponder g → d.hint ≡ Some g
call_plays d true mine g e = cc
call_plays d false true g e = cc
call_plays d false false g e = call_waits d (d.pondering && is_some (check_named ponder_name (table d))) g e

pub call_analyses : (b : Bool) (g : Move) → cond b calls.Analyse calls.Nothing ≡ calls.Ponder g → ⊥
call_analyses true g e = cc
call_analyses false g e = cc

call_hint_in : (m : Mode) (d : Desk) (g : Move) → call_in d m ≡ calls.Ponder g → d.hint ≡ Some g
call_hint_in modes.Force d g e = cc
call_hint_in modes.Over d g e = cc
call_hint_in modes.Analyse d g e = absurd (call_analyses (has_legal (current_position d.game)) g e)
call_hint_in (modes.Plays s) d g e = call_plays d (has_ended d.game) (same_side s (on_move d.game)) g e

some_call : (b : Bool) (d : Desk) (g : Move) → cond b calls.Nothing (call_in d d.mode) ≡ calls.Ponder g → d.hint ≡ Some g
some_call true d g e = cc
some_call false d g e = call_hint_in d.mode d g e

pub call_hint : (closed gone : Bool) (d : Desk) (g : Move) → call_of_desk closed gone d ≡ calls.Ponder g → d.hint ≡ Some g
unfolding call_of_desk
call_hint closed gone d g e = some_call (closed || gone || is_full d.game) d g e
