-- An event that begins no epoch leaves the call of a current search as it is.
use Rattle.std.proofs.Common.{◌≡◌, ℕ, Bool, true, false, not, cond, ◌&&◌, ◌||◌, Option, Some, None, refl, sym, subst, ◌∙◌, List}
use Rattle.std.specs.Option.{is_some}
use Rattle.std.proofs.lemmas.Bool.{not-false}
use mathlib.Core.Bool.{or-false}
use Rattle.chess_board.specs.declared.board.Move.{Move}
use Rattle.chess_board.specs.Board.{same_side}
use Rattle.uci_lines.specs.Orders.{Order}
use Rattle.game_record.specs.Game.{current_position}
use Rattle.game_record.specs.Ending.{has_legal}
use Rattle.protocol_tokens.specs.declared.kinds.GoKind.{GoKind}
use Rattle.cecp_lines.specs.Messages.{IfaceMsg}
use Rattle.cecp_lines.specs.Messages as says
use Rattle.option_map.specs.DeclaredOptions.Shown.{check_named}
use Rattle.search_epochs.specs.declared.words.Call.{Call}
use Rattle.search_epochs.specs.declared.words.Call.TheVariants as calls
use Rattle.search_epochs.specs.declared.words.EngineState.{EngineState}
use Rattle.search_epochs.specs.declared.words.EngineState.TheVariants as states
use Rattle.search_epochs.specs.Tickets.{is_move, SearchServesCall}
use Rattle.desk_rules.specs.declared.mode.Mode.{Mode}
use Rattle.desk_rules.specs.declared.mode.Mode.TheVariants as modes
use Rattle.desk_rules.specs.declared.desk.Desk.{Desk}
use Rattle.desk_rules.specs.Desk.{Situation, call_of_desk, call_in, call_while_waiting, call_for_hint, call_before, current, is_gone, is_boot, is_getting, is_full, table, ponder_name, has_ended, on_move, game_played, owes_move, owed_at}
use Rattle.desk_rules.specs.Lines.{asks, change, is_epoch_line}
use Rattle.desk_rules.specs.Steps.{Effect, Accepts, Defers, Names, Declares, Boots, Readies, Thinks, Shows, Forfeits, Answers, Dies, desk_after_effect, begins_epoch, call_after}
use Rattle.desk_rules.specs.Fits.{EffectFitsDesk}

-- an effect that leaves an open search open
abbrev pub IsNoAnswer : Effect → Type 0
IsNoAnswer (Shows m hint) = ⊥
IsNoAnswer (Forfeits answer) = ⊥
IsNoAnswer Answers = ⊥
IsNoAnswer Dies = ⊥
IsNoAnswer d = Unit {0}

pub not_gone : (e : EngineState) (k : GoKind) → current e ≡ Some k → is_gone e ≡ false
not_gone states.Boot k c = refl
not_gone states.Getting k c = refl
not_gone states.Idle k c = refl
not_gone (states.Search g stale stopped) k c = refl
not_gone states.Gone k c = cc

not_boot : (e : EngineState) (k : GoKind) → current e ≡ Some k → is_boot e ≡ true → ⊥
not_boot states.Boot k c b = cc
not_boot states.Getting k c b = cc
not_boot states.Idle k c b = cc
not_boot (states.Search g stale stopped) k c b = cc
not_boot states.Gone k c b = cc

not_getting : (e : EngineState) (k : GoKind) → current e ≡ Some k → is_getting e ≡ true → ⊥
not_getting states.Boot k c b = cc
not_getting states.Getting k c b = cc
not_getting states.Idle k c b = cc
not_getting (states.Search g stale stopped) k c b = cc
not_getting states.Gone k c b = cc

-- a call for a move does not rest on pondering
mine_stays : (mine : Bool) (x y : Call) → cond mine calls.Move x ≡ calls.Move → (x ≡ calls.Move → ⊥) → cond mine calls.Move y ≡ calls.Move
mine_stays true x y e n = refl
mine_stays false x y e n = absurd (n e)

hint_no_move : (b : Bool) (h : Call) → (h ≡ calls.Move → ⊥) → cond b h calls.Nothing ≡ calls.Move → ⊥
hint_no_move true h n e = n e
hint_no_move false h n e = cc

for_no_move : (d : Desk) → call_for_hint d.game d.hint ≡ calls.Move → ⊥
for_no_move d = go d.hint where
  end : (b : Bool) (h : Call) → (h ≡ calls.Move → ⊥) → cond b calls.Nothing h ≡ calls.Move → ⊥
  end true h n e = cc
  end false h n e = n e

  go : (o : Option Move) → call_for_hint d.game o ≡ calls.Move → ⊥
  go None e = cc
  go (Some g) e = end (has_ended (game_played d.game g)) (calls.Ponder g) (λ x. cc) e

pub wait_no_move : (d : Desk) → call_while_waiting d ≡ calls.Move → ⊥
wait_no_move d e = hint_no_move (d.pondering && is_some (check_named ponder_name (table d))) (call_for_hint d.game d.hint) (for_no_move d) e

over_stays : (over mine : Bool) (x y : Call) → cond over calls.Nothing (cond mine calls.Move x) ≡ calls.Move → (x ≡ calls.Move → ⊥) → cond over calls.Nothing (cond mine calls.Move y) ≡ calls.Move
over_stays true mine x y e n = cc
over_stays false mine x y e n = mine_stays mine x y e n

pub analyse_no_move : (b : Bool) → cond b calls.Analyse calls.Nothing ≡ calls.Move → ⊥
analyse_no_move true e = cc
analyse_no_move false e = cc

in_stays : (m : Mode) (d : Desk) (b : Bool) → call_in d m ≡ calls.Move → call_in (record d { pondering = b }) m ≡ calls.Move
in_stays modes.Force d b e = cc
in_stays modes.Over d b e = cc
in_stays modes.Analyse d b e = absurd (analyse_no_move (has_legal (current_position d.game)) e)
in_stays (modes.Plays s) d b e = over_stays (has_ended d.game) (same_side s (on_move d.game)) (call_while_waiting d) (call_while_waiting (record d { pondering = b })) e (wait_no_move d)

out_stays : (out : Bool) (x y : Call) → cond out calls.Nothing x ≡ calls.Move → (x ≡ calls.Move → y ≡ calls.Move) → cond out calls.Nothing y ≡ calls.Move
out_stays true x y e f = cc
out_stays false x y e f = f e

move_stays : (closed gone : Bool) (d : Desk) (b : Bool) → call_of_desk closed gone d ≡ calls.Move → call_of_desk closed gone (record d { pondering = b }) ≡ calls.Move
unfolding call_of_desk
move_stays closed gone d b e = out_stays (closed || gone || is_full d.game) (call_in d d.mode) (call_in (record d { pondering = b }) d.mode) e (in_stays d.mode d b)

pub is_move_call : (c : Call) → is_move c ≡ true → c ≡ calls.Move
is_move_call calls.Nothing e = cc
is_move_call calls.Move e = refl
is_move_call (calls.Ponder h) e = cc
is_move_call calls.Analyse e = cc

owed_move : (spent : Bool) (c : Call) → is_move (owed_at spent c) ≡ true → c ≡ calls.Move
owed_move true c e = cc
owed_move false c e = is_move_call c e

-- `hard` and `easy` while a Move is owed
shown_pondering : (h : Situation) (k : GoKind) (b : Bool) → not (owes_move h) ≡ false → SearchServesCall k (call_before h) → SearchServesCall k (call_of_desk h.closed (is_gone h.engine) (record h.desk { pondering = b }))
shown_pondering h k b r s =
    let p : call_before h ≡ calls.Move = owed_move h.spent (call_before h) (not-false (owes_move h) r) in
    subst (SearchServesCall k) (p ∙ sym (move_stays h.closed (is_gone h.engine) h.desk b p)) s

line_serves : (h : Situation) (m : IfaceMsg) (k : GoKind) → is_epoch_line (owes_move h) (asks (is_gone h.engine) h.desk m) m ≡ false → SearchServesCall k (call_before h) → SearchServesCall k (call_of_desk h.closed (is_gone h.engine) (change (is_boot h.engine) h.desk m))
unfolding change is_epoch_line call_of_desk
line_serves h says.New k r s = cc
line_serves h says.Force k r s = cc
line_serves h says.Go k r s = cc
line_serves h says.PlayOther k r s = cc
line_serves h (says.UserMove m) k r s = cc
line_serves h says.Undo k r s = cc
line_serves h says.Remove k r s = cc
line_serves h (says.SetBoard text) k r s = cc
line_serves h says.Analyze k r s = cc
line_serves h says.Exit k r s = cc
line_serves h says.Result k r s = cc
line_serves h says.Hard k r s = shown_pondering h k true r s
line_serves h says.Easy k r s = shown_pondering h k false r s
line_serves h m k r s = s

as_gone : (k : GoKind) (c : Bool) (g : Bool) (d : Desk) → SearchServesCall k (call_of_desk c g d) → SearchServesCall k (call_of_desk c (g || false) d)
as_gone k c g d s = subst (λ (b : Bool). SearchServesCall k (call_of_desk c b d)) (sym (or-false g)) s

-- the call goes on to be served
pub still_serves : (h : Situation) (held : List Order) (d : Effect) (k : GoKind) → EffectFitsDesk h held d → IsNoAnswer d → begins_epoch h d ≡ false → current h.engine ≡ Some k → SearchServesCall k (call_before h) → SearchServesCall k (call_after h.closed h d)
unfolding desk_after_effect
still_serves h held (Accepts m) k f n r c s = as_gone k h.closed (is_gone h.engine) (change (is_boot h.engine) h.desk m) (line_serves h m k r s)
still_serves h held (Defers line) k f n r c s = absurd (not_boot h.engine k c f.in_boot)
still_serves h held (Names x) k f n r c s = absurd (not_boot h.engine k c f.1)
still_serves h held (Declares x y) k f n r c s = absurd (not_boot h.engine k c f.1)
still_serves h held Boots k f n r c s = absurd (not_boot h.engine k c f.1)
still_serves h held Readies k f n r c s = absurd (not_getting h.engine k c f.1)
still_serves h held (Thinks g i) k f n r c s = as_gone k h.closed (is_gone h.engine) (desk_after_effect h (Thinks g i)) (unfold call_of_desk in s)
still_serves h held (Shows m hint) k f n r c s = absurd n
still_serves h held (Forfeits answer) k f n r c s = absurd n
still_serves h held Answers k f n r c s = absurd n
still_serves h held Dies k f n r c s = absurd n
still_serves h held d k f n r c s = as_gone k h.closed (is_gone h.engine) h.desk s
