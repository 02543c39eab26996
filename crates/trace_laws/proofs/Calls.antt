-- The call goes on unless an epoch begins or the step ends it.
use Rattle.std.proofs.Common.{◌≡◌, ℕ, List, [], Bool, true, false, not, cond, ◌&&◌, ◌||◌, ◌==◌, Option, None, refl, sym, ap, ◌∙◌}
use Rattle.std.specs.Option.{is_some}
use mathlib.Core.Bool.{or-false}
use Rattle.chess_board.specs.declared.board.Move.{Move}
use Rattle.chess_board.specs.declared.board.Side.TheVariants.{Black}
use Rattle.chess_board.specs.Board.{same_side}
use Rattle.protocol_tokens.specs.declared.kinds.GoKind.{GoKind}
use Rattle.protocol_tokens.specs.declared.kinds.GoKind.TheVariants as kinds
use Rattle.cecp_lines.specs.Messages.{IfaceMsg}
use Rattle.cecp_lines.specs.Messages as says
use Rattle.option_map.specs.DeclaredOptions.Settings.{OptionSetting}
use Rattle.option_map.specs.DeclaredOptions.Shown.{check_named}
use Rattle.search_epochs.specs.declared.words.Call.{Call}
use Rattle.search_epochs.specs.declared.words.Call.TheVariants as calls
use Rattle.search_epochs.specs.declared.words.Said.TheVariants as said
use Rattle.search_epochs.specs.declared.words.EngineState.TheVariants as states
use Rattle.option_map.specs.DeclaredOptions.Settings.{after_declared}
use Rattle.search_epochs.specs.Tickets.{Engine, Boot, Getting, Idle, Search, Gone, Says, is_move}
use Rattle.search_epochs.specs.Dialogue.{forget}
use Rattle.search_epochs.specs.History.{answers_at, is_engine_end}
use Rattle.desk_rules.specs.declared.mode.Mode.{Mode}
use Rattle.desk_rules.specs.declared.mode.Mode.TheVariants as modes
use Rattle.desk_rules.specs.declared.desk.Desk.{Desk}
use Rattle.desk_rules.specs.Desk.{Situation, call_of_desk, call_in, call_for_hint, call_while_waiting, call_before, is_gone, is_boot, is_full, table, ponder_name, has_ended, on_move, owes_move, owed_at}
use Rattle.desk_rules.specs.Lines.{asks, change, is_epoch_line}
use Rattle.desk_rules.specs.Steps.{Effect, Accepts, Defers, Names, Declares, Boots, Thinks, Shows, Forfeits, Answers, Dies, what_of, feature_style, desk_after_effect, begins_epoch, is_death}
use Rattle.desk_rules.specs.Fits.{EffectFitsDesk, IsCurrentMove, IsOther}
use Rattle.desk_rules.proofs.Serves.{is_move_call}
use Rattle.adapter_core.specs.Trace.{State, situation_of_state}
use Rattle.adapter_core.proofs.Fresh.{call_is}

-- WHERE NOTHING IS CALLED FOR

none_both : (b : Bool) → cond b calls.Nothing calls.Nothing ≡ calls.Nothing
none_both true = refl
none_both false = refl

pub closed_call : (gone : Bool) (d : Desk) → call_of_desk true gone d ≡ calls.Nothing
unfolding call_of_desk
closed_call gone d = refl

gone_call : (closed gone : Bool) (d : Desk) → call_of_desk closed (gone || true) d ≡ calls.Nothing
unfolding call_of_desk
gone_call true gone d = refl
gone_call false true d = refl
gone_call false false d = refl

over_call : (closed gone : Bool) (d : Desk) → call_of_desk closed gone (record d { mode = modes.Over }) ≡ calls.Nothing
unfolding call_of_desk
over_call closed gone d = none_both (closed || gone || is_full d.game)

not_mine : (over mine : Bool) (c : Call) → mine ≡ false → c ≡ calls.Nothing → cond over calls.Nothing (cond mine calls.Move c) ≡ calls.Nothing
not_mine true mine c m e = refl
not_mine false true c m e = cc
not_mine false false c m e = e

no_wait : (b x : Bool) (c : Call) → b ≡ false → cond (b && x) c calls.Nothing ≡ calls.Nothing
no_wait true x c e = cc
no_wait false x c e = refl

waits_for : (d : Desk) (m : Mode) → m ≡ modes.Plays Black → d.pondering ≡ false → same_side Black (on_move d.game) ≡ false → call_in d m ≡ calls.Nothing
waits_for d m e p w =
    ap (call_in d) e
    ∙ not_mine (has_ended d.game) (same_side Black (on_move d.game)) (call_while_waiting d) w
    (no_wait d.pondering (is_some (check_named ponder_name (table d))) (call_for_hint d.game d.hint) p)

-- the engine plays Black, White is on move, and there is no pondering
pub first_call : (closed gone : Bool) (d : Desk) → d.mode ≡ modes.Plays Black → d.pondering ≡ false → same_side Black (on_move d.game) ≡ false → call_of_desk closed gone d ≡ calls.Nothing
unfolding call_of_desk
first_call closed gone d e p w = ap (λ (c : Call). cond (closed || gone || is_full d.game) calls.Nothing c) (waits_for d d.mode e p w) ∙ none_both (closed || gone || is_full d.game)

-- WHERE THE CALL STAYS

wait_none : (d : Desk) → d.hint ≡ None → call_while_waiting d ≡ calls.Nothing
wait_none d e =
    ap (λ (o : Option Move). cond (d.pondering && is_some (check_named ponder_name (table d))) (call_for_hint d.game o) calls.Nothing) e
    ∙ none_both (d.pondering && is_some (check_named ponder_name (table d)))

in_boots : (d : Desk) (m : Mode) → d.hint ≡ None → call_in (record d { booted = true; due = false; early = [] }) m ≡ call_in d m
in_boots d modes.Force e = refl
in_boots d modes.Over e = refl
in_boots d modes.Analyse e = refl
in_boots d (modes.Plays s) e =
    ap (λ (c : Call). cond (has_ended d.game) calls.Nothing (cond (same_side s (on_move d.game)) calls.Move c))
    (wait_none (record d { booted = true; due = false; early = [] }) e ∙ sym (wait_none d e))

boots_call : (closed gone : Bool) (d : Desk) → d.hint ≡ None → call_of_desk closed gone (record d { booted = true; due = false; early = [] }) ≡ call_of_desk closed gone d
unfolding call_of_desk
boots_call closed gone d e = ap (λ (c : Call). cond (closed || gone || is_full d.game) calls.Nothing c) (in_boots d d.mode e)

unbooted_call : (closed gone : Bool) (d : Desk) (os : List OptionSetting) → d.booted ≡ false → call_of_desk closed gone (record d { options = os }) ≡ call_of_desk closed gone d
unfolding call_of_desk
unbooted_call closed gone d os e =
    ap (λ (b : Bool). call_of_desk closed gone (record d { booted = b; options = os })) e
    ∙ ap (λ (b : Bool). call_of_desk closed gone (record d { booted = b })) (sym e)

owed_move : (spent : Bool) (c : Call) → not (is_move (owed_at spent c)) ≡ false → is_move c ≡ true
owed_move true c e = cc
owed_move false c e = not_false (is_move c) e where
  not_false : (b : Bool) → not b ≡ false → b ≡ true
  not_false true e = refl
  not_false false e = cc

-- `hard` and `easy` while a Move is owed
shown_call : (h : Situation) (b : Bool) → not (owes_move h) ≡ false → call_of_desk h.closed (is_gone h.engine) (record h.desk { pondering = b }) ≡ call_before h
shown_call h b r =
    let x = owed_move h.spent (call_before h) r in
    is_move_call _ (call_is h.closed (is_gone h.engine) (record h.desk { pondering = b }) ∙ sym (call_is h.closed (is_gone h.engine) h.desk) ∙ x)
    ∙ sym (is_move_call (call_before h) x)

line_call : (h : Situation) (m : IfaceMsg) → is_epoch_line (owes_move h) (asks (is_gone h.engine) h.desk m) m ≡ false → call_of_desk h.closed (is_gone h.engine) (change (is_boot h.engine) h.desk m) ≡ call_before h
unfolding change is_epoch_line call_of_desk
line_call h says.Hard r = shown_call h true r
line_call h says.Easy r = shown_call h false r
line_call h m r = cc

as_gone : (c g : Bool) (d : Desk) → call_of_desk c (g || false) d ≡ call_of_desk c g d
as_gone c true d = refl
as_gone c false d = refl

-- WHAT ENDS THE CALL

abbrev ends_situation : ℕ → Engine → Effect → Bool
ends_situation epoch e d = answers_at (what_of d) epoch e || is_engine_end (what_of d)

line_ends : (epoch : ℕ) (e : Engine) (m : IfaceMsg) → ends_situation epoch e (Accepts m) ≡ false
line_ends epoch e (says.UserMove m) = refl
line_ends epoch e says.MoveNow = refl
line_ends epoch e m = refl

is_current : (k : GoKind) (b s : Bool) → IsCurrentMove (states.Search k (not b) s) → (k ≡ kinds.Move) × (b ≡ true)
is_current k true s i = (cc, refl)
is_current k false s i = absurd (cc)

current_ends : (epoch : ℕ) (e : Engine) → IsCurrentMove (forget epoch e) → answers_at (Says said.Best) epoch e ≡ true
current_ends epoch Boot i = cc
current_ends epoch Getting i = cc
current_ends epoch Idle i = cc
current_ends epoch Gone i = cc
current_ends epoch (Search k t s) i =
    let x = is_current k (t == epoch) s i in
    ap (λ (g : GoKind). answers_at (Says said.Best) epoch (Search g t s)) x.0 ∙ x.1

stale_move : (b s : Bool) → IsOther (states.Search kinds.Move (not b) s) → b ≡ false
stale_move true s i = absurd i
stale_move false s i = refl

other_ends : (epoch : ℕ) (e : Engine) → IsOther (forget epoch e) → answers_at (Says said.Best) epoch e ≡ false
other_ends epoch Boot i = refl
other_ends epoch Getting i = refl
other_ends epoch Idle i = refl
other_ends epoch Gone i = refl
other_ends epoch (Search kinds.Move t s) i = stale_move (t == epoch) s i
other_ends epoch (Search kinds.Ponder t s) i = refl
other_ends epoch (Search kinds.Analyse t s) i = refl

ended : (b : Bool) (x c : Call) → b ≡ true → x ≡ calls.Nothing → x ≡ cond b calls.Nothing c
ended true x c e n = n
ended false x c e n = cc

going : (b : Bool) (x c : Call) → b ≡ false → x ≡ c → x ≡ cond b calls.Nothing c
going true x c e n = cc
going false x c e n = n

-- the facts of Boot
abbrev pub IsFreshInBoot : State → Type 0
IsFreshInBoot s = s.dialogue.engine ≡ Boot → (s.desk.booted ≡ false) × (s.desk.hint ≡ None)

boot_back : (epoch : ℕ) (e : Engine) → is_boot (forget epoch e) ≡ true → e ≡ Boot
boot_back epoch Boot b = refl
boot_back epoch Getting b = cc
boot_back epoch Idle b = cc
boot_back epoch (Search k t s) b = cc
boot_back epoch Gone b = cc

-- the call in a step after which the session is open and which begins no epoch
module _ (s : State) (fresh : IsFreshInBoot s) where
  abbrev gone : Bool
  gone = is_gone (situation_of_state s).engine

  same_call : (d : Effect) → call_of_desk s.ends.closed gone (desk_after_effect (situation_of_state s) d) ≡ call_before (situation_of_state s) → call_of_desk s.ends.closed (gone || false) (desk_after_effect (situation_of_state s) d) ≡ call_before (situation_of_state s)
  same_call d e = as_gone s.ends.closed gone (desk_after_effect (situation_of_state s) d) ∙ e

  pub effect_call : (d : Effect) → EffectFitsDesk (situation_of_state s) s.held d → begins_epoch (situation_of_state s) d ≡ false
      → call_of_desk s.ends.closed (gone || is_death d) (desk_after_effect (situation_of_state s) d) ≡ cond (ends_situation s.dialogue.epoch s.dialogue.engine d) calls.Nothing (call_before (situation_of_state s))
  unfolding desk_after_effect
  effect_call (Accepts m) f r =
      going (ends_situation s.dialogue.epoch s.dialogue.engine (Accepts m)) (call_of_desk s.ends.closed (gone || false) (desk_after_effect (situation_of_state s) (Accepts m))) (call_before (situation_of_state s))
      (line_ends s.dialogue.epoch s.dialogue.engine m) (same_call (Accepts m) (line_call (situation_of_state s) m r))
  effect_call (Defers line) f r = same_call (Defers line) (unfold call_of_desk in refl)
  effect_call (Names text) f r = same_call (Names text) (unfold call_of_desk in refl)
  effect_call (Declares name shape) f r =
      same_call (Declares name shape) (unbooted_call s.ends.closed gone s.desk (after_declared (feature_style s.settings) s.desk.options name shape) (fresh (boot_back s.dialogue.epoch s.dialogue.engine f.1)).0)
  effect_call Boots f r = same_call Boots (boots_call s.ends.closed gone s.desk (fresh (boot_back s.dialogue.epoch s.dialogue.engine f.1)).1)
  effect_call (Thinks k facts) f r = same_call (Thinks k facts) (unfold call_of_desk in refl)
  effect_call (Shows best hint) f r = cc
  effect_call (Forfeits answer) f r =
      ended (ends_situation s.dialogue.epoch s.dialogue.engine (Forfeits answer)) (call_of_desk s.ends.closed (gone || false) (desk_after_effect (situation_of_state s) (Forfeits answer))) (call_before (situation_of_state s))
      (or-false (answers_at (Says said.Best) s.dialogue.epoch s.dialogue.engine) ∙ current_ends s.dialogue.epoch s.dialogue.engine f.1) (over_call s.ends.closed (gone || false) s.desk)
  effect_call Answers f r =
      going (ends_situation s.dialogue.epoch s.dialogue.engine Answers) (call_of_desk s.ends.closed (gone || false) (desk_after_effect (situation_of_state s) Answers)) (call_before (situation_of_state s))
      (or-false (answers_at (Says said.Best) s.dialogue.epoch s.dialogue.engine) ∙ other_ends s.dialogue.epoch s.dialogue.engine f.1) (same_call Answers refl)
  effect_call Dies f r = gone_call s.ends.closed gone (desk_after_effect (situation_of_state s) Dies)
  effect_call d f r = same_call d refl
