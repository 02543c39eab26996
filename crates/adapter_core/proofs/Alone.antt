-- The commands of the interface do not depend on when the engine speaks.
use Rattle.std.proofs.Common.{◌≡◌, ℕ, List, [], ◌∷◌, ◌++◌, map, Bool, true, false, not, cond, ◌&&◌, ◌||◌, Option, Some, None, Result, Ok, Err, append-nil, refl, sym, ap, ◌∙◌}
use Rattle.std.proofs.lemmas.Bool.{or_parts, both_ways}
use Rattle.line_io.specs.Event.{Event}
use Rattle.line_io.specs.Event as events
use Rattle.cecp_lines.specs.Messages.{IfaceMsg}
use Rattle.cecp_lines.specs.Messages as says
use Rattle.cecp_lines.specs.Reading.{message_or_fault}
use Rattle.cecp_lines.specs.Replies.{Reply}
use Rattle.cecp_lines.specs.Replies as reply
use Rattle.cecp_lines.specs.declared.iface.IfaceFault.{IfaceFault}
use Rattle.cecp_lines.specs.declared.iface.IfaceFault.TheVariants as faults
use Rattle.cecp_lines.specs.declared.reply.Reason.TheVariants as reasons
use Rattle.uci_lines.specs.Orders.{Order}
use Rattle.option_map.specs.declared.declared_options.fault.OptionFault.{OptionFault}
use Rattle.option_map.specs.declared.declared_options.fault.OptionFault.TheVariants.{UnknownOption, BadValue}
use Rattle.option_map.specs.WaitingOrders.Asked.{asked}
use Rattle.policy_rules.specs.declared.setting_rules.settings.Settings.{Settings}
use Rattle.policy_rules.specs.ScoreRules.Scores.{Score, does_accept}
use Rattle.chess_board.specs.declared.board.Move.{Move}
use Rattle.search_epochs.specs.Tickets.{What, is_move, is_hint_played, ticket_ponders}
use Rattle.desk_rules.specs.declared.effect.Refusal.{Refusal}
use Rattle.desk_rules.specs.declared.effect.Refusal.TheVariants as refusals
use Rattle.desk_rules.specs.declared.desk.Desk.{Desk}
use Rattle.desk_rules.specs.Desk.{Situation, table, plays, has_ended, is_gone, is_boot, owes_move, owed_at, call_of_desk, call_before}
use Rattle.desk_rules.specs.Early.{is_setting, may_wait}
use Rattle.desk_rules.specs.Lines.{line_verdict, verdict_on, is_early, early_verdict, asks, or_else, reason_where, refused_option, does_not_fit, refusal, change}
use Rattle.desk_rules.specs.Steps.{Effect, Nothing, LongLine, Refuses, Accepts, Defers, Boots, Thinks, Shows, Forfeits, Dies, classify, line_effect, desk_after_effect, resigns_when_gone, answers_pings, is_death}
use Rattle.desk_rules.specs.Replies.{reply_row, row_accepted, result_reply_of, result_at, given_up_where, offer_where, draw_row, hint_row, repeated_thinking, replies_of}
use Rattle.desk_rules.proofs.Firsts.{no_table}
use Rattle.adapter_core.specs.Ends.{ends_after}
use Rattle.adapter_core.specs.Trace.{State, Step, IsLawfulStep, LawfulTrace, state, trace_state_after, situation_of_state, effect, turn_of_event, owed_after, closed_after, step_hits, desk_of, step_replies}
use Rattle.adapter_core.specs.Alone.{Commanded, commanded_part, Alone, lone_situation, lone_effect, lone_owes, lone_after, lone_replies, commanded_alone, is_of_iface, iface_events, is_move_answer, is_overfull, may_report_engine, IsWithoutSay, DeskIsAlone, IsApartFromEngine, RepliesAreAlone}
use Rattle.adapter_core.proofs.Fresh.{calls_move, call_is}
use Rattle.adapter_core.proofs.Traces.{Lasts, lasts, gone_is, owed_is}
use Rattle.adapter_core.proofs.Commands.{alike_changed, setting_changes, plain_option, refused_by, option_refusal, fit_refusal, refusal_is, is_full_refusal, unfilled, lone_fits}
use Rattle.adapter_core.proofs.Sides.{IsIfaceAction, iface_effect, no_death, no_answer, no_hint, no_scores, still_unbooted, IsQuietAction, quiet_desk, engine_effect, closed_same, closed_still, or_no, kept_pings, given_up, no_resigner, answered}

-- TWO THAT STAND ALIKE

-- the effects are equal, or each leaves the desk as it is and the reply tells of the engine
abbrev IsIdleAction : Effect → Type 0
IsIdleAction (Refuses r line) = Unit {0}
IsIdleAction (Accepts m) = is_setting m ≡ true
IsIdleAction (Defers line) = Unit {0}
IsIdleAction d = ⊥

data Pair (d x : Effect) : Type 0 where
  Equal : d ≡ x → Pair d x
  Idle : IsIdleAction d → IsIdleAction x → (may_report_engine d ≡ false → ⊥) → Pair d x

record Alike (o : Settings) (s : State) (a : Alone) : Type 0 where
  settings : s.settings ≡ o
  parts : commanded_part s.desk ≡ commanded_part a.desk
  closed : s.ends.closed ≡ a.ends.closed
  hint : s.desk.hint ≡ None
  scores : s.scores ≡ []
  lone_hint : a.desk.hint ≡ None
  unbooted : a.desk.booted ≡ false

idle_judged : (m : IfaceMsg) (o : Option Refusal) (line : List ℕ) → is_setting m ≡ true → IsIdleAction (line_effect (verdict_on m o) line)
idle_judged m None line p = p
idle_judged m (Some r) line p = tt

early_idle : (b w : Bool) (m : IfaceMsg) (o : Option Refusal) (line : List ℕ) → is_setting m ≡ true → IsIdleAction (line_effect (cond b (early_verdict w) (verdict_on m o)) line)
early_idle true true m o line p = tt
early_idle true false m o line p = tt
early_idle false w m o line p = idle_judged m o line p

-- what is deferred tells of the engine
early_reports : (b w : Bool) (m : IfaceMsg) (o : Option Refusal) (line : List ℕ)
    → (is_overfull (line_effect (verdict_on m o) line) ≡ false → may_report_engine (line_effect (verdict_on m o) line) ≡ false → ⊥)
    → is_overfull (line_effect (cond b (early_verdict w) (verdict_on m o)) line) ≡ false → may_report_engine (line_effect (cond b (early_verdict w) (verdict_on m o)) line) ≡ false → ⊥
early_reports true true m o line f n t = cc
early_reports true false m o line f n t = cc
early_reports false w m o line f n t = f n t

-- a line that sets no option is not early
not_early : (h : Situation) (m : IfaceMsg) → is_setting m ≡ false → is_early h m ≡ false
not_early h m p = ap (λ (b : Bool). b && is_boot h.engine && h.settings.early_settings) p

reports_setting : (m : IfaceMsg) → is_setting m ≡ true → may_report_engine (Accepts m) ≡ true
reports_setting (says.SetOption name value) p = refl
reports_setting (says.Memory n) p = refl
reports_setting (says.Cores n) p = refl
reports_setting (says.EgtPath kind path) p = refl
reports_setting m p = cc

setting_refusal : (h : Situation) (held : List Order) (m : IfaceMsg) → is_setting m ≡ true → refusal h held m ≡ or_else (option_refusal h m) (or_else (fit_refusal h held m) None)
unfolding refusal
setting_refusal h held (says.SetOption name value) p = refl
setting_refusal h held (says.Memory n) p = refl
setting_refusal h held (says.Cores n) p = refl
setting_refusal h held (says.EgtPath kind path) p = refl
setting_refusal h held m p = cc

reports_judged : (m : IfaceMsg) (a : Result (Option Order) OptionFault) (b : Bool) (line : List ℕ) → is_setting m ≡ true
    → (let d = line_effect (verdict_on m (or_else (refused_option a) (or_else (reason_where b reasons.TooManySettings) None))) line in is_overfull d ≡ false → may_report_engine d ≡ false → ⊥)
reports_judged m (Err UnknownOption) b line p n t = cc
reports_judged m (Err BadValue) b line p n t = cc
reports_judged m (Ok order) true line p n t = cc
reports_judged m (Ok order) false line p n t = both_ways (may_report_engine (Accepts m)) t (reports_setting m p)

full_effect : (m : IfaceMsg) (r : Option Refusal) (line : List ℕ) → is_overfull (line_effect (verdict_on m r) line) ≡ false → is_full_refusal r ≡ false
full_effect m None line n = refl
full_effect m (Some (refusals.Because reasons.TooManySettings)) line n = cc
full_effect m (Some r) line n = refl

closed_pair : (b c : Bool) (d x : Effect) → b ≡ c → is_overfull (cond b Nothing d) ≡ false → (is_overfull d ≡ false → Pair d x) → Pair (cond b Nothing d) (cond c Nothing x)
closed_pair true true d x e n f = Equal refl
closed_pair false false d x e n f = f n
closed_pair true false d x e n f = absurd (cc)
closed_pair false true d x e n f = absurd (cc)

owed_unspent : (b : Bool) (c : _) → (b ≡ true → is_move c ≡ false) → is_move (owed_at b c) ≡ is_move c
owed_unspent true c f = sym (f refl)
owed_unspent false c f = refl

idle_desk : (h : Situation) (d : Effect) → IsIdleAction d → commanded_part (desk_after_effect h d) ≡ commanded_part h.desk
unfolding desk_after_effect
idle_desk h (Refuses r line) i = refl
idle_desk h (Defers line) i = refl
idle_desk h (Accepts m) i = ap commanded_part (setting_changes (is_boot h.engine) h.desk m i)
idle_desk h d i = absurd i

-- THE CALL FOR A MOVE

calls_alike : (closed closed' gone gone' : Bool) (d d' : Desk) → closed ≡ closed' → gone ≡ gone' → commanded_part d ≡ commanded_part d' → is_move (call_of_desk closed gone d) ≡ is_move (call_of_desk closed' gone' d')
calls_alike closed closed' gone gone' d d' c g e =
    call_is closed gone d
    ∙ ap (λ (b : Bool). calls_move b gone d.game d.mode) c
    ∙ ap (λ (b : Bool). calls_move closed' b d.game d.mode) g
    ∙ ap (λ (x : Commanded). calls_move closed' gone' x.game x.mode) e
    ∙ sym (call_is closed' gone' d')

-- REFUSALS ALIKE

refused_alike : (o o' : Settings) (gone gone' owes owes' : Bool) (d d' : Desk) (option option' fit fit' : Option Refusal) (m : IfaceMsg) → o ≡ o' → gone ≡ gone' → owes ≡ owes' → commanded_part d ≡ commanded_part d' → option ≡ option' → fit ≡ fit'
    → refused_by o gone d.game d.mode d.pings owes option fit m ≡ refused_by o' gone' d'.game d'.mode d'.pings owes' option' fit' m
refused_alike o o' gone gone' owes owes' d d' option option' fit fit' m s g w e p f =
    ap (λ (x : Settings). refused_by x gone d.game d.mode d.pings owes option fit m) s
    ∙ ap (λ (b : Bool). refused_by o' b d.game d.mode d.pings owes option fit m) g
    ∙ ap (λ (b : Bool). refused_by o' gone' d.game d.mode d.pings b option fit m) w
    ∙ ap (λ (c : Commanded). refused_by o' gone' c.game c.mode c.pings owes' option fit m) e
    ∙ ap (λ (r : Option Refusal). refused_by o' gone' d'.game d'.mode d'.pings owes' r fit m) p
    ∙ ap (λ (r : Option Refusal). refused_by o' gone' d'.game d'.mode d'.pings owes' option' r m) f

-- NOTHING IS SHOWN AGAIN

no_ponder : (ponders wants : Bool) (w : What) (hint : Option Move) → hint ≡ None → (ponders && is_hint_played hint w && wants) ≡ false
no_ponder true wants w None e = refl
no_ponder false wants w None e = refl
no_ponder ponders wants w (Some h) e = cc

-- without a hint no `ponderhit` is written
hintless_misses : (s : State) (e : Event) → s.desk.hint ≡ None → step_hits s e ≡ false
hintless_misses s e n = no_ponder (ticket_ponders s.dialogue) (is_move (owed_after s e)) (turn_of_event s e).what s.desk.hint n

plain_replies : (closed owes : Bool) (h : Situation) (d : Effect)
    → replies_of closed owes false h d ≡ cond closed [] (reply_row h d ++ given_up_where (resigns_when_gone closed h d) h.settings (desk_after_effect h d).game ++ cond owes [] (map reply.Pong (desk_after_effect h d).pings))
plain_replies closed owes h d = plain h.settings.repeat_thinking where
  rows : List Reply
  rows = reply_row h d ++ given_up_where (resigns_when_gone closed h d) h.settings (desk_after_effect h d).game

  plain : (b : Bool) → cond closed [] (rows ++ repeated_thinking (b && false) (desk_after_effect h d).last_thinking ++ cond owes [] (map reply.Pong (desk_after_effect h d).pings))
      ≡ cond closed [] (rows ++ cond owes [] (map reply.Pong (desk_after_effect h d).pings))
  plain true = ap (λ (rs : List Reply). cond closed [] (rs ++ cond owes [] (map reply.Pong (desk_after_effect h d).pings))) (append-nil rows)
  plain false = ap (λ (rs : List Reply). cond closed [] (rs ++ cond owes [] (map reply.Pong (desk_after_effect h d).pings))) (append-nil rows)

module _ (o : Settings) (s : State) (a : Alone) (holds : Lasts s) (alike : Alike o s a) (there : is_gone (situation_of_state s).engine ≡ false) where
  abbrev h : Situation
  h = situation_of_state s

  abbrev g : Situation
  g = lone_situation o a

  abbrev held : List Order
  held = s.held

  owes_alike : owes_move h ≡ owes_move g
  owes_alike = owed_unspent h.spent (call_before h) holds.unspent ∙ calls_alike s.ends.closed a.ends.closed (is_gone h.engine) false s.desk a.desk alike.closed there alike.parts

  refusal_alike : (m : IfaceMsg) → is_setting m ≡ false → is_full_refusal (refusal h held m) ≡ false → refusal h held m ≡ refusal g [] m
  refusal_alike m p n =
      let unfit = does_not_fit held (asks (is_gone h.engine) h.desk m) in
      let is = refusal_is h held m in
      let n' : is_full_refusal (refused_by s.settings (is_gone h.engine) h.desk.game h.desk.mode h.desk.pings (owes_move h) (option_refusal h m) (fit_refusal h held m) m) ≡ false = ap is_full_refusal (sym is) ∙ n in
      is
      ∙ unfilled s.settings (is_gone h.engine) h.desk.game h.desk.mode h.desk.pings (owes_move h) (option_refusal h m) unfit m n'
      ∙ refused_alike s.settings o (is_gone h.engine) false (owes_move h) (owes_move g) s.desk a.desk (option_refusal h m) (option_refusal g m) None (fit_refusal g [] m) m alike.settings there owes_alike alike.parts
      (plain_option (table h.desk) m p ∙ sym (plain_option (table g.desk) m p))
      (ap (λ (b : Bool). reason_where b reasons.TooManySettings) (sym (lone_fits a.desk m (no_table a.desk.booted a.desk.options alike.unbooted) p)))
      ∙ sym (refusal_is g [] m)

  -- the verdict on a message, by whether it is early
  abbrev by_early : Bool → IfaceMsg → List ℕ → Effect
  by_early b m line = line_effect (cond b (early_verdict (may_wait h.desk.early line)) (verdict_on m (refusal h held m))) line

  abbrev lone_early : Bool → IfaceMsg → List ℕ → Effect
  lone_early b m line = line_effect (cond b (early_verdict (may_wait g.desk.early line)) (verdict_on m (refusal g [] m))) line

  judged_pair : (m : IfaceMsg) (line : List ℕ) (b : Bool) → is_setting m ≡ b → is_overfull (by_early (is_early h m) m line) ≡ false → Pair (by_early (is_early h m) m line) (lone_early (is_early g m) m line)
  judged_pair m line false p n =
      let here = not_early h m p in
      let full : is_overfull (line_effect (verdict_on m (refusal h held m)) line) ≡ false = ap (λ (b : Bool). is_overfull (by_early b m line)) (sym here) ∙ n in
      Equal
      (ap (λ (b : Bool). by_early b m line) here
      ∙ ap (λ (r : Option Refusal). line_effect (verdict_on m r) line) (refusal_alike m p (full_effect m (refusal h held m) line full))
      ∙ sym (ap (λ (b : Bool). lone_early b m line) (not_early g m p)))
  judged_pair m line true p n =
      let r = setting_refusal h held m p in
      Idle (early_idle (is_early h m) (may_wait h.desk.early line) m (refusal h held m) line p) (early_idle (is_early g m) (may_wait g.desk.early line) m (refusal g [] m) line p)
      (early_reports (is_early h m) (may_wait h.desk.early line) m (refusal h held m) line
      (λ f t. reports_judged m (asked (table h.desk) m) (does_not_fit held (asks (is_gone h.engine) h.desk m)) line p
      (ap (λ (x : Option Refusal). is_overfull (line_effect (verdict_on m x) line)) (sym r) ∙ f) (ap (λ (x : Option Refusal). may_report_engine (line_effect (verdict_on m x) line)) (sym r) ∙ t)) n)

  line_pair : (line : List ℕ) (r : Result IfaceMsg IfaceFault) → is_overfull (line_effect (line_verdict h held line r) line) ≡ false → Pair (line_effect (line_verdict h held line r) line) (line_effect (line_verdict g [] line r) line)
  unfolding line_verdict
  line_pair line (Err faults.UnknownCommand) n = Equal refl
  line_pair line (Err faults.BadArgument) n = Equal refl
  line_pair line (Ok m) n = judged_pair m line (is_setting m) refl n

  event_pair : (e : Event) → is_of_iface e ≡ true → is_overfull (effect s e) ≡ false → Pair (effect s e) (lone_effect o a e)
  unfolding classify
  event_pair (events.Iface line) i n = closed_pair s.ends.closed a.ends.closed _ _ alike.closed n (line_pair line (message_or_fault line))
  event_pair events.IfaceLong i n = closed_pair s.ends.closed a.ends.closed _ _ alike.closed n (λ x. Equal refl)
  event_pair events.IfaceEnd i n = Equal refl
  event_pair events.IfaceLost i n = Equal refl
  event_pair e i n = absurd (cc)

  -- THE DESK AFTER A DEED

  alike_effect : (d : Effect) → IsIfaceAction d → commanded_part (desk_after_effect h d) ≡ commanded_part (desk_after_effect g d)
  unfolding desk_after_effect
  alike_effect (Accepts m) i = alike_changed (is_boot h.engine) false s.desk a.desk m alike.parts
  alike_effect Nothing i = alike.parts
  alike_effect LongLine i = alike.parts
  alike_effect (Refuses r line) i = alike.parts
  alike_effect (Defers line) i = alike.parts
  alike_effect d i = absurd i

  pair_desk : (d x : Effect) → IsIfaceAction d → Pair d x → commanded_part (desk_after_effect h d) ≡ commanded_part (desk_after_effect g x)
  pair_desk d x i (Equal q) = alike_effect d i ∙ ap (λ (y : Effect). commanded_part (desk_after_effect g y)) q
  pair_desk d x i (Idle p q n) = idle_desk h d p ∙ alike.parts ∙ sym (idle_desk g x q)

  -- A ROW ALIKE

  result_alike : (m : IfaceMsg) → result_at (change false h.desk m) ≡ result_at (change false g.desk m)
  result_alike m = ap (λ (c : Commanded). cond (plays c.mode) (result_reply_of c.game) []) (alike_changed false false s.desk a.desk m alike.parts)

  offer_alike : draw_row h ≡ draw_row g
  offer_alike =
      ap (λ (c : Commanded). offer_where (s.settings.handle_draws && plays c.mode && not (has_ended c.game) && h.accepts)) alike.parts
      ∙ ap (λ (x : Settings). offer_where (x.handle_draws && plays a.desk.mode && not (has_ended a.desk.game) && does_accept x s.scores)) alike.settings
      ∙ ap (λ (xs : List Score). offer_where (o.handle_draws && plays a.desk.mode && not (has_ended a.desk.game) && does_accept o xs)) alike.scores

  accepted_alike : (m : IfaceMsg) → may_report_engine (Accepts m) ≡ false → row_accepted h m ≡ row_accepted g m
  unfolding row_accepted
  accepted_alike (says.Protover n) t = cc
  accepted_alike says.Dot t = cc
  accepted_alike (says.UserMove m) t = result_alike (says.UserMove m)
  accepted_alike says.Go t = result_alike says.Go
  accepted_alike says.PlayOther t = result_alike says.PlayOther
  accepted_alike says.Draw t = offer_alike
  accepted_alike says.Hint t = ap hint_row (alike.hint ∙ sym alike.lone_hint)
  accepted_alike m t = refl

  row_alike : (d : Effect) → IsIfaceAction d → may_report_engine d ≡ false → reply_row h d ≡ reply_row g d
  unfolding reply_row
  row_alike (Accepts m) i t = accepted_alike m t
  row_alike Boots i t = absurd i
  row_alike (Thinks k facts) i t = absurd i
  row_alike (Shows best hint) i t = absurd i
  row_alike (Forfeits answer) i t = absurd i
  row_alike Dies i t = absurd i
  row_alike d i t = refl

  -- THROUGH A STEP

  module _ (step : Step) (l : IsLawfulStep s step) where
    abbrev e : Event
    e = step.event

    abbrev d : Effect
    d = effect s e

    abbrev x : Effect
    x = lone_effect o a e

    abbrev owes : Bool
    owes = is_move (owed_after s e)

    abbrev closed_then : Bool
    closed_then = (ends_after a.ends e).closed

    closed_alike : closed_after s e ≡ closed_then
    closed_alike = closed_same s.ends a.ends e alike.closed

    module _ (i : is_of_iface e ≡ true) (p : Pair d x) where
      of_iface : IsIfaceAction d
      of_iface = iface_effect h held e i

      of_lone : IsIfaceAction x
      of_lone = iface_effect g [] e i

      desk_alike : commanded_part (desk_after_effect h d) ≡ commanded_part (desk_after_effect g x)
      desk_alike = pair_desk d x of_iface p

      gone_alike : (is_gone h.engine || is_death d) ≡ is_death x
      gone_alike = ap (λ (b : Bool). b || is_death d) there ∙ no_death d of_iface ∙ sym (no_death x of_lone)

      owed_alike : owes ≡ lone_owes o a e
      owed_alike = owed_is s step holds l ∙ calls_alike (closed_after s e) closed_then (is_gone h.engine || is_death d) (is_death x) (desk_after_effect h d) (desk_after_effect g x) closed_alike gone_alike desk_alike

      still_here : (is_gone h.engine || is_death d) ≡ false
      still_here = ap (λ (b : Bool). b || is_death d) there ∙ no_death d of_iface

      iface_parts : commanded_part (desk_of s e) ≡ commanded_part (lone_after o a e).desk
      iface_parts =
          ap (λ (b : Bool). answered (answers_pings (closed_after s e) owes) (given_up b (commanded_part (desk_after_effect h d))))
          (no_resigner s.settings.resign_when_gone (is_gone h.engine || is_death d) (is_move (call_of_desk (closed_after s e) false (desk_after_effect h d))) still_here)
          ∙ ap (answered (answers_pings (closed_after s e) owes)) desk_alike
          ∙ ap (λ (b : Bool). answered (answers_pings b owes) (commanded_part (desk_after_effect g x))) closed_alike
          ∙ ap (λ (b : Bool). answered (answers_pings closed_then b) (commanded_part (desk_after_effect g x))) owed_alike
          ∙ sym (ap (λ (b : Bool). answered (answers_pings closed_then (lone_owes o a e)) (given_up b (commanded_part (desk_after_effect g x))))
          (no_resigner o.resign_when_gone (is_death x) (is_move (call_of_desk closed_then false (desk_after_effect g x))) (no_death x of_lone)))

      iface_alike : Alike o (trace_state_after s step) (lone_after o a e)
      iface_alike = record {
        settings = alike.settings;
        parts = iface_parts;
        closed = closed_alike;
        hint = no_hint h d (no_answer d of_iface) alike.hint;
        scores = no_scores h d s.scores (no_answer d of_iface) alike.scores;
        lone_hint = no_hint g x (no_answer x of_lone) alike.lone_hint;
        unbooted = still_unbooted g x of_lone alike.unbooted;
      }

      equal_replies : d ≡ x → may_report_engine d ≡ false → step_replies s e ≡ lone_replies o a e
      equal_replies q t =
          ap (λ (b : Bool). replies_of (closed_after s e) owes b h d) (hintless_misses s e alike.hint)
          ∙ ap (λ (b : Bool). replies_of b owes false h d) closed_alike
          ∙ ap (λ (b : Bool). replies_of closed_then b false h d) owed_alike
          ∙ plain_replies closed_then (lone_owes o a e) h d
          ∙ ap (λ (b : Bool). cond closed_then [] (reply_row h d ++ given_up_where b h.settings (desk_after_effect h d).game ++ cond (lone_owes o a e) [] (map reply.Pong (desk_after_effect h d).pings)))
          (no_resigner s.settings.resign_when_gone (is_gone h.engine || is_death d) (is_move (call_of_desk closed_then false (desk_after_effect h d))) still_here)
          ∙ ap (λ (rows : List Reply). cond closed_then [] (rows ++ [] ++ cond (lone_owes o a e) [] (map reply.Pong (desk_after_effect h d).pings))) (row_alike d of_iface t)
          ∙ ap (λ (c : Commanded). cond closed_then [] (reply_row g d ++ [] ++ cond (lone_owes o a e) [] (map reply.Pong c.pings))) (alike_effect d of_iface)
          ∙ sym (ap (λ (b : Bool). cond closed_then [] (reply_row g d ++ given_up_where b o (desk_after_effect g d).game ++ cond (lone_owes o a e) [] (map reply.Pong (desk_after_effect g d).pings)))
          (no_resigner o.resign_when_gone (is_death d) (is_move (call_of_desk closed_then false (desk_after_effect g d))) (no_death d of_iface)))
          ∙ sym (plain_replies closed_then (lone_owes o a e) g d)
          ∙ ap (λ (y : Effect). replies_of closed_then (lone_owes o a e) false g y) q

    iface_replies : is_of_iface e ≡ true → Pair d x → may_report_engine d ≡ false → step_replies s e ≡ lone_replies o a e
    iface_replies i (Equal q) t = equal_replies i (Equal q) q t
    iface_replies i (Idle p q n) t = absurd (n t)

    module _ (i : is_of_iface e ≡ false) (n : is_move_answer d ≡ false) (m : is_death d ≡ false) where
      quiet : IsQuietAction d
      quiet = engine_effect h held e i n m

      quiet_before : closed_after s e ≡ false → owes ≡ false → s.desk.pings ≡ []
      quiet_before c w =
          holds.pings (sym (closed_still s.ends e i) ∙ c)
          (calls_alike s.ends.closed (closed_after s e) (is_gone h.engine) (is_gone h.engine || is_death d) s.desk (desk_after_effect h d)
          (sym (closed_still s.ends e i)) (sym (or_no (is_gone h.engine) (is_death d) m)) (sym (quiet_desk h d quiet))
          ∙ sym (owed_is s step holds l) ∙ w)

      engine_parts : commanded_part (desk_of s e) ≡ commanded_part s.desk
      engine_parts =
          ap (λ (b : Bool). answered (answers_pings (closed_after s e) owes) (given_up b (commanded_part (desk_after_effect h d))))
          (no_resigner s.settings.resign_when_gone (is_gone h.engine || is_death d) (is_move (call_of_desk (closed_after s e) false (desk_after_effect h d))) (or_no (is_gone h.engine) (is_death d) m ∙ there))
          ∙ ap (answered (answers_pings (closed_after s e) owes)) (quiet_desk h d quiet)
          ∙ ap (λ (ps : List ℕ). let c : Commanded = record (commanded_part s.desk) { pings = ps } in c) (kept_pings (closed_after s e) owes s.desk.pings quiet_before)

      engine_alike : Alike o (trace_state_after s step) a
      engine_alike = record {
        settings = alike.settings;
        parts = engine_parts ∙ alike.parts;
        closed = closed_still s.ends e i ∙ alike.closed;
        hint = no_hint h d n alike.hint;
        scores = no_scores h d s.scores n alike.scores;
        lone_hint = alike.lone_hint;
        unbooted = alike.unbooted;
      }

-- WHOLE TRACES

-- the engine was there before the step, and did not end in it
still_there : (o : Settings) (step : Step) (t : List Step) → LawfulTrace o (step ∷ t) → is_gone (situation_of_state (state o (step ∷ t))).engine ≡ false
    → (is_gone (situation_of_state (state o t)).engine ≡ false) × (is_death (effect (state o t) step.event) ≡ false)
still_there o step t l g =
    let s = state o t in
    or_parts (is_gone (situation_of_state s).engine) (is_death (effect s step.event)) (sym (gone_is s step (lasts o t l.0) l.1) ∙ g)

before : (o : Settings) (step : Step) (t : List Step) → LawfulTrace o (step ∷ t) → IsWithoutSay o (step ∷ t) → IsWithoutSay o t
before o step t l w = record { unanswered = w.unanswered.0; there = (still_there o step t l w.there).0 }

all_alike : (o : Settings) (t : List Step) → LawfulTrace o t → IsWithoutSay o t → Alike o (state o t) (commanded_alone o (iface_events t))
all_alike o [] l w = record { settings = refl; parts = refl; closed = refl; hint = refl; scores = refl; lone_hint = refl; unbooted = refl }
all_alike o (step ∷ t) l w = by_side (all_alike o t l.0 (before o step t l w)) (is_of_iface step.event) refl where
  by_side : Alike o (state o t) (commanded_alone o (iface_events t)) → (b : Bool) → is_of_iface step.event ≡ b → Alike o (state o (step ∷ t)) (commanded_alone o (cond b (step.event ∷ iface_events t) (iface_events t)))
  by_side a true i =
      let s = state o t in
      let holds = lasts o t l.0 in
      let there = (still_there o step t l w.there).0 in
      iface_alike o s (commanded_alone o (iface_events t)) holds a there step l.1 i (event_pair o s (commanded_alone o (iface_events t)) holds a there step.event i w.unanswered.2)
  by_side a false i =
      let still = still_there o step t l w.there in
      engine_alike o (state o t) (commanded_alone o (iface_events t)) (lasts o t l.0) a still.0 step l.1 i w.unanswered.1 still.1

pub desk_is_alone : (o : Settings) → DeskIsAlone o
desk_is_alone o t l w = (all_alike o t l w).parts

pub apart_from_engine : (o : Settings) → IsApartFromEngine o
apart_from_engine o t t' l l' w w' e = desk_is_alone o t l w ∙ ap (λ (es : List Event). commanded_part (commanded_alone o es).desk) e ∙ sym (desk_is_alone o t' l' w')

pub replies_are_alone : (o : Settings) → RepliesAreAlone o
replies_are_alone o step t l w i n =
    let s = state o t in
    let a = commanded_alone o (iface_events t) in
    let holds = lasts o t l.0 in
    let there = (still_there o step t l w.there).0 in
    let alike = all_alike o t l.0 (before o step t l w) in
    l.1.replies ∙ iface_replies o s a holds alike there step l.1 i (event_pair o s a holds alike there step.event i w.unanswered.2) n
