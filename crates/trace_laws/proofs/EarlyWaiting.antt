-- Early lines wait only in Boot, and each of them sets an option.
use Rattle.std.proofs.Common.{◌≡◌, ◌≢◌, ℕ, List, [], ◌∷◌, ◌++◌, map, Bool, true, false, cond, ◌&&◌, Option, Some, None, Result, Ok, Err, append-nil, refl, sym, ap, subst, ◌∙◌}
use Rattle.std.specs.List.{AllByRecursion}
use Rattle.std.proofs.lemmas.Bool.{both_ways, and_parts}
use Rattle.line_io.specs.Event.{Event}
use Rattle.line_io.specs.Event as events
use Rattle.chess_board.specs.declared.board.Move.{Move}
use Rattle.chess_board.specs.Place.{legal}
use Rattle.protocol_tokens.specs.declared.kinds.GoKind.{GoKind}
use Rattle.protocol_tokens.specs.declared.kinds.GoKind.TheVariants as kinds
use Rattle.fen_text.specs.Fen.{position_of}
use Rattle.cecp_lines.specs.Messages.{IfaceMsg}
use Rattle.cecp_lines.specs.Messages as says
use Rattle.cecp_lines.specs.Reading.{message_or_fault}
use Rattle.cecp_lines.specs.declared.iface.IfaceFault.{IfaceFault}
use Rattle.cecp_lines.specs.declared.iface.IfaceFault.TheVariants as faults
use Rattle.uci_lines.specs.Info.{Info}
use Rattle.uci_lines.specs.Messages.{EngineMsg}
use Rattle.uci_lines.specs.Messages as hears
use Rattle.uci_lines.specs.Engine.{answer_text, engine_message}
use Rattle.uci_lines.specs.Orders.{Order}
use Rattle.game_record.specs.Game.{Game, current_position}
use Rattle.policy_rules.specs.declared.setting_rules.settings.Settings.{Settings}
use Rattle.search_epochs.specs.declared.words.EngineState.{EngineState}
use Rattle.search_epochs.specs.declared.words.EngineState.TheVariants as states
use Rattle.search_epochs.specs.Tickets as talks
use Rattle.search_epochs.specs.Tickets.{Engine, Word, MaySendAll, engine_after_heard, said_of_event, sent_all}
use Rattle.search_epochs.specs.Dialogue.{forget}
use Rattle.desk_rules.specs.declared.effect.Refusal.{Refusal}
use Rattle.desk_rules.specs.declared.desk.Desk.{Desk}
use Rattle.desk_rules.specs.Desk.{Situation, is_boot, is_getting, is_gone, current}
use Rattle.desk_rules.specs.Early.{is_setting, may_wait}
use Rattle.desk_rules.specs.Lines.{line_verdict, verdict_on, early_verdict, refusal, is_early, desk_at_position, change}
use Rattle.desk_rules.specs.Steps.{Effect, Nothing, Opens, Accepts, Defers, Names, Declares, Boots, Readies, Shows, Forfeits, Dies, classify, line_effect, engine_says, search_reports, answers, shows, what_of, desk_after_effect, is_boots, is_death}
use Rattle.desk_rules.specs.Orders.{dialogue_word_of}
use Rattle.desk_rules.specs.Fits.{EffectFitsDesk}
use Rattle.adapter_core.specs.Ends.{is_open}
use Rattle.adapter_core.specs.Trace.{State, Step, IsLawfulStep, LawfulTrace, state, trace_state_after, situation_of_state, effect, mid, closed_after}
use Rattle.adapter_core.proofs.Closing.{open_before}
use Rattle.adapter_core.proofs.Ended.{quiet_line}
use Rattle.adapter_core.proofs.Traces.{Lasts, lasts, fits}
use Rattle.trace_laws.specs.EarlyLines.{EarlyLinesWait, deferred, early_lines}
use Rattle.trace_laws.specs.Wire.{Boot, on_wire}
use Rattle.trace_laws.proofs.Heard.{engine_on_wire}
use Rattle.trace_laws.proofs.Resigning.{settings_stay}
use Rattle.trace_laws.proofs.Steadily.{boot_mid, boot_before}

-- WHAT IS DEFERRED

abbrev defers : Effect → Bool
defers (Defers line) = true
defers d = false

never_where : (b : Bool) (d : Effect) → defers d ≡ false → defers (cond b d Nothing) ≡ false
never_where true d e = e
never_where false d e = refl

never_unless : (b : Bool) (d : Effect) → defers d ≡ false → defers (cond b Nothing d) ≡ false
never_unless true d e = refl
never_unless false d e = e

shows_never : (g : Game) (line : List ℕ) (best hint : Option Move) → defers (shows g line best hint) ≡ false
shows_never g line None hint = refl
shows_never g line (Some m) hint = by (legal (current_position g) m) where
  by : (b : Bool) → defers (cond b (Shows m hint) (Forfeits (answer_text line))) ≡ false
  by true = refl
  by false = refl

answers_never : (x : EngineState) (g : Game) (line : List ℕ) (best hint : Option Move) → defers (answers x g line best hint) ≡ false
answers_never (states.Search kinds.Move false stopped) g line best hint = shows_never g line best hint
answers_never x g line best hint = refl

thinks_never : (k : Option GoKind) (facts : Info) → defers (search_reports k facts) ≡ false
thinks_never None facts = refl
thinks_never (Some k) facts = refl

says_never : (h : Situation) (line : List ℕ) (m : EngineMsg) → defers (engine_says h line m) ≡ false
says_never h line (hears.Best best hint) = answers_never h.engine h.desk.game line best hint
says_never h line (hears.Name text) = never_where (is_boot h.engine) (Names text) refl
says_never h line (hears.OptionLine name shape) = never_where (is_boot h.engine) (Declares name shape) refl
says_never h line hears.UciOk = never_where (is_boot h.engine) Boots refl
says_never h line hears.ReadyOk = never_where (is_getting h.engine) Readies refl
says_never h line (hears.Info facts) = thinks_never (current h.engine) facts
says_never h line hears.Nothing = refl

-- a line that sets an option
pub record Sets (line : List ℕ) : Type 0 where
  pub message : IfaceMsg
  pub reads : message_or_fault line ≡ Ok message
  pub sets : is_setting message ≡ true

-- a line that is deferred
record IsDeferral (h : Situation) (line : List ℕ) : Type 0 where
  sets : Sets line
  on : h.settings.early_settings ≡ true

text_is : (a b : List ℕ) → Defers a ≡ Defers b → a ≡ b
text_is a b e = cc

judged_never : (m : IfaceMsg) (r : Option Refusal) (text : List ℕ) → defers (line_effect (verdict_on m r) text) ≡ false
judged_never m None text = refl
judged_never m (Some r) text = refl

module _ (h : Situation) (held : List Order) (text line : List ℕ) where
  by_early : (m : IfaceMsg) → message_or_fault text ≡ Ok m → (b w : Bool) → is_early h m ≡ b → line_effect (cond b (early_verdict w) (verdict_on m (refusal h held m))) text ≡ Defers line → IsDeferral h line
  by_early m r true true e x =
      let same = text_is text line x in
      let first = and_parts (is_setting m && is_boot h.engine) h.settings.early_settings e in
      record {
        sets = record { message = m; reads = ap message_or_fault (sym same) ∙ r; sets = (and_parts (is_setting m) (is_boot h.engine) first.0).0 };
        on = first.1;
      }
  by_early m r true false e x = absurd (cc)
  by_early m r false w e x = let n = judged_never m (refusal h held m) text in let y = ap defers x in absurd (cc)

  by_reading : (r : Result IfaceMsg IfaceFault) → message_or_fault text ≡ r → line_effect (line_verdict h held text r) text ≡ Defers line → IsDeferral h line
  unfolding line_verdict
  by_reading (Err faults.UnknownCommand) e x = absurd (cc)
  by_reading (Err faults.BadArgument) e x = absurd (cc)
  by_reading (Ok m) e x = by_early m e (is_early h m) (may_wait h.desk.early text) refl x

  by_closed : (b : Bool) → cond b Nothing (line_effect (line_verdict h held text (message_or_fault text)) text) ≡ Defers line → IsDeferral h line
  by_closed true x = absurd (cc)
  by_closed false x = by_reading (message_or_fault text) refl x

never : (line : List ℕ) (d : Effect) → defers d ≡ false → d ≡ Defers line → ⊥
never line d n e = let y = ap defers e in cc

deferral : (h : Situation) (held : List Order) (e : Event) (line : List ℕ) → classify h held e ≡ Defers line → IsDeferral h line
unfolding classify
deferral h held (events.Iface text) line x = by_closed h held text line h.closed x
deferral h held (events.Engine text) line x = absurd (never line (cond h.closed Nothing (engine_says h text (engine_message text))) (never_unless h.closed (engine_says h text (engine_message text)) (says_never h text (engine_message text))) x)
deferral h held events.IfaceLong line x = absurd (never line _ (never_unless h.closed _ refl) x)
deferral h held events.EngineEnd line x = absurd (never line _ (never_unless (is_gone h.engine) Dies refl) x)
deferral h held events.EngineLost line x = absurd (never line _ (never_unless (is_gone h.engine) Dies refl) x)
deferral h held e line x = absurd (cc)

-- WHAT WAITS AFTER AN EFFECT

-- by the lines that waited
abbrev early_by : Effect → List (List ℕ) → List (List ℕ)
early_by (Defers line) early = early ++ line ∷ []
early_by Boots early = []
early_by Dies early = []
early_by d early = early

placed_early : (d : Desk) (r : _) → (desk_at_position d r).early ≡ d.early
placed_early d (Ok p) = refl
placed_early d (Err fault) = refl

line_early : (boot : Bool) (d : Desk) (m : IfaceMsg) → (change boot d m).early ≡ d.early
unfolding change
line_early boot d (says.SetBoard text) = placed_early d (position_of text)
line_early boot d m = refl

early_is : (h : Situation) (d : Effect) → (desk_after_effect h d).early ≡ early_by d h.desk.early
unfolding desk_after_effect
early_is h (Accepts m) = line_early (is_boot h.engine) h.desk m
early_is h d = refl

-- THE BOOT GOES ON

boot_heard : (d : Effect) → is_boots d ≡ false → is_death d ≡ false → engine_after_heard talks.Boot (said_of_event (what_of d)) ≡ talks.Boot
boot_heard (Accepts m) b x = ap (engine_after_heard talks.Boot) (quiet_line m)
boot_heard Boots b x = cc
boot_heard Dies b x = cc
boot_heard d b x = refl

boot_sent : (n : ℕ) (ws : List Word) → MaySendAll n talks.Boot ws → sent_all n talks.Boot ws ≡ talks.Boot
boot_sent n [] a = refl
boot_sent n (talks.Uci ∷ ws) a = absurd a.0
boot_sent n (talks.Stop ∷ ws) a = absurd a.0
boot_sent n (talks.PonderHit ∷ ws) a = absurd a.0
boot_sent n (talks.Quit ∷ ws) a = boot_sent n ws a.1
boot_sent n (w ∷ ws) a = let e = a.0 in absurd (cc)

pub boot_back : (epoch : ℕ) (e : Engine) → is_boot (forget epoch e) ≡ true → e ≡ talks.Boot
boot_back epoch talks.Boot b = refl
boot_back epoch talks.Getting b = cc
boot_back epoch talks.Idle b = cc
boot_back epoch (talks.Search k t s) b = cc
boot_back epoch talks.Gone b = cc

module _ (s : State) (step : Step) (l : IsLawfulStep s step) where
  -- the engine still boots, where nothing ends the boot
  boots_on : s.dialogue.engine ≡ talks.Boot → closed_after s step.event ≡ false → is_boots (effect s step.event) ≡ false → is_death (effect s step.event) ≡ false
      → (trace_state_after s step).dialogue.engine ≡ talks.Boot
  boots_on b c n x =
      let m = mid s step.event in
      let heard : m.engine ≡ talks.Boot = ap (λ (e : Engine). engine_after_heard e (said_of_event (what_of (effect s step.event)))) b ∙ boot_heard (effect s step.event) n x in
      ap (λ (e : Engine). sent_all m.epoch e (map dialogue_word_of step.orders)) heard ∙ by (is_open step.event) refl heard
    where
      by : (o : Bool) → is_open step.event ≡ o → (mid s step.event).engine ≡ talks.Boot → sent_all (mid s step.event).epoch talks.Boot (map dialogue_word_of step.orders) ≡ talks.Boot
      by true o heard = ap (λ (os : List Order). sent_all (mid s step.event).epoch talks.Boot (map dialogue_word_of os)) (l.opens o)
      by false o heard =
          boot_sent (mid s step.event).epoch (map dialogue_word_of step.orders)
          (subst (λ (e : Engine). MaySendAll (mid s step.event).epoch e (map dialogue_word_of step.orders)) heard (l.settled o c).words.may_send)

-- STEP BY STEP

-- the lines that wait are settings, and wait only in Boot
pub record Waits (s : State) : Type 0 where
  pub sets : AllByRecursion Sets s.desk.early
  left : s.dialogue.engine ≢ talks.Boot → s.desk.early ≡ []
  closed : s.ends.closed ≡ true → s.desk.early ≡ []
  off : s.settings.early_settings ≡ false → s.desk.early ≡ []

more_sets : (lines : List (List ℕ)) (line : List ℕ) → AllByRecursion Sets lines → Sets line → AllByRecursion Sets (lines ++ line ∷ [])
more_sets [] line a x = (x, tt)
more_sets (other ∷ lines) line a x = (a.0, more_sets lines line a.1 x)

module _ (s : State) (step : Step) (last : Lasts s) (l : IsLawfulStep s step) (w : Waits s) where
  abbrev next : State
  next = trace_state_after s step

  abbrev now : Effect
  now = effect s step.event

  next_early : (c : Bool) → closed_after s step.event ≡ c → (d : Effect) → now ≡ d → next.desk.early ≡ cond c [] (early_by d s.desk.early)
  next_early c x d y = ap (λ (b : Bool). cond b [] (desk_after_effect (situation_of_state s) now).early) x ∙ ap (λ (lines : List (List ℕ)). cond c [] lines) (early_is (situation_of_state s) now ∙ ap (λ (z : Effect). early_by z s.desk.early) y)

  sets_after : (d : Effect) → now ≡ d → AllByRecursion Sets (early_by d s.desk.early)
  sets_after (Defers line) y = more_sets s.desk.early line w.sets (deferral (situation_of_state s) s.held step.event line y).sets
  sets_after Boots y = tt
  sets_after Dies y = tt
  sets_after d y = w.sets

  off_after : (d : Effect) → now ≡ d → s.settings.early_settings ≡ false → early_by d s.desk.early ≡ []
  off_after (Defers line) y o = absurd (both_ways s.settings.early_settings o (deferral (situation_of_state s) s.held step.event line y).on)
  off_after Boots y o = refl
  off_after Dies y o = refl
  off_after d y o = w.off o

  -- what does not end the boot
  goes_on : (d : Effect) → now ≡ d → is_boots d ≡ false → is_death d ≡ false → closed_after s step.event ≡ false → next.dialogue.engine ≢ talks.Boot → s.dialogue.engine ≢ talks.Boot
  goes_on d y b x c n e = n (boots_on s step l e c (ap is_boots y ∙ b) (ap is_death y ∙ x))

  left_after : (d : Effect) → now ≡ d → closed_after s step.event ≡ false → next.dialogue.engine ≢ talks.Boot → early_by d s.desk.early ≡ []
  left_after (Defers line) y c n =
      let f = subst (EffectFitsDesk (situation_of_state s) s.held) y (fits s step last l) in
      absurd (goes_on (Defers line) y refl refl c n (boot_back s.dialogue.epoch s.dialogue.engine f.in_boot))
  left_after Boots y c n = refl
  left_after Dies y c n = refl
  left_after d y c n = w.left (goes_on d y refl refl c n)

  waits_on : Waits next
  waits_on = by (closed_after s step.event) refl where
    by : (c : Bool) → closed_after s step.event ≡ c → Waits next
    by true c = record {
      sets = subst (AllByRecursion Sets) (sym (next_early true c now refl)) tt;
      left = λ n. next_early true c now refl;
      closed = λ x. next_early true c now refl;
      off = λ x. next_early true c now refl;
    }
    by false c = record {
      sets = subst (AllByRecursion Sets) (sym (next_early false c now refl)) (sets_after now refl);
      left = λ n. next_early false c now refl ∙ left_after now refl c n;
      closed = λ x. absurd (both_ways (closed_after s step.event) c x);
      off = λ x. next_early false c now refl ∙ off_after now refl x;
    }

-- while Boot is not left, a line that is deferred joins those that wait
joins : (d : Effect) (early : List (List ℕ)) → engine_after_heard talks.Boot (said_of_event (what_of d)) ≡ talks.Boot → early_by d early ≡ early ++ deferred d
joins (Defers line) early x = refl
joins Boots early x = cc
joins Dies early x = cc
joins d early x = sym (append-nil early)

opens : (h : Situation) (held : List Order) (e : Event) → is_open e ≡ true → classify h held e ≡ Opens
unfolding classify
opens h held events.Open o = refl
opens h held e o = cc

module _ (s : State) (step : Step) (last : Lasts s) (l : IsLawfulStep s step) (booting : (trace_state_after s step).dialogue.engine ≡ talks.Boot) where
  joined : early_by (effect s step.event) s.desk.early ≡ s.desk.early ++ deferred (effect s step.event)
  joined = by (is_open step.event) refl where
    by : (b : Bool) → is_open step.event ≡ b → early_by (effect s step.event) s.desk.early ≡ s.desk.early ++ deferred (effect s step.event)
    by true o =
        let e = opens (situation_of_state s) s.held step.event o in
        ap (λ (d : Effect). early_by d s.desk.early) e ∙ sym (append-nil s.desk.early) ∙ ap (λ (d : Effect). s.desk.early ++ deferred d) (sym e)
    by false o =
        joins (effect s step.event) s.desk.early
        (ap (λ (e : Engine). engine_after_heard e (said_of_event (what_of (effect s step.event)))) (sym (boot_before s step last l booting)) ∙ boot_mid s step last l o booting)

  wait_on : (lines : List (List ℕ)) → Waits s → closed_after s step.event ≡ false → (s.dialogue.engine ≡ talks.Boot → s.ends.closed ≡ false → s.desk.early ≡ lines)
      → (trace_state_after s step).desk.early ≡ lines ++ deferred (effect s step.event)
  wait_on lines w c f =
      next_early s step last l w false c (effect s step.event) refl ∙ joined
      ∙ ap (λ (ls : List (List ℕ)). ls ++ deferred (effect s step.event)) (f (boot_before s step last l booting) (open_before s.ends step.event c))

-- EACH TRACE

pub waits : (o : Settings) (t : List Step) → LawfulTrace o t → Waits (state o t)
waits o [] l = record { sets = tt; left = λ n. refl; closed = λ c. refl; off = λ x. refl }
waits o (step ∷ t) l = waits_on (state o t) step (lasts o t l.0) l.1 (waits o t l.0)

boot_is : (e : Engine) → on_wire e ≡ Boot → e ≡ talks.Boot
boot_is talks.Boot x = refl
boot_is talks.Getting x = cc
boot_is talks.Idle x = cc
boot_is (talks.Search k t s) x = cc
boot_is talks.Gone x = cc

all_wait : (o : Settings) (t : List Step) → LawfulTrace o t → (state o t).dialogue.engine ≡ talks.Boot → (state o t).ends.closed ≡ false → (state o t).desk.early ≡ early_lines o t
all_wait o [] l b c = refl
all_wait o (step ∷ t) l b c = wait_on (state o t) step (lasts o t l.0) l.1 b (early_lines o t) (waits o t l.0) c (all_wait o t l.0)

pub early_wait : (o : Settings) → EarlyLinesWait o
early_wait o t l =
    let w = waits o t l in
    record {
      wait = λ b c. all_wait o t l (boot_is (state o t).dialogue.engine (engine_on_wire o t ∙ b)) c;
      left = λ n. w.left (λ e. n (sym (engine_on_wire o t) ∙ ap on_wire e));
      closed = w.closed;
      off = λ x. w.off (ap (λ (y : Settings). y.early_settings) (settings_stay o t) ∙ x);
    }
