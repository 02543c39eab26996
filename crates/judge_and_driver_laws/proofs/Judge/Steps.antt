-- The marks of one step.
use Rattle.std.proofs.Common.{◌≡◌, ℕ, List, [], ◌∷◌, ◌++◌, map, Bool, true, false, Option, Some, refl, sym, ap, subst, ◌∙◌}
use Rattle.std.specs.Prelude.{Contains}
use Rattle.std.proofs.lemmas.List.Elements.{Contains-append_left, Contains-push}
use Rattle.line_io.specs.Event.{Event}
use Rattle.line_io.specs.Event as events
use Rattle.script_lines.specs.Marks.{Mark, Happens}
use Rattle.chess_board.specs.declared.board.Move.{Move}
use Rattle.chess_board.specs.Place.{legal}
use Rattle.chess_board.specs.Position.{Position as Place}
use Rattle.protocol_tokens.specs.declared.kinds.GoKind.{GoKind}
use Rattle.protocol_tokens.specs.declared.kinds.GoKind.TheVariants as kinds
use Rattle.cecp_lines.specs.Replies.{Reply}
use Rattle.cecp_lines.specs.Replies as cecp
use Rattle.uci_lines.specs.Orders.{Order}
use Rattle.uci_lines.specs.Orders as orders
use Rattle.game_record.specs.Game.{current_position}
use Rattle.policy_rules.specs.declared.setting_rules.settings.Settings.{Settings}
use Rattle.search_epochs.specs.Tickets as talks
use Rattle.search_epochs.specs.Tickets.{Engine, Ticketed, engine_after_heard, sent_all, is_move}
use Rattle.search_epochs.specs.Dialogue.{forget}
use Rattle.desk_rules.specs.Desk.{Situation, is_gone}
use Rattle.desk_rules.specs.Steps.{Effect, Shows, classify, searched_by}
use Rattle.desk_rules.specs.Orders.{dialogue_word_of}
use Rattle.desk_rules.specs.Replies.{replies_of, reply_row}
use Rattle.adapter_core.specs.Ends.{is_open}
use Rattle.adapter_core.specs.Trace.{State, Step, LawfulTrace, state, trace_state_after, situation_of_state, effect, mid, owed_after, closed_after, step_hits, is_gone_after, closing_step_orders}
use Rattle.adapter_core.specs.Shown.{AnswersWithMove, moves_shown}
use Rattle.adapter_core.proofs.Closing.{open_before, closed_stays}
use Rattle.adapter_core.proofs.Shown.{shown_by, open_shows, shown as shown_in_time}
use Rattle.adapter_core.proofs.Traces.{Lasts, lasts, gone_is}
use Rattle.trace_laws.specs.Wire.{said_by_step}
use Rattle.trace_laws.proofs.Heard as hearing
use Rattle.session_judge.specs.declared.dialogue_event.OrderKind.TheVariants as hears
use Rattle.session_judge.specs.declared.dialogue_event.DialogueEvent.TheVariants as dialogue_events
use Rattle.session_judge.specs.declared.talk.HeardAnswer.{HeardAnswer}
use Rattle.session_judge.specs.declared.engine.EnginePhase.{EnginePhase as Wire}
use Rattle.session_judge.specs.declared.engine.EnginePhase.TheVariants as wires
use Rattle.session_judge.specs.declared.talk.OrderStage.TheVariants as stages
use Rattle.session_judge.specs.declared.talk.JudgedTalk.{JudgedTalk}
use Rattle.session_judge.specs.DialogueEvents.{dialogue_event_of, answer_as_shown}
use Rattle.session_judge.specs.Engines.{event_unless_gone}
use Rattle.session_judge.specs.Talks.{judgement_after, answer_after}
use Rattle.judge_and_driver_laws.specs.Judge.Logs.{OpenSearchIsAt, event_marks, iface_mark, engine_mark, marks_of_log_step}
use Rattle.judge_and_driver_laws.proofs.Judge.Runs.{Runs, more_runs, both_run, first_runs}
use Rattle.judge_and_driver_laws.proofs.Judge.Texts.{order_action}
use Rattle.judge_and_driver_laws.proofs.Judge.Writes.{Is, Shows as Told, Agrees, quit_runs}
use Rattle.judge_and_driver_laws.proofs.Judge.Hears.{event_runs, event_agrees, quiet_runs, still_agrees, answered, move_runs}

-- THE PARTS OF A STEP

-- the event, then the replies, then the orders
pub parts_run : (t : JudgedTalk) (step : Step) (A B P : JudgedTalk → Type 0)
    → Runs t (event_marks step.event) A
    → ((u : JudgedTalk) → A u → Runs u (map iface_mark step.replies) B)
    → ((u : JudgedTalk) → B u → Runs u (map engine_mark step.orders) P)
    → Runs t (marks_of_log_step step) P
parts_run t step A B P e r o =
    let others = map iface_mark step.replies ++ map engine_mark step.orders in
    both_run t (event_marks step.event) others P (more_runs t (event_marks step.event) A (λ u. Runs u others P) e (λ u a.
    both_run u (map iface_mark step.replies) (map engine_mark step.orders) P (more_runs u (map iface_mark step.replies) B (λ v. Runs v (map engine_mark step.orders) P) (r u a) o)
    ))

-- WHAT IS SHOWN

no_moves : (closed owes hits : Bool) (h : Situation) (d : Effect) → closed ≡ true → moves_shown (replies_of closed owes hits h d) ≡ []
no_moves true owes hits h d e = refl
no_moves false owes hits h d e = cc

open_moves : (closed owes hits : Bool) (h : Situation) (d : Effect) → closed ≡ false → moves_shown (replies_of closed owes hits h d) ≡ shown_by d
open_moves true owes hits h d e = cc
open_moves false owes hits h d e = open_shows owes hits h d

reports_first : (closed owes hits : Bool) (h : Situation) (best : Move) (hint : Option Move) → closed ≡ false → Contains (replies_of closed owes hits h (Shows best hint)) (cecp.Move best)
unfolding reply_row
reports_first true owes hits h best hint e = cc
reports_first false owes hits h best hint e = Contains-append_left (cecp.Move best ∷ []) _ (cecp.Move best) (Contains-push [] (cecp.Move best))

-- an effect shows a move, or none
data IsShown (d : Effect) : Type 0 where
  It : (best : Move) (hint : Option Move) → d ≡ Shows best hint → IsShown d
  Quiet : shown_by d ≡ [] → IsShown d

is_shown : (d : Effect) → IsShown d
is_shown (Shows best hint) = IsShown.It best hint refl
is_shown d = IsShown.Quiet refl

-- Open shows none
opens_quiet : (h : Situation) (held : List Order) (e : Event) → is_open e ≡ true → shown_by (classify h held e) ≡ []
unfolding classify
opens_quiet h held events.Open x = refl
opens_quiet h held e x = cc

module _ (o : Settings) (step : Step) (trace : List Step) (l : LawfulTrace o (step ∷ trace)) where
  abbrev s : State
  s = state o trace

  abbrev ev : Event
  ev = step.event

  abbrev h : Situation
  h = situation_of_state s

  abbrev d : Effect
  d = effect s ev

  abbrev m : Ticketed
  m = mid s ev

  abbrev hits : Bool
  hits = step_hits s ev

  pub last : Lasts s
  last = lasts o trace l.0

  -- THE EVENT

  pub heard_event : s.ends.closed ≡ false → engine_after_heard s.dialogue.engine (said_by_step false ev) ≡ m.engine
  heard_event c = ap (λ b. engine_after_heard s.dialogue.engine (said_by_step b ev)) (sym c) ∙ sym (hearing.event_heard s ev)

  pub shown_moves : closed_after s ev ≡ false → moves_shown step.replies ≡ shown_by d
  shown_moves c = ap moves_shown l.1.replies ∙ open_moves (closed_after s ev) (is_move (owed_after s ev)) hits h d c

  pub shown_none : closed_after s ev ≡ true → moves_shown step.replies ≡ []
  shown_none c = ap moves_shown l.1.replies ∙ no_moves (closed_after s ev) (is_move (owed_after s ev)) hits h d c

  -- the facts once the event was heard
  record Heard (t u : JudgedTalk) (p : Place) : Type 0 where
    agrees : Agrees u m.engine p
    answer : u.answer ≡ answer_after t.engine t.placed t.answer (event_unless_gone (dialogue_event_of (Happens ev)) t.gone)

  event_known : (t : JudgedTalk) (p : Place) → is_open ev ≡ false → s.ends.closed ≡ false → Agrees t s.dialogue.engine p → Runs t (event_marks ev) (λ u. Heard t u p)
  event_known t p n c a =
      event_runs t ev (λ u. Heard t u p) n (λ line. record {
        agrees = subst (λ (x : Engine). Agrees (judgement_after t line (dialogue_event_of (Happens ev))) x p) (heard_event c) (event_agrees t s.dialogue.engine p ev line a);
        answer = refl;
      })

  -- the answer that is heard before a move is shown
  shown_answer : (t u : JudgedTalk) (p : Place) (best : Move) (hint : Option Move) → closed_after s ev ≡ false → d ≡ Shows best hint → Agrees t s.dialogue.engine p
      → u.answer ≡ answer_after t.engine t.placed t.answer (event_unless_gone (dialogue_event_of (Happens ev)) t.gone) → AnswersWithMove s ev best → u.answer ≡ Some (answered best p)
  shown_answer t u p best hint c e a w x =
      let i : Is t (wires.Search kinds.Move x.stopped) = subst (Told t) x.current a.engine in
      w ∙ ap (λ y. answer_after t.engine t.placed t.answer (event_unless_gone (dialogue_event_of (Happens y)) t.gone)) x.event
      ∙ ap (λ y. answer_after t.engine t.placed t.answer (event_unless_gone (answer_as_shown y) t.gone)) x.best
      ∙ ap (λ y. answer_after t.engine t.placed t.answer (event_unless_gone (dialogue_events.Answers (Some best)) y)) i.there
      ∙ ap (λ (y : Wire). answer_after y t.placed t.answer (dialogue_events.Answers (Some best))) i.engine
      ∙ ap (λ y. let z : HeardAnswer = record { kind = kinds.Move; best = Some best; at = y; was_shown = false } in Some z) a.placed

  answers_in : (best : Move) (hint : Option Move) → closed_after s ev ≡ false → d ≡ Shows best hint → AnswersWithMove s ev best
  answers_in best hint c e =
      let reports = subst (λ (x : Effect). Contains (replies_of (closed_after s ev) (is_move (owed_after s ev)) hits h x) (cecp.Move best)) (sym e) (reports_first (closed_after s ev) (is_move (owed_after s ev)) hits h best hint c) in
      (shown_in_time o step trace l best).0 (subst (λ (rs : List Reply). Contains rs (cecp.Move best)) (sym l.1.replies) reports)

  by_shown : (t u : JudgedTalk) (p : Place) → IsShown d → closed_after s ev ≡ false → OpenSearchIsAt s p → Agrees t s.dialogue.engine p → Heard t u p → Runs u (map iface_mark step.replies) (λ v. Agrees v m.engine p)
  by_shown t u p (IsShown.It best hint e) c i a w =
      let x = answers_in best hint c e in
      move_runs step.replies u m.engine p best (shown_moves c ∙ ap shown_by e) w.agrees (shown_answer t u p best hint c e a w.answer x)
      (subst (λ y. legal y best ≡ true) (sym (i kinds.Move x.stopped x.current)) x.is_legal)
  by_shown t u p (IsShown.Quiet n) c i a w = quiet_runs step.replies u (λ v. Agrees v m.engine p) (shown_moves c ∙ n) (still_agrees m.engine p) w.agrees

  -- the event and the replies of a step after which the session is open
  pub open_parts : (t : JudgedTalk) (p : Place) (P : JudgedTalk → Type 0) → is_open ev ≡ false → closed_after s ev ≡ false → OpenSearchIsAt s p → Agrees t s.dialogue.engine p
      → ((u : JudgedTalk) → Agrees u m.engine p → Runs u (map engine_mark step.orders) P) → Runs t (marks_of_log_step step) P
  open_parts t p P n c i a f =
      parts_run t step (λ u. Heard t u p) (λ v. Agrees v m.engine p) P (event_known t p n (open_before s.ends ev c) a) (λ u w. by_shown t u p (is_shown d) c i a w) f

  -- AT THE OPENING

  abbrev Begins : JudgedTalk → Type 0
  Begins u = Is u wires.Boot × (u.stage ≡ stages.Start)

  begins_on : (u : JudgedTalk) (line : ℕ) → Begins u → Begins (judgement_after u line dialogue_events.Nothing)
  begins_on u line b = (record { engine = rw b.0.engine refl; there = b.0.there }, rw b.1 refl)

  abbrev Opened : JudgedTalk → Type 0
  Opened u = Is u wires.Boot × (u.stage ≡ stages.Open)

  uci_runs : (u : JudgedTalk) → Begins u → Runs u (map engine_mark (orders.Uci ∷ [])) Opened
  uci_runs u b = first_runs u (engine_mark orders.Uci) [] Opened (dialogue_events.Writes hears.Uci) (order_action orders.Uci) (rw (b.1, b.0.engine, b.0.there) refl) (λ line. (record { engine = refl; there = b.0.there }, rw b.1 refl))

  no_event : (e : Event) → is_open e ≡ true → event_marks e ≡ []
  no_event events.Open x = refl
  no_event e x = cc

  pub opening_parts : (t : JudgedTalk) → is_open ev ≡ true → Is t wires.Boot → t.stage ≡ stages.Start → Runs t (marks_of_log_step step) Opened
  opening_parts t n e g =
      parts_run t step Begins Begins Opened
      (subst (λ (ms : List Mark). Runs t ms Begins) (sym (no_event ev n)) (e, g))
      (λ u b. quiet_runs step.replies u Begins (opening_moves (closed_after s ev) refl) begins_on b)
      (λ u b. subst (λ (os : List Order). Runs u (map engine_mark os) Opened) (sym (l.1.opens n)) (uci_runs u b))
    where
      opening_moves : (c : Bool) → closed_after s ev ≡ c → moves_shown step.replies ≡ []
      opening_moves true c = shown_none c
      opening_moves false c = shown_moves c ∙ opens_quiet (situation_of_state s) s.held ev n

  -- WHERE THE SESSION IS CLOSED

  pub closing_parts : (t : JudgedTalk) (p : Place) → is_open ev ≡ false → s.ends.closed ≡ false → closed_after s ev ≡ true → Agrees t s.dialogue.engine p → Runs t (marks_of_log_step step) (λ u. Unit {0})
  closing_parts t p n c x a =
      parts_run t step (λ u. Agrees u m.engine p) (λ u. Agrees u m.engine p) (λ u. Unit {0})
      (more_runs t (event_marks ev) (λ u. Heard t u p) (λ u. Agrees u m.engine p) (event_known t p n c a) (λ u w. w.agrees))
      (λ u b. quiet_runs step.replies u (λ v. Agrees v m.engine p) (shown_none x) (still_agrees m.engine p) b)
      (λ u b. subst (λ (os : List Order). Runs u (map engine_mark os) (λ v. Unit {0})) (sym (l.1.closes c x)) (by_gone u b (is_gone_after s ev) refl))
    where
      alive : is_gone_after s ev ≡ false → m.engine ≡ talks.Gone → ⊥
      alive g e =
          let now : is_gone (situation_of_state (trace_state_after s step)).engine ≡ true =
          ap (λ (os : List Order). is_gone (forget m.epoch (sent_all m.epoch m.engine (map dialogue_word_of os)))) (l.1.closes c x ∙ ap closing_step_orders g)
          ∙ ap (λ (y : Engine). is_gone (forget m.epoch (sent_all m.epoch y (talks.Quit ∷ [])))) e in
          let same = gone_is s step last l.1 in
          cc

      by_gone : (u : JudgedTalk) → Agrees u m.engine p → (g : Bool) → is_gone_after s ev ≡ g → Runs u (map engine_mark (closing_step_orders (is_gone_after s ev))) (λ v. Unit {0})
      by_gone u b true g = subst (λ (y : Bool). Runs u (map engine_mark (closing_step_orders y)) (λ v. Unit {0})) (sym g) tt
      by_gone u b false g = subst (λ (y : Bool). Runs u (map engine_mark (closing_step_orders y)) (λ v. Unit {0})) (sym g) (quit_runs m.engine u p (λ v. Unit {0}) b (alive g) (λ v. tt))

  pub closed_parts : (t : JudgedTalk) → is_open ev ≡ false → s.ends.closed ≡ true → Runs t (marks_of_log_step step) (λ u. Unit {0})
  closed_parts t n c =
      parts_run t step (λ u. Unit {0}) (λ u. Unit {0}) (λ u. Unit {0})
      (event_runs t ev (λ u. Unit {0}) n (λ line. tt))
      (λ u b. quiet_runs step.replies u (λ v. Unit {0}) (shown_none (closed_stays s.ends ev c)) (λ v line y. tt) tt)
      (λ u b. subst (λ (os : List Order). Runs u (map engine_mark os) (λ v. Unit {0})) (sym (l.1.closed n c)) tt)
