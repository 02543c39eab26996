-- In the log of each lawful trace no mark breaks a rule.
use Rattle.std.proofs.Common.{◌≡◌, List, [], ◌∷◌, map, Bool, true, false, refl, sym, ap, subst, ◌∙◌}
use Rattle.std.proofs.lemmas.Bool.{both_ways}
use Rattle.line_io.specs.Event.{Event}
use Rattle.line_io.specs.Event as events
use Rattle.script_lines.specs.Marks.{Mark}
use Rattle.uci_lines.specs.Orders.{Order}
use Rattle.chess_board.specs.Position.{Position as Place}
use Rattle.policy_rules.specs.declared.setting_rules.settings.Settings.{Settings}
use Rattle.search_epochs.specs.Tickets as talks
use Rattle.search_epochs.specs.Tickets.{Engine, Ticketed, engine_after_heard, sent_all}
use Rattle.desk_rules.specs.Orders.{dialogue_word_of}
use Rattle.adapter_core.specs.declared.ends.Ends.{Ends}
use Rattle.adapter_core.specs.Ends.{is_open, ends_after}
use Rattle.adapter_core.specs.Trace.{State, Step, LawfulTrace, state, trace_state_after, mid, closed_after}
use Rattle.adapter_core.proofs.Closing.{opened_later, closed_stays}
use Rattle.adapter_core.proofs.Traces.{lasts}
use Rattle.trace_laws.proofs.Heard as hearing
use Rattle.trace_laws.proofs.Places.{opening_may, opening_says}
use Rattle.session_judge.specs.declared.engine.EnginePhase.TheVariants as wires
use Rattle.session_judge.specs.declared.listener.Listener.{Listener}
use Rattle.session_judge.specs.declared.listener.Listener.TheVariants as listeners
use Rattle.session_judge.specs.declared.talk.OrderStage.TheVariants as stages
use Rattle.session_judge.specs.declared.talk.JudgedTalk.{JudgedTalk}
use Rattle.session_judge.specs.Clean.{Entry, IsClean, talk}
use Rattle.session_judge.specs.Talks.{opening_judgement}
use Rattle.judge_and_driver_laws.specs.Judge.Logs.{NoOrderCrosses, OpenSearchIsAt, SearchesTheDesk, marks_of_log_step, marks_in, trace_marks, LogsAreClean}
use Rattle.judge_and_driver_laws.proofs.Judge.Runs.{Runs, apart_runs, more_runs, both_run, clean_runs}
use Rattle.judge_and_driver_laws.proofs.Judge.Writes.{Is, Shows, Agrees}
use Rattle.trace_laws.proofs.Games.{game_is}
use Rattle.judge_and_driver_laws.proofs.Judge.Steps.{open_parts, opening_parts, closing_parts, closed_parts}
use Rattle.judge_and_driver_laws.proofs.Judge.Settles.{settles}

-- the talk goes with the trace
record Matches (s : State) (t : JudgedTalk) : Type 0 where
  begins : s.ends.opened ≡ false → Is t wires.Boot × (t.stage ≡ stages.Start)
  goes_on : s.ends.opened ≡ true → s.ends.closed ≡ false → (p : Place) × Agrees t s.dialogue.engine p × OpenSearchIsAt s p

-- THE OPENING

still_opened : (ends : Ends) (e : Event) → is_open e ≡ false → (ends_after ends e).opened ≡ ends.opened
still_opened ends events.Open x = cc
still_opened ends e x = refl

-- STEP BY STEP

module _ (o : Settings) (step : Step) (trace : List Step) (l : LawfulTrace o (step ∷ trace)) where
  abbrev s : State
  s = state o trace

  abbrev ev : Event
  ev = step.event

  abbrev m : Ticketed
  m = mid s ev

  abbrev next : State
  next = trace_state_after s step

  opened : next.ends.opened ≡ true
  opened = opened_later s.ends ev l.1.may_come

  -- once the session is closed nothing more need be known
  once_closed : (u : JudgedTalk) → closed_after s ev ≡ true → Matches next u
  once_closed u c = record { begins = λ n. absurd (both_ways next.ends.opened n opened); goes_on = λ y n. absurd (both_ways (closed_after s ev) n c) }

  boots : is_open ev ≡ true → next.dialogue.engine ≡ talks.Boot
  boots n =
      let none = (lasts o trace l.0).begins (opening_may s ev n l.1.may_come) in
      let heard_none : m.engine ≡ talks.Boot = hearing.event_heard s ev ∙ ap (engine_after_heard s.dialogue.engine) (opening_says s.ends.closed ev n) ∙ none in
      ap (λ (os : List Order). sent_all m.epoch m.engine (map dialogue_word_of os)) (l.1.opens n) ∙ ap (λ (y : Engine). sent_all m.epoch y (talks.Uci ∷ [])) heard_none

  at_opening : (t : JudgedTalk) → is_open ev ≡ true → Matches s t → Runs t (marks_of_log_step step) (Matches next)
  at_opening t n a =
      let b = a.begins (opening_may s ev n l.1.may_come) in
      more_runs t (marks_of_log_step step) _ (Matches next) (opening_parts o step trace l t n b.0 b.1) (λ u w. record {
        begins = λ x. absurd (both_ways next.ends.opened x opened);
        goes_on = λ x c. (
          u.placed,
          record { engine = subst (Shows u) (sym (boots n)) w.0; stage = w.1; placed = refl },
          λ k st e. let x = boots n in cc,
        );
      })

  by_close : (t : JudgedTalk) (p : Place) → is_open ev ≡ false → s.ends.closed ≡ false → Agrees t s.dialogue.engine p → OpenSearchIsAt s p → (c : Bool) → closed_after s ev ≡ c → Runs t (marks_of_log_step step) (Matches next)
  by_close t p n b a f true c = more_runs t (marks_of_log_step step) _ (Matches next) (closing_parts o step trace l t p n b c a) (λ u w. once_closed u c)
  by_close t p n b a f false c =
      more_runs t (marks_of_log_step step) _ (Matches next)
      (open_parts o step trace l t p _ n c f a (λ u w. settles o step trace l (game_is o trace l.0) u p n c f w))
      (λ u w. record { begins = λ x. absurd (both_ways next.ends.opened x opened); goes_on = λ x y. w })

  by_stage : (t : JudgedTalk) → is_open ev ≡ false → Matches s t → (b : Bool) → s.ends.closed ≡ b → Runs t (marks_of_log_step step) (Matches next)
  by_stage t n a true b = more_runs t (marks_of_log_step step) _ (Matches next) (closed_parts o step trace l t n b) (λ u w. once_closed u (closed_stays s.ends ev b))
  by_stage t n a false b =
      let f = a.goes_on (sym (still_opened s.ends ev n) ∙ opened) b in
      by_close t f.0 n b f.1 f.2 (closed_after s ev) refl

  step_matches : (t : JudgedTalk) → Matches s t → Runs t (marks_of_log_step step) (Matches next)
  step_matches t a = by_open (is_open ev) refl where
    by_open : (b : Bool) → is_open ev ≡ b → Runs t (marks_of_log_step step) (Matches next)
    by_open true n = at_opening t n a
    by_open false n = by_stage t n a s.ends.closed refl

-- EACH TRACE

matches : (o : Settings) (listener : Listener) (trace : List Step) → LawfulTrace o trace → Runs (opening_judgement listener) (trace_marks trace) (Matches (state o trace))
matches o listener [] l = record { begins = λ n. (record { engine = refl; there = refl }, refl); goes_on = λ y n. absurd (cc) }
matches o listener (step ∷ trace) l =
    both_run (opening_judgement listener) (trace_marks trace) (marks_of_log_step step) (Matches (state o (step ∷ trace)))
    (more_runs (opening_judgement listener) (trace_marks trace) (Matches (state o trace)) _ (matches o listener trace l.0) (step_matches o step trace l))

-- whatever the numbers of their lines, and no order crosses
pub trace_runs : (o : Settings) (listener : Listener) (trace : List Step) → LawfulTrace o trace → Runs (opening_judgement listener) (trace_marks trace) (λ t. t.crossings ≡ 0)
trace_runs o listener trace l =
    apart_runs listener (trace_marks trace) (opening_judgement listeners.Bridge)
    (more_runs (opening_judgement listeners.Bridge) (trace_marks trace) (Matches (state o trace)) (λ t. Unit {0}) (matches o listeners.Bridge trace l) (λ t m. tt))

log_matches : (o : Settings) (listener : Listener) (trace : List Step) (log : List Entry) → LawfulTrace o trace → marks_in log ≡ trace_marks trace → IsClean listener log × Matches (state o trace) (talk listener log)
log_matches o listener trace log l e =
    clean_runs listener log (Matches (state o trace)) (subst (λ (ms : List Mark). Runs (opening_judgement listener) ms (Matches (state o trace))) (sym e) (matches o listener trace l))

pub logs_are_clean : (o : Settings) → LogsAreClean o
logs_are_clean o listener trace log l e = (log_matches o listener trace log l e).0

pub no_order_crosses : (o : Settings) → NoOrderCrosses o
no_order_crosses o trace log l e =
    (clean_runs listeners.Tap log (λ t. t.crossings ≡ 0) (subst (λ (ms : List Mark). Runs (opening_judgement listeners.Tap) ms (λ t. t.crossings ≡ 0)) (sym e) (trace_runs o listeners.Tap trace l))).1

-- the position of a current search
unopened : (o : Settings) (trace : List Step) (p : Place) → LawfulTrace o trace → (state o trace).ends.opened ≡ false → OpenSearchIsAt (state o trace) p
unopened o trace p l n k st e = let boot = (lasts o trace l).begins n in cc

pub searches_the_desk : (o : Settings) → SearchesTheDesk o
searches_the_desk o listener trace log l e c = by (state o trace).ends.opened refl where
  by : (b : Bool) → (state o trace).ends.opened ≡ b → OpenSearchIsAt (state o trace) (talk listener log).placed
  by false n = unopened o trace (talk listener log).placed l n
  by true y =
      let f = (log_matches o listener trace log l e).1.goes_on y c in
      subst (OpenSearchIsAt (state o trace)) (sym f.1.placed) f.2
