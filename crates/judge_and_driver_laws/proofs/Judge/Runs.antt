-- Marks that are heard one after the other, whatever the numbers of their lines.
use Rattle.std.proofs.Common.{◌≡◌, ℕ, List, [], ◌∷◌, ◌++◌, None, refl, sym, ap, subst, ◌∙◌}
use Rattle.script_lines.specs.Marks.{Mark}
use Rattle.session_judge.specs.declared.dialogue_event.DialogueEvent.{DialogueEvent}
use Rattle.session_judge.specs.declared.listener.Listener.{Listener}
use Rattle.session_judge.specs.declared.listener.Listener.TheVariants as listeners
use Rattle.session_judge.specs.declared.talk.JudgedTalk.{JudgedTalk}
use Rattle.session_judge.specs.Clean.{Entry, IsClean, talk}
use Rattle.session_judge.specs.DialogueEvents.{dialogue_event_of}
use Rattle.session_judge.specs.Rules.{broken}
use Rattle.session_judge.specs.Talks.{opening_judgement, judgement_after}
use Rattle.session_judge.proofs.Differences.{heard_by, own_passes, own_apart}
use Rattle.judge_and_driver_laws.specs.Judge.Logs.{marks_in}

-- no mark breaks a rule, and this holds of the talk then
abbrev pub Runs : JudgedTalk → List Mark → (JudgedTalk → Type 0) → Type 0
Runs t [] P = P t
Runs t (m ∷ ms) P = (broken t (dialogue_event_of m) ≡ None) × ((line : ℕ) → Runs (judgement_after t line (dialogue_event_of m)) ms P)

pub more_runs : (t : JudgedTalk) (ms : List Mark) (P Q : JudgedTalk → Type 0) → Runs t ms P → ((u : JudgedTalk) → P u → Q u) → Runs t ms Q
more_runs t [] P Q r f = f t r
more_runs t (m ∷ ms) P Q r f = (r.0, λ line. more_runs (judgement_after t line (dialogue_event_of m)) ms P Q (r.1 line) f)

pub both_run : (t : JudgedTalk) (ms ns : List Mark) (P : JudgedTalk → Type 0) → Runs t ms (λ u. Runs u ns P) → Runs t (ms ++ ns) P
both_run t [] ns P r = r
both_run t (m ∷ ms) ns P r = (r.0, λ line. both_run (judgement_after t line (dialogue_event_of m)) ms ns P (r.1 line))

pub cut_runs : (t : JudgedTalk) (ms ns : List Mark) (P : JudgedTalk → Type 0) → Runs t (ms ++ ns) P → Runs t ms (λ u. Runs u ns P)
cut_runs t [] ns P r = r
cut_runs t (m ∷ ms) ns P r = (r.0, λ line. cut_runs (judgement_after t line (dialogue_event_of m)) ms ns P (r.1 line))

-- by what the first mark is
pub first_runs : (t : JudgedTalk) (m : Mark) (ms : List Mark) (P : JudgedTalk → Type 0) (d : DialogueEvent) → dialogue_event_of m ≡ d → broken t d ≡ None → ((line : ℕ) → Runs (judgement_after t line d) ms P) → Runs t (m ∷ ms) P
first_runs t m ms P d e b f = (ap (broken t) e ∙ b, λ line. subst (λ (x : DialogueEvent). Runs (judgement_after t line x) ms P) (sym e) (f line))

-- A talk that is lawful as the bridge's own is lawful as another's, and no order crosses.
pub apart_runs : (listener : Listener) (ms : List Mark) (t : JudgedTalk) → Runs (heard_by listeners.Bridge t) ms (λ u. Unit {0}) → Runs (heard_by listener t) ms (λ u. u.crossings ≡ t.crossings)
apart_runs listener [] t r = refl
apart_runs listener (m ∷ ms) t r = (
  own_passes listener t (dialogue_event_of m) r.0,
  λ line.
      let u = judgement_after t line (dialogue_event_of m) in
      more_runs (heard_by listener u) ms (λ v. v.crossings ≡ u.crossings) (λ v. v.crossings ≡ t.crossings) (apart_runs listener ms u (r.1 line)) (λ v e. e ∙ own_apart t line (dialogue_event_of m) r.0),
)

-- LOGS

pub clean_runs : (listener : Listener) (log : List Entry) (P : JudgedTalk → Type 0) → Runs (opening_judgement listener) (marks_in log) P → IsClean listener log × P (talk listener log)
clean_runs listener [] P r = (tt, r)
clean_runs listener (entry ∷ log) P r =
    let before = clean_runs listener log (λ u. Runs u (entry.mark ∷ []) P) (cut_runs (opening_judgement listener) (marks_in log) (entry.mark ∷ []) P r) in
    ((before.0, before.1.0), before.1.1 entry.line)
