-- What the judgement of a tap's talk rests on.
use Rattle.std.proofs.Common.{◌≡◌, ℕ, List, [], ◌∷◌, filter, codes, Bool, true, false, cond, Option, Some, None, refl, sym, ap, subst, ◌∙◌}
use Rattle.line_io.specs.Event as events
use Rattle.chess_board.specs.declared.board.Move.{Move}
use Rattle.chess_board.specs.Spelling.{move_spelled_by}
use Rattle.protocol_tokens.specs.Tokens.{first_token}
use Rattle.uci_lines.specs.Behind.{after}
use Rattle.uci_lines.specs.Engine.{engine_message}
use Rattle.uci_lines.specs.Messages.{EngineMsg}
use Rattle.uci_lines.specs.Messages as says
use Rattle.uci_lines.specs.Written.{is_written_move}
use Rattle.script_lines.specs.Marks.{Mark, Happens, ToIface, ToEngine}
use Rattle.session_judge.specs.declared.dialogue_event.OrderKind.{OrderKind}
use Rattle.session_judge.specs.declared.dialogue_event.DialogueEvent.{DialogueEvent}
use Rattle.session_judge.specs.declared.dialogue_event.DialogueEvent.TheVariants as dialogue_events
use Rattle.session_judge.specs.declared.engine.EnginePhase.{EnginePhase}
use Rattle.session_judge.specs.declared.engine.EnginePhase.TheVariants as engines
use Rattle.session_judge.specs.declared.listener.Listener.{Listener}
use Rattle.session_judge.specs.declared.listener.Listener.TheVariants as listeners
use Rattle.session_judge.specs.declared.rule.Rule.{Rule}
use Rattle.session_judge.specs.declared.rule.Rule.TheVariants as rules
use Rattle.session_judge.specs.declared.talk.OrderStage.{OrderStage}
use Rattle.session_judge.specs.declared.talk.OrderStage.TheVariants as stages
use Rattle.session_judge.specs.declared.talk.JudgedTalk.{JudgedTalk}
use Rattle.session_judge.specs.Crossings.{unanswered_after}
use Rattle.session_judge.specs.DialogueEvents.{dialogue_event_of, judged_order_in, writes_order, order_named, shows_event, move_in_line, move_shown_by_line, answer_as_shown, said_dialogue_event}
use Rattle.session_judge.specs.Engines.{engine_after}
use Rattle.session_judge.specs.Rules.{broken, broken_by}
use Rattle.session_judge.specs.Talks.{judgement_after, opening_judgement, stage_after}
use Rattle.judge_and_driver_laws.specs.Judge.Tapped.{is_tapped}
use Rattle.judge_and_driver_laws.proofs.Judge.Runs.{Runs}

-- WHAT A TAP'S TALK RESTS ON

pub record Small : Type 0 where
  pub engine : EnginePhase
  pub gone : Bool
  pub unanswered : EnginePhase
  pub stage : OrderStage

abbrev pub small_of : JudgedTalk → Small
small_of t = record { engine = t.engine; gone = t.gone; unanswered = t.unanswered; stage = t.stage }

abbrev pub as_talk : Small → JudgedTalk
as_talk s = record (opening_judgement listeners.Tap) { engine = s.engine; gone = s.gone; unanswered = s.unanswered; stage = s.stage }

abbrev pub next : Small → DialogueEvent → Small
next s d = small_of (judgement_after (as_talk s) 0 d)

abbrev pub Passes : Small → DialogueEvent → Type 0
Passes s d = broken (as_talk s) d ≡ None

unfoldable pub Clean : Small → List Mark → Type 0
Clean s [] = Unit {0}
Clean s (m ∷ ms) = Passes s (dialogue_event_of m) × Clean (next s (dialogue_event_of m)) ms

tap_order : (t : JudgedTalk) (k : OrderKind) → t.listener ≡ listeners.Tap → broken_by t k ≡ broken_by (as_talk (small_of t)) k
tap_order t k e = ap (λ (x : Listener). let u : JudgedTalk = record t { listener = x } in broken_by u k) e

no_show : (r : Option Rule) → r ≡ Some rules.Move → r ≡ None → ⊥
no_show (Some r) e n = cc
no_show None e n = cc

as_tap : (t : JudgedTalk) (d : DialogueEvent) → t.listener ≡ listeners.Tap → Passes (small_of t) d → broken t d ≡ None
as_tap t (dialogue_events.Writes k) e p = tap_order t k e ∙ p
as_tap t (dialogue_events.Shows m) e p = absurd (cc)
as_tap t d e p = refl

of_tap : (t : JudgedTalk) (d : DialogueEvent) → t.listener ≡ listeners.Tap → ((m : _) → d ≡ dialogue_events.Shows m → ⊥) → broken t d ≡ None → Passes (small_of t) d
of_tap t (dialogue_events.Writes k) e n p = sym (tap_order t k e) ∙ p
of_tap t (dialogue_events.Shows m) e n p = absurd (n m refl)
of_tap t d e n p = refl

pub to_runs : (t : JudgedTalk) (ms : List Mark) → t.listener ≡ listeners.Tap → Clean (small_of t) ms → Runs t ms (λ u. Unit {0})
unfolding Clean
to_runs t [] e c = tt
to_runs t (m ∷ ms) e c = (as_tap t (dialogue_event_of m) e c.0, λ line. to_runs (judgement_after t line (dialogue_event_of m)) ms e c.1)

-- MARKS THAT A TAP DOES NOT WRITE

-- an event that is nothing to the engine
engine_still : (e : EnginePhase) → engine_after e dialogue_events.Nothing ≡ e
engine_still engines.Boot = refl
engine_still e = refl

unanswered_still : (e u : EnginePhase) → unanswered_after e u dialogue_events.Nothing ≡ u
unanswered_still (engines.Search kind stopped) u = refl
unanswered_still e u = refl

stage_still : (stage : OrderStage) → stage_after stage dialogue_events.Nothing ≡ stage
stage_still stages.Over = refl
stage_still stage = refl

abbrev pub small : EnginePhase → Bool → EnginePhase → OrderStage → Small
small e gone u stage = record { engine = e; gone = gone; unanswered = u; stage = stage }

pub small_is : (e e' u u' : EnginePhase) (gone : Bool) (stage stage' : OrderStage) → e ≡ e' → u ≡ u' → stage ≡ stage' → small e gone u stage ≡ small e' gone u' stage'
small_is e e' u u' gone stage stage' a b c =
    ap (λ (x : EnginePhase). small x gone u stage) a ∙ ap (λ (x : EnginePhase). small e' gone x stage) b ∙ ap (λ (x : OrderStage). small e' gone u' x) c

pub quiet_small : (s : Small) → next s dialogue_events.Nothing ≡ s
quiet_small s = small_is _ s.engine _ s.unanswered s.gone _ s.stage (engine_still s.engine) (unanswered_still s.engine s.unanswered) (stage_still s.stage)

engine_shown : (m : Move) (e : EnginePhase) → engine_after e (dialogue_events.Shows m) ≡ e
engine_shown m engines.Boot = refl
engine_shown m e = refl

unanswered_shown : (m : Move) (e u : EnginePhase) → unanswered_after e u (dialogue_events.Shows m) ≡ u
unanswered_shown m (engines.Search kind stopped) u = refl
unanswered_shown m e u = refl

stage_shown : (m : Move) (stage : OrderStage) → stage_after stage (dialogue_events.Shows m) ≡ stage
stage_shown m stages.Over = refl
stage_shown m stage = refl

shown_small : (s : Small) (m : Move) → next s (dialogue_events.Shows m) ≡ s
shown_small s m = small_is _ s.engine _ s.unanswered s.gone _ s.stage (engine_shown m s.engine) (unanswered_shown m s.engine s.unanswered) (stage_shown m s.stage)

shows_small : (s : Small) (o : Option Move) → next s (shows_event o) ≡ s
shows_small s None = quiet_small s
shows_small s (Some m) = shown_small s m

written_small : (s : Small) (b : Bool) (o : Option Move) → next s (cond b (shows_event o) dialogue_events.Nothing) ≡ s
written_small s true o = shows_small s o
written_small s false o = quiet_small s

line_small : (s : Small) (o : Option (List ℕ)) → next s (move_in_line o) ≡ s
line_small s None = quiet_small s
line_small s (Some text) = written_small s (is_written_move text) (move_spelled_by text)

order_shows : (o : Option OrderKind) (m : Move) → writes_order o ≡ dialogue_events.Shows m → ⊥
order_shows None m e = cc
order_shows (Some k) m e = cc

said_shows : (x : EngineMsg) (m : Move) → answer_as_shown x ≡ dialogue_events.Shows m → ⊥
said_shows says.UciOk m e = cc
said_shows says.ReadyOk m e = cc
said_shows (says.Best best hint) m e = cc
said_shows x m e = cc

-- the marks of the engine's side alone are lawful as a tap's
pub of_runs : (t : JudgedTalk) (ms : List Mark) (P : JudgedTalk → Type 0) → t.listener ≡ listeners.Tap → Runs t ms P → Clean (small_of t) (filter is_tapped ms)
unfolding Clean
of_runs t [] P e r = tt
of_runs t (ToEngine order ∷ ms) P e r = (
  of_tap t (judged_order_in order) e (order_shows (order_named (first_token order) order)) r.0,
  of_runs (judgement_after t 0 (judged_order_in order)) ms P e (r.1 0),
)
of_runs t (ToIface line ∷ ms) P e r =
    subst (λ (s : Small). Clean s (filter is_tapped ms)) (line_small (small_of t) (after (codes "move ") line)) (of_runs (judgement_after t 0 (move_shown_by_line line)) ms P e (r.1 0))
of_runs t (Happens (events.Engine line) ∷ ms) P e r = (
  of_tap t (said_dialogue_event line) e (said_shows (engine_message line)) r.0,
  of_runs (judgement_after t 0 (said_dialogue_event line)) ms P e (r.1 0),
)
of_runs t (Happens events.EngineLong ∷ ms) P e r = (refl, of_runs (judgement_after t 0 dialogue_events.Nothing) ms P e (r.1 0))
of_runs t (Happens events.EngineEnd ∷ ms) P e r = (refl, of_runs (judgement_after t 0 dialogue_events.Ends) ms P e (r.1 0))
of_runs t (Happens events.EngineLost ∷ ms) P e r = (refl, of_runs (judgement_after t 0 dialogue_events.Ends) ms P e (r.1 0))
of_runs t (Happens x ∷ ms) P e r = subst (λ (s : Small). Clean s (filter is_tapped ms)) (quiet_small (small_of t)) (of_runs (judgement_after t 0 dialogue_events.Nothing) ms P e (r.1 0))
