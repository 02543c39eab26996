-- The core keeps what a mediator has to keep.
use Rattle.std.proofs.Common.{◌≡◌, ◌≢◌, inl, inr, ℕ, List, [], ◌∷◌, ◌++◌, length, Bool, true, false, not, cond, ◌&&◌, ◌||◌, refl, sym, ap, subst, ◌∙◌, append_assoc}
use Rattle.line_io.specs.Event.{Event, Open, IfaceLost, EngineLost}
use Rattle.line_io.specs.Out.{Text, with}
use Rattle.line_io.specs.Lines.{line_feed}
use Rattle.policy_rules.specs.declared.setting_rules.settings.Settings.{Settings}
use Rattle.script_lines.specs.Header.{header_text}
use Rattle.script_lines.specs.StepText.{numbered_marks}
use Rattle.trace_scripts.specs.Script.{numbered_text, script2}
use Rattle.adapter_core.specs.declared.ends.Ends.{Ends}
use Rattle.adapter_core.specs.Ends.{ends_after, may}
use Rattle.adapter_core.specs.Trace.{Step, LawfulTrace, state, iface_text, engine_text}
use Rattle.adapter_core.specs.Parts.{CoreParts}
use Rattle.adapter_core.specs.Represents.{Represents}
use Rattle.event_pipe.specs.declared.message.Peer.{Peer}
use Rattle.event_pipe.specs.declared.message.Peer.TheVariants as peers
use Rattle.event_pipe.specs.Events.{EventMayFollow}
use Rattle.bridge_runner.specs.Texts as texts
use Rattle.bridge_runner.proofs.Facts.{opened, open_iface, open_engine, iface_is, engine_is, may_follow}
use Rattle.event_loop.specs.Turns.{Turn, new_turn, events_of_turns, is_own_event, loss, is_loss, turns_have_loss, stands_between, TurnGave, log_of_turn}
use Rattle.event_loop.specs.Turns as turns
use Rattle.event_loop.specs.Meaning.{Allows, Opens, MediatorSteps}
use Rattle.bridge_runner.specs.declared.session.Session.{Session}
use Rattle.bridge_runner.specs.Plays.{turns_of, TurnsAreLawful, session_meaning, BridgeTookStep}

-- WHAT IS RECEIVED

own_same : (e : Event) → is_own_event e ≡ texts.is_own_step e
own_same Open = refl
own_same IfaceLost = refl
own_same EngineLost = refl
own_same e = refl

received_one : (s : Step) (es fs : List Event) → es ≡ fs → es ++ cond (is_own_event s.event) [] (s.event ∷ []) ≡ fs ++ cond (texts.is_own_step s.event) [] (s.event ∷ [])
received_one s es fs h = ap (λ (x : List Event). x ++ cond (is_own_event s.event) [] (s.event ∷ [])) h ∙ ap (λ b. fs ++ cond b [] (s.event ∷ [])) (own_same s.event)

pub received_same : (o : Settings) (t : List Step) → events_of_turns (turns_of o t) ≡ texts.events_of_steps t
received_same o [] = refl
received_same o (s ∷ []) = received_one s [] [] refl
received_same o (s ∷ r ∷ t) = received_one s _ _ (received_same o (r ∷ t))

-- LOSSES

abbrev lost_flag : Peer → Ends → Bool
lost_flag peers.Iface ends = ends.iface_lost
lost_flag peers.Engine ends = ends.engine_lost

abbrev ended_flag : Peer → Ends → Bool
ended_flag peers.Iface ends = ends.iface
ended_flag peers.Engine ends = ends.engine

lost_by : (p : Peer) (ends : Ends) (e : Event) → (is_loss p e || lost_flag p ends) ≡ lost_flag p (ends_after ends e)
lost_by peers.Iface ends IfaceLost = refl
lost_by peers.Iface ends e = refl
lost_by peers.Engine ends EngineLost = refl
lost_by peers.Engine ends e = refl

has_nil : (p : Peer) (o : Settings) → false ≡ lost_flag p (state o []).ends
has_nil peers.Iface o = refl
has_nil peers.Engine o = refl

has_one : (p : Peer) (o : Settings) (s : Step) (t : List Step) (b : Bool) → b ≡ lost_flag p (state o t).ends → (is_loss p s.event || b) ≡ lost_flag p (state o (s ∷ t)).ends
has_one p o s t b h = ap (λ c. is_loss p s.event || c) h ∙ lost_by p (state o t).ends s.event

pub has_is : (p : Peer) (o : Settings) (t : List Step) → turns_have_loss p (turns_of o t) ≡ lost_flag p (state o t).ends
has_is p o [] = has_nil p o
has_is p o (s ∷ []) = has_one p o s [] false (has_nil p o)
has_is p o (s ∷ r ∷ t) = has_one p o s (r ∷ t) _ (has_is p o (r ∷ t))

last_no : (a b c : Bool) → (a && not b && not c) ≡ true → c ≡ false
last_no true true true h = cc
last_no true true false h = refl
last_no true false true h = cc
last_no true false false h = refl
last_no false b true h = cc
last_no false b false h = refl

three_by : (a b c : Bool) → a ≡ true → b ≡ false → c ≡ false → (a && not b && not c) ≡ true
three_by a b c p q r = rw (p, q, r) refl

pub lost_no : (p : Peer) (ends : Ends) → may ends (loss p) ≡ true → lost_flag p ends ≡ false
lost_no peers.Iface ends h = last_no ends.opened ends.iface ends.iface_lost h
lost_no peers.Engine ends h = last_no ends.opened ends.engine ends.engine_lost h

may_loss : (p : Peer) (ends : Ends) → ends.opened ≡ true → ended_flag p ends ≡ false → lost_flag p ends ≡ false → may ends (loss p) ≡ true
may_loss peers.Iface ends a b c = three_by ends.opened ends.iface ends.iface_lost a b c
may_loss peers.Engine ends a b c = three_by ends.opened ends.engine ends.engine_lost a b c

pub between_is : (e : Event) → stands_between peers.Engine e ≡ true → e ≡ IfaceLost
between_is IfaceLost h = refl
between_is e h = cc

pub never_between : (e : Event) → stands_between peers.Iface e ≡ true → ⊥
never_between e h = cc

-- a side to which something was given has not ended
open_side : (p : Peer) (o : Settings) (t : List Step) → LawfulTrace o t → TurnGave p (turns_of o t) → ended_flag p (state o t).ends ≡ false
open_side p o [] l g = absurd g
open_side peers.Iface o (s ∷ []) l (inl g) = open_iface o s [] l g
open_side peers.Iface o (s ∷ []) l (inr g) = absurd g.1
open_side peers.Engine o (s ∷ []) l (inl g) = open_engine o s [] l g
open_side peers.Engine o (s ∷ []) l (inr g) = absurd g.1
open_side peers.Iface o (s ∷ r ∷ t) l (inl g) = open_iface o s (r ∷ t) l g
open_side peers.Iface o (s ∷ r ∷ t) l (inr g) = absurd (never_between s.event g.0)
open_side peers.Engine o (s ∷ r ∷ t) l (inl g) = open_engine o s (r ∷ t) l g
open_side peers.Engine o (s ∷ r ∷ t) l (inr g) = ap (λ (x : Event). (ends_after (state o (r ∷ t)).ends x).engine) (between_is s.event g.0) ∙ open_side peers.Engine o (r ∷ t) l.0 g.1

was_opened : (o : Settings) (t : List Step) → t ≢ [] → LawfulTrace o t → (state o t).ends.opened ≡ true
was_opened o [] n l = absurd (n refl)
was_opened o (s ∷ t) n l = opened o s t l

module _ (s0 : Session) (turns : List Turn) (s : Session) (d : TurnsAreLawful s0 turns s) where
  abbrev o : Settings
  o = s0.core.settings

  ends_are : s.core.ends ≡ (state o d.trace).ends
  ends_are = ap (λ (v : CoreParts). v.ends) d.stands.0

  has_are : (p : Peer) → turns_have_loss p turns ≡ lost_flag p (state o d.trace).ends
  has_are p = ap (λ (ts : List Turn). turns_have_loss p ts) d.turns_are ∙ has_is p o d.trace

  may_next : (e : Event) → EventMayFollow (events_of_turns turns) e → may s.core.ends e ≡ true
  may_next e f =
      ap (λ (y : Ends). may y e) ends_are
      ∙ may_follow (state o d.trace).ends e (texts.events_of_steps d.trace) (was_opened o d.trace d.begun d.lawful) (iface_is o d.trace) (engine_is o d.trace)
      (subst (λ (es : List Event). EventMayFollow es e) (ap events_of_turns d.turns_are ∙ received_same o d.trace) f)

  may_lose : (p : Peer) → TurnGave p turns → turns_have_loss p turns ≡ false → may s.core.ends (loss p) ≡ true
  may_lose p g n =
      ap (λ (y : Ends). may y (loss p)) ends_are
      ∙ may_loss p (state o d.trace).ends (was_opened o d.trace d.begun d.lawful) (open_side p o d.trace d.lawful (subst (λ (ts : List Turn). TurnGave p ts) d.turns_are g)) (sym (has_are p) ∙ n)

  lost_once : (p : Peer) → may s.core.ends (loss p) ≡ true → turns_have_loss p turns ≡ false
  lost_once p m = has_are p ∙ lost_no p (state o d.trace).ends (ap (λ (y : Ends). may y (loss p)) (sym ends_are) ∙ m)

pub allows : (s : Session) (e : Event) → Allows session_meaning s e
allows s e =
    record {
      follows = λ s0 turns d f. may_next s0 turns s d e f;
      owed = λ p s0 turns d h hears g n. ap (λ (x : Event). may s.core.ends x) h ∙ may_lose s0 turns s d p g n;
      once = λ p s0 turns d h m. lost_once s0 turns s d p (ap (λ (x : Event). may s.core.ends x) (sym h) ∙ m);
    }

-- STEPS

turn_eq : (e e' : Event) (u u' v v' w w' : List ℕ) → e ≡ e' → u ≡ u' → v ≡ v' → w ≡ w' → new_turn e u v w ≡ new_turn e' u' v' w'
turn_eq e e' u u' v v' w w' a b c d = rw (a, b, c, d) refl

more_turns : (o : Settings) (s : Step) (t : List Step) → t ≢ [] → new_turn s.event (iface_text s) (engine_text s) (numbered_text (length t) s) ∷ turns_of o t ≡ turns_of o (s ∷ t)
more_turns o s [] n = absurd (n refl)
more_turns o s (r ∷ t) n = refl

pub steps : (old new : Session) (e : Event) (held held' : Text) → BridgeTookStep old new e held held' → MediatorSteps session_meaning e old held new held'
steps old new e held held' t =
    let piece = numbered_marks old.next t.step.event (iface_text t.step) (engine_text t.step) in
    record {
      piece = piece;
      put = t.put;
      goes = λ s0 turns d.
          let x = t.extends s0.core.settings d.trace d.lawful d.stands in
          let same : new_turn e new.core.to_iface.text new.core.to_engine.text piece ≡ new_turn t.step.event (iface_text t.step) (engine_text t.step) (numbered_text (length d.trace) t.step) =
          turn_eq _ _ _ _ _ _ _ _ (sym t.event) t.up t.down (ap (λ k. numbered_marks k t.step.event (iface_text t.step) (engine_text t.step)) d.next) in
          record {
            trace = t.step ∷ d.trace;
            lawful = x.0;
            stands = x.1;
            begun = λ h. cc;
            turns_are = ap (λ (k : Turn). k ∷ turns) same
                ∙ ap (λ (ts : List Turn). new_turn t.step.event (iface_text t.step) (engine_text t.step) (numbered_text (length d.trace) t.step) ∷ ts) d.turns_are
                ∙ more_turns s0.core.settings t.step d.trace d.begun;
            next = t.next (length d.trace) d.next;
          };
    }

pub opens : (old new : Session) (held held1 held' : Text) → Represents old.core.settings old.core [] → old.next ≡ 0 → held1 ≡ with held (header_text old.core.settings ++ line_feed ∷ []) → BridgeTookStep old new Open held1 held' → Opens session_meaning old held new held'
opens old new held held1 held' stands zero e t =
    let o = old.core.settings in
    let x = t.extends o [] tt stands in
    let head = header_text o ++ line_feed ∷ [] in
    let marks = numbered_marks old.next t.step.event (iface_text t.step) (engine_text t.step) in
    let piece : head ++ marks ≡ header_text o ++ line_feed ∷ numbered_text 0 t.step =
    append_assoc (header_text o) (line_feed ∷ []) marks ∙ ap (λ k. header_text o ++ line_feed ∷ numbered_marks k t.step.event (iface_text t.step) (engine_text t.step)) zero in
    record {
      piece = head ++ marks;
      put = t.put ∙ ap (λ (h : Text). with h marks) e ∙ ap (λ (l : List ℕ). record { text = l; room = held.room }) (append_assoc held.text head marks);
      did = record {
        trace = t.step ∷ [];
        lawful = x.0;
        stands = x.1;
        begun = λ h. cc;
        turns_are = ap (λ (k : Turn). k ∷ []) (turn_eq _ _ _ _ _ _ _ _ (sym t.event) t.up t.down piece);
        next = t.next 0 zero;
      };
    }

-- the log is the script
pub script_is : (o : Settings) (t : List Step) → t ≢ [] → turns.turn_texts log_of_turn (turns_of o t) ≡ script2 o t
script_is o [] n = absurd (n refl)
script_is o (s ∷ []) n = refl
script_is o (s ∷ r ∷ t) n = ap (λ (l : List ℕ). l ++ numbered_text (length (r ∷ t)) s) (script_is o (r ∷ t) (λ h. cc)) ∙ append_assoc (header_text o) (line_feed ∷ _) (numbered_text (length (r ∷ t)) s)

pub header_put : (o o' : Settings) (held held1 held2 : Text) (feed : List ℕ) → o' ≡ o → held1 ≡ with held (header_text o') → held2 ≡ with held1 feed → held2 ≡ with held (header_text o ++ feed)
header_put o o' held held1 held2 feed h e f =
    f ∙ ap (λ (x : Text). with x feed) e ∙ ap (λ (l : List ℕ). record { text = l; room = held.room }) (append_assoc held.text (header_text o') feed) ∙ ap (λ (x : Settings). with held (header_text x ++ feed)) h
