-- Steps of the loop of a life.
use Rattle.std.proofs.Common.{◌≡◌, ◌≤◌, ℕ, List, [], ◌∷◌, ◌++◌, Bool, true, false, filter, cond, not, ◌||◌, refl, sym, ap, subst, ◌∙◌, append-nil, append_assoc}
use Rattle.line_io.specs.Event.{Event, Iface, IfaceLong, IfaceEnd, Engine, EngineLong}
use Rattle.engine_revival.specs.declared.state.RevivalState.{RevivalState}
use Rattle.engine_revival.specs.Steps.{is_alive, is_ended}
use Rattle.engine_revival.specs.declared.words.LifeState.{LifeState}
use Rattle.engine_revival.specs.declared.words.LifeState.TheVariants as life
use Rattle.engine_revival.specs.Script.{may_happen, revival_state_after, revival_event_text}
use Rattle.event_pipe.proofs.Reading.{any_append}
use Rattle.line_io.specs.Source.{Received}
use Rattle.program_lifecycle.specs.Streams.{sinks}
use Rattle.event_pipe.specs.declared.message.MessageBody.TheVariants as says
use Rattle.reviver_runner.specs.declared.message.LifeMessage.{LifeMessage}
use Rattle.reviver_runner.specs.declared.message.LifeMessage.TheVariants as messages
use Rattle.reviver_runner.specs.Messages.{script_event, is_life_end}
use Rattle.reviver_runner.specs.declared.looping.RevivalLoop.{RevivalLoop}
use Rattle.engine_revival.specs.declared.script.TheConstants.{EVENT_ROOM}
use Rattle.reviver_runner.specs.Played.{event_up, event_child, is_heard, events_for_revival, is_life_end_mark, has_close}
use Rattle.reviver_runner.specs.Looped.{IsReadyLoop, KeepsLoop, Offers, LoopState, LifePlayed, Going, GoesOrEnds, LoopedLife}
use Rattle.reviver_runner.proofs.Appends.{played_none, played_more}
use Rattle.reviver_runner.proofs.Stays.{event_stays}

-- ONE MORE EVENT

heard_more : (b : Bool) (x : Event) (more es last : List Event) → more ≡ es ++ last → cond b (x ∷ more) more ≡ cond b (x ∷ es) es ++ last
heard_more true x more es last h = ap (λ (l : List Event). x ∷ l) h
heard_more false x more es last h = h

pub heard_last : (es : List Event) (e : Event) → events_for_revival (es ++ e ∷ []) ≡ events_for_revival es ++ cond (is_heard e) (e ∷ []) []
heard_last [] e = refl
heard_last (x ∷ es) e = heard_more (is_heard x) x (events_for_revival (es ++ e ∷ [])) (events_for_revival es) (cond (is_heard e) (e ∷ []) []) (heard_last es e)

-- THE LOOP

pub keeps_same : {L : Type 0} (a : RevivalLoop L) → IsReadyLoop a → KeepsLoop a a
keeps_same a r = record { receiving_end = (r.receiving_end, refl); marks = record { room = refl; log = refl } }

pub keeps_both : {L : Type 0} (a b c : RevivalLoop L) → KeepsLoop a b → KeepsLoop b c → KeepsLoop a c
keeps_both a b c x y = record { receiving_end = (y.receiving_end.0, y.receiving_end.1 ∙ x.receiving_end.1); marks = record { room = y.marks.room ∙ x.marks.room; log = y.marks.log ∙ x.marks.log } }

pub ready_still : {L : Type 0} (a b : RevivalLoop L) → IsReadyLoop a → KeepsLoop a b → IsReadyLoop b
ready_still a b r k = record { receiving_end = k.receiving_end.0; room = subst (λ (n : ℕ). EVENT_ROOM ≤ n) (sym k.marks.room) r.room }

pub going_first : (a : LoopState) (sink : Received) → Going a a sink sink
going_first a sink = record { events = []; taken_is = sym (append-nil a.events); unended = refl; played = played_none a sink }

no_close : (e : Event) (es : List Event) → has_close es ≡ false → is_life_end_mark e ≡ false → has_close (es ++ e ∷ []) ≡ false
no_close e es h n = any_append is_life_end_mark es (e ∷ []) ∙ ap (λ b. b || has_close (e ∷ [])) h ∙ ap (λ b. b || false) n

one_more : (first now now' events : List Event) (e : Event) → now ≡ first ++ events → now' ≡ now ++ e ∷ [] → now' ≡ first ++ (events ++ e ∷ [])
one_more first now now' events e h t = t ∙ ap (λ (l : List Event). l ++ e ∷ []) h ∙ append_assoc first events (e ∷ [])

not_closed : (e : Event) → is_heard e ≡ true → is_life_end_mark e ≡ false
not_closed (Iface line) h = refl
not_closed IfaceEnd h = refl
not_closed (Engine line) h = refl
not_closed e h = cc

alive_unended : (state : LifeState) → is_alive state ≡ true → is_ended state ≡ false
alive_unended life.Fresh h = refl
alive_unended life.Boot h = refl
alive_unended life.Idle h = refl
alive_unended life.Search h = refl
alive_unended life.Ended h = cc
alive_unended life.Over h = refl

-- an event that is heard may come while a life goes on
pub may_hear : (s : RevivalState) (e : Event) → is_alive s.life ≡ true → is_heard e ≡ true → may_happen s e ≡ true
may_hear s (Iface line) a h = ap not (alive_unended s.life a)
may_hear s IfaceEnd a h = ap not (alive_unended s.life a)
may_hear s (Engine line) a h = a
may_hear s e a h = cc

pub going_heard : (a b c : LoopState) (x y z : Received) (e : Event) → Going a b x y → c.events ≡ b.events ++ e ∷ [] → is_heard e ≡ true → is_alive b.state.life ≡ true → c.state ≡ revival_state_after b.state e
    → Offers (event_up b.state e) (event_child b.state e) (revival_event_text b.state e) (sinks b.output y b.log) (sinks c.output z c.log) b.failed c.failed → Going a c x z
going_heard a b c x y z e g t heard alive s o =
    record {
      events = g.events ++ e ∷ [];
      taken_is = one_more a.events b.events c.events g.events e g.taken_is t;
      unended = no_close e g.events g.unended (not_closed e heard);
      played =
          subst (λ (l : List Event). LifePlayed a c x z l) (sym (heard_last g.events e ∙ ap (λ v. events_for_revival g.events ++ cond v (e ∷ []) []) heard))
          (played_more a b c x y z (events_for_revival g.events) e g.played (may_hear b.state e alive heard) s o);
    }

-- a sink that was closed shows the same
pub going_same : (a b : LoopState) (x y z : Received) → z ≡ y → Going a b x y → Going a b x z
going_same a b x y z e g = subst (λ (r : Received). Going a b x r) (sym e) g

-- nothing was heard
pub passed_by : (a b c : LoopState) (x y : Received) (es : List Event) → c ≡ record b { events = c.events } → LifePlayed a b x y es → LifePlayed a c x y es
passed_by a b c x y es e p = subst (λ (s : LoopState). LifePlayed a s x y es) (sym e) (record { up = record { may = p.up.may; state_is = p.up.state_is; up = p.up.up; marks = p.up.marks }; child = p.child })

pub going_passed : (a b c : LoopState) (x y : Received) → Going a b x y → c ≡ record b { events = c.events } → c.events ≡ b.events ++ IfaceLong ∷ [] → Going a c x y
going_passed a b c x y g s t =
    record {
      events = g.events ++ IfaceLong ∷ [];
      taken_is = one_more a.events b.events c.events g.events IfaceLong g.taken_is t;
      unended = no_close IfaceLong g.events g.unended refl;
      played = subst (λ (l : List Event). LifePlayed a c x y l) (sym (heard_last g.events IfaceLong ∙ append-nil (events_for_revival g.events))) (passed_by a b c x y (events_for_revival g.events) s g.played);
    }

pub looped : (a b c : LoopState) (x y : Received) → Going a b x y → c ≡ record b { events = c.events } → c.events ≡ b.events ++ EngineLong ∷ [] → LoopedLife a c x y
looped a b c x y g s t =
    record {
      events = g.events;
      taken_is = one_more a.events b.events c.events g.events EngineLong g.taken_is t;
      unended = g.unended;
      played = passed_by a b c x y (events_for_revival g.events) s g.played;
    }

-- a message of which nothing is heard
by_message : (m : LifeMessage) (a b c : LoopState) (x y : Received) → is_heard (script_event m) ≡ false → Going a b x y → c ≡ record b { events = c.events } → c.events ≡ b.events ++ script_event m ∷ [] → GoesOrEnds (not (is_life_end m)) a c x y
by_message (messages.Iface (says.Line line)) a b c x y h g s t = cc
by_message (messages.Iface says.Long) a b c x y h g s t = going_passed a b c x y g s t
by_message (messages.Iface says.End) a b c x y h g s t = cc
by_message (messages.Line line) a b c x y h g s t = cc
by_message messages.LifeEnd a b c x y h g s t = looped a b c x y g s t

pub goes_or_ends : (m : LifeMessage) (r : Bool) (a b c : LoopState) (x y : Received) → r ≡ not (is_life_end m) → is_heard (script_event m) ≡ false → Going a b x y → c ≡ record b { events = c.events } → c.events ≡ b.events ++ script_event m ∷ [] → GoesOrEnds r a c x y
goes_or_ends m r a b c x y e h g s t = subst (λ (k : Bool). GoesOrEnds k a c x y) (sym e) (by_message m a b c x y h g s t)

pub alive_still : (s s' : RevivalState) (e : Event) → is_heard e ≡ true → is_alive s.life ≡ true → s' ≡ revival_state_after s e → is_alive s'.life ≡ true
alive_still s s' e h a z = ap (λ (x : RevivalState). is_alive x.life) z ∙ (event_stays s e h).alive a
