-- The talk that events bring about.
use Rattle.std.proofs.Common.{◌≡◌, ℕ, List, [], ◌∷◌, ◌++◌, codes, Bool, true, false, not, refl, sym, ap, ◌∙◌, subst, if◌then◌else◌}
use Rattle.line_io.specs.Event.{Event, Iface, IfaceEnd, Engine, EngineLong, EngineEnd}
use Rattle.engine_revival.specs.declared.words.LifeState.{LifeState}
use Rattle.engine_revival.specs.declared.words.LifeState.TheVariants as life
use Rattle.engine_revival.specs.declared.state.RevivalState.{RevivalState}
use Rattle.engine_revival.specs.Dialogue.{said_in}
use Rattle.engine_revival.specs.Steps.{opening_revival, state_once_ended, gives, is_alive, may_begin}
use Rattle.engine_revival.specs.Calls.{RevivalCall, Order, Heard, Ended, Begin, Over, revival_after, is_life_over, may_call, state_after_call}
use Rattle.engine_revival.specs.Script.{AllMayHappen, call_of_event, may_happen, revival_state_after, state_behind}
use Rattle.engine_revival.specs.Laws.{FitsUp, CallsMayCome, revival_state_of}
use Rattle.engine_revival.specs.Talk.{IsAlwaysLawful, TalkIsLawful, calls_behind, calls_of, with_calls}
use Rattle.engine_revival.proofs.Agrees.{answers_are_waited_for, given_is_waited_for, in_order}
use Rattle.engine_revival.proofs.Presses.{presses_are_given}
use Rattle.engine_revival.proofs.Ready.{ready_is_answered}
use Rattle.engine_revival.proofs.Sent.{awaited_is_given, lives_are_asked}
use Rattle.engine_revival.proofs.Values.{given_searches}

-- these calls may come, and lead here
record Lead (lives : ℕ) (calls : List RevivalCall) (s : RevivalState) : Type 0 where
  may_come : CallsMayCome lives calls
  state_is : revival_state_of lives calls ≡ s

one_more : (lives : ℕ) (calls : List RevivalCall) (s : RevivalState) (call : RevivalCall) → may_call s call ≡ true → Lead lives calls s → Lead lives (call ∷ calls) (revival_after s call)
one_more lives calls s call m h = record {
  may_come = (h.may_come, ap (λ (x : RevivalState). may_call x call) h.state_is ∙ m);
  state_is = ap (λ (x : RevivalState). revival_after x call) h.state_is;
}

not_over : (l : LifeState) → is_alive l ≡ true → not (is_life_over l) ≡ true
not_over life.Over h = cc
not_over life.Ended h = cc
not_over l h = refl

turn : (w : Bool) (s : RevivalState) → may_begin s ≡ w → may_call (state_once_ended s) (if w then Begin else Over) ≡ true
turn true s h = h
turn false s h = refl

event_leads : (lives : ℕ) (calls : List RevivalCall) (s : RevivalState) (e : Event) → may_happen s e ≡ true → Lead lives calls s → Lead lives (with_calls s e calls) (revival_state_after s e)
event_leads lives calls s (Iface line) m h = one_more lives calls s (Order line) m h
event_leads lives calls s IfaceEnd m h = one_more lives calls s (Order (codes "quit")) m h
event_leads lives calls s (Engine line) m h = one_more lives calls s (Heard line) m h
event_leads lives calls s EngineLong m h =
    one_more lives (Ended ∷ calls) (state_once_ended s) (call_of_event s EngineLong) (turn (may_begin s) s refl) (one_more lives calls s Ended m h)
event_leads lives calls s EngineEnd m h = one_more lives calls s Over (not_over s.life m) h
event_leads lives calls s e m h = absurd (cc)

events_lead : (lives : ℕ) (calls : List RevivalCall) (s : RevivalState) (es : List Event) → AllMayHappen s es → Lead lives calls s → Lead lives (calls_behind s es calls) (state_behind s es)
events_lead lives calls s [] m h = h
events_lead lives calls s (e ∷ es) m h = events_lead lives (with_calls s e calls) (revival_state_after s e) es m.1 (event_leads lives calls s e m.0 h)

pub talk_is_lawful : TalkIsLawful
talk_is_lawful lives es m =
    let calls = calls_of lives es in
    let s = state_behind (opening_revival lives) es in
    let h = events_lead lives [] (opening_revival lives) es m (record { may_come = tt; state_is = refl }) in
    record {
      in_order = in_order lives calls h.may_come;
      waited_for = λ line g. subst (λ (x : RevivalState). FitsUp (said_in line) x.upper) h.state_is
          (given_is_waited_for lives calls line h.may_come (ap (λ (x : RevivalState). gives x (said_in line)) h.state_is ∙ g));
      stands_in = λ call. answers_are_waited_for (state_after_call s call);
      given = λ line a. ap (λ (x : RevivalState). gives x (said_in line)) (sym h.state_is) ∙ awaited_is_given lives calls line h.may_come a;
      asked = lives_are_asked lives calls h.may_come;
      ready = ready_is_answered lives calls h.may_come;
      presses = λ call more order e. presses_are_given lives call more order;
      searches = λ call more e d. given_searches lives call more (subst (λ (x : List RevivalCall). CallsMayCome lives x) e h.may_come) d;
    }

-- UP TO EACH EVENT

prefix_may : (s : RevivalState) (prefix rest : List Event) → AllMayHappen s (prefix ++ rest) → AllMayHappen s prefix
prefix_may s [] rest m = tt
prefix_may s (e ∷ es) rest m = (m.0, prefix_may (revival_state_after s e) es rest m.1)

pub always_lawful : (lives : ℕ) (events : List Event) → AllMayHappen (opening_revival lives) events → IsAlwaysLawful lives events
always_lawful lives events m prefix rest e = talk_is_lawful lives prefix (prefix_may (opening_revival lives) prefix rest (subst (λ (x : List Event). AllMayHappen (opening_revival lives) x) e m))
