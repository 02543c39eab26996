-- The events that a driver takes.
use mathlib.Core.Bool.{or-false, or-true}
use Rattle.std.proofs.Common.{◌||◌, ◌≡◌, ◌≤◌, ℕ, ℤ, Bool, true, false, not, cond, nat_le, List, [], ◌∷◌, length, Option, Some, None, refl, sym, ap, ◌∙◌, arith}
use Rattle.std.proofs.lemmas.Bool.Decides.{nat_tests}
use Rattle.std.proofs.lemmas.Bool.{and_parts, not-true}
use Rattle.chess_board.specs.declared.board.Move.{Move}
use Rattle.line_io.specs.Event.{Event, Open, Iface, IfaceEnd, IfaceLost, Engine, EngineEnd, EngineLost, is_line, has_feed}
use Rattle.event_pipe.specs.Message.{is_good}
use Rattle.event_pipe.specs.Events.{of, has_last_event, EventMayFollow}
use Rattle.driver_state_machine.specs.declared.driver_state.DriverStage.{DriverStage}
use Rattle.driver_state_machine.specs.declared.driver_state.DriverStage.TheVariants as stages
use Rattle.driver_state_machine.specs.declared.driver_state.DriverCall.{DriverCall}
use Rattle.driver_state_machine.specs.declared.order_words.OrderWord.{OrderWord}
use Rattle.driver_state_machine.specs.declared.order_words.OrderWord.TheVariants as orders
use Rattle.driver_state_machine.specs.Says.{EngineMessageSeen, Move as SaysMove, Over, Pong, Report, Feature, Other as SaysOther}
use Rattle.cecp_driver.specs.declared.driver.DriverParts.{DriverParts}
use Rattle.cecp_driver.specs.Driver.{driver_without_lines, placed_if, driver_after_call, GoIsAsked, EngineLineIsHeard, thought_call, features_at, OrdersBy, HeardBy}
use Rattle.cecp_driver.specs.Script.{DriverEventGives, IsPeerLine, may_come}
use Rattle.driver_runner.specs.HeardEvents.{is_not_long}
use Rattle.driver_runner.proofs.Gone.{is_ended, turn_stays, turn_ends}

-- no order and no line of the engine is its end
asked_other : (o : OrderWord) (v : DriverParts) (line : List ℕ) (call : DriverCall) → GoIsAsked v line o call → is_ended call ≡ false
asked_other orders.Go v line call e = ap is_ended e.1.1
asked_other o v line call e = ap is_ended e

thought_other : (depth : ℕ) (score : ℤ) (time nodes : ℕ) (best : Option Move) → is_ended (thought_call depth score time nodes best) ≡ false
thought_other depth score time nodes None = refl
thought_other depth score time nodes (Some best) = refl

heard_other : (said : EngineMessageSeen) (v : DriverParts) (call : DriverCall) → EngineLineIsHeard v said call → is_ended call ≡ false
heard_other (SaysMove text) v call e = ap is_ended e.1.1
heard_other Over v call e = ap is_ended e
heard_other (Pong n) v call e = ap is_ended e
heard_other (Report depth score time nodes moves) v call e = ap is_ended e.1.1 ∙ thought_other depth score time nodes e.0
heard_other (Feature text) v call e = ap is_ended e
heard_other SaysOther v call e = ap is_ended e

if_gone : (b : Bool) (v w : DriverParts) → w.talk.gone ≡ v.talk.gone → (cond b w v).talk.gone ≡ v.talk.gone
if_gone true v w e = e
if_gone false v w e = refl

placed_gone : (o : OrderWord) (v : DriverParts) (line : List ℕ) → (placed_if o v line).talk.gone ≡ v.talk.gone
placed_gone orders.Position v line = if_gone _ v _ refl
placed_gone o v line = refl

order_gone : (o : OrderWord) (line : List ℕ) (v v' : DriverParts) → OrdersBy o line v v' → v'.talk.gone ≡ v.talk.gone
order_gone o line v v' x =
    let w = placed_if o (driver_without_lines v) line in
    ap (λ (p : DriverParts). p.talk.gone) x.after ∙ turn_stays w.talk x.call (asked_other o w line x.call x.asked) ∙ placed_gone o (driver_without_lines v) line

features_gone : (stage : DriverStage) (v : DriverParts) (text : List ℕ) → (features_at stage v text).talk.gone ≡ v.talk.gone
features_gone stages.Fresh v text = refl
features_gone stages.Open v text = refl
features_gone stages.Over v text = refl

said_gone : (said : EngineMessageSeen) (v v' : DriverParts) (call : DriverCall) → EngineLineIsHeard v said call → v' ≡ driver_after_call v call → v'.talk.gone ≡ v.talk.gone
said_gone said v v' call h e = ap (λ (p : DriverParts). p.talk.gone) e ∙ turn_stays v.talk call (heard_other said v call h)

line_gone : (said : EngineMessageSeen) (v v' : DriverParts) → HeardBy said v v' → v'.talk.gone ≡ v.talk.gone
line_gone (Feature text) v v' e = ap (λ (p : DriverParts). p.talk.gone) e ∙ features_gone v.talk.stage v text
line_gone (SaysMove text) v v' h = said_gone (SaysMove text) v v' h.0 h.1.0 h.1.1
line_gone Over v v' h = said_gone Over v v' h.0 h.1.0 h.1.1
line_gone (Pong n) v v' h = said_gone (Pong n) v v' h.0 h.1.0 h.1.1
line_gone (Report depth score time nodes moves) v v' h = said_gone (Report depth score time nodes moves) v v' h.0 h.1.0 h.1.1
line_gone SaysOther v v' h = said_gone SaysOther v v' h.0 h.1.0 h.1.1

pub gone_next : (e : Event) (v v' : DriverParts) → DriverEventGives e v v' → v'.talk.gone ≡ (v.talk.gone || has_last_event (of 2 (e ∷ [])))
gone_next (Iface line) v v' c = order_gone _ line v v' c ∙ sym (or-false v.talk.gone)
gone_next IfaceEnd v v' c = order_gone _ _ v v' c ∙ sym (or-false v.talk.gone)
gone_next (Engine line) v v' c = line_gone _ (driver_without_lines v) v' c ∙ sym (or-false v.talk.gone)
gone_next EngineEnd v v' c = ap (λ (p : DriverParts). p.talk.gone) c ∙ turn_ends v.talk ∙ sym (or-true v.talk.gone)
gone_next e v v' c = absurd c

-- A long line is passed over, and what else is received may come.
pub may_is : (e : Event) (v : DriverParts) (received : List Event) → v.talk.gone ≡ has_last_event (of 2 received) → EventMayFollow received e → may_come v e ≡ is_not_long e
may_is Open v received g f = absurd (f.2 refl)
may_is IfaceLost v received g f = absurd (f.2 refl)
may_is (Engine line) v received g f = ap not (g ∙ f.0)
may_is EngineEnd v received g f = ap not (g ∙ f.0)
may_is EngineLost v received g f = absurd (f.2 refl)
may_is e v received g f = refl

whole_line : (line : List ℕ) → is_line line ≡ true → (length line ≤ 65536) × (has_feed line ≡ false)
whole_line line e =
    let both = and_parts (nat_le (length line) 65536) (not (has_feed line)) e in
    let few : nat_le (length line) 65536 ≡ true = both.0 in
    (grind (arith, nat_tests), not-true (has_feed line) both.1)

pub good_line : (e : Event) → is_good e ≡ true → IsPeerLine e
good_line (Iface line) g = whole_line line g
good_line (Engine line) g = whole_line line g
good_line e g = tt
