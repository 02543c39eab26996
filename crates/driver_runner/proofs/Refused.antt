-- A log of a whole run is not empty.
use Rattle.std.proofs.Common.{◌≡◌, ◌∙◌, ℕ, Bool, true, false, refl, sym, ap, List, [], ◌∷◌, ◌||◌}
use Rattle.line_io.specs.Event.{Event, Open, Iface, IfaceLong, IfaceEnd, IfaceLost, Engine, EngineLong, EngineEnd, EngineLost}
use Rattle.event_pipe.specs.Message.{is_last_event}
use Rattle.event_pipe.specs.declared.message.Peer.TheVariants as peers
use Rattle.event_pipe.specs.Events.{sent_by, has_last_event}
use Rattle.cecp_driver.specs.declared.driver.DriverParts.{DriverParts}
use Rattle.cecp_driver.specs.Script.{DriverTakesAll, script_text}
use Rattle.program_lifecycle.proofs.Logs.{one_log, none_longer}
use Rattle.driver_runner.specs.Laws.{DriverLogIsNotEmpty, DriverLogIsNotLonger}
use Rattle.driver_runner.specs.HeardEvents.{without_long}

-- no long line is an end
ended_kept : (events : List Event) → has_last_event (without_long events) ≡ has_last_event events
ended_kept [] = refl
ended_kept (IfaceLong ∷ events) = ended_kept events
ended_kept (EngineLong ∷ events) = ended_kept events
ended_kept (Open ∷ events) = ended_kept events
ended_kept (Iface line ∷ events) = ap (λ (b : Bool). is_last_event (Iface line) || b) (ended_kept events)
ended_kept (IfaceEnd ∷ events) = refl
ended_kept (IfaceLost ∷ events) = ended_kept events
ended_kept (Engine line ∷ events) = ended_kept events
ended_kept (EngineEnd ∷ events) = refl
ended_kept (EngineLost ∷ events) = ended_kept events

some_byte : {P : Type 0} (byte : ℕ) (bytes : List ℕ) → byte ∷ bytes ≡ [] → P
some_byte byte bytes e = cc

-- the mark of an event that comes
some_mark : (v : DriverParts) (events : List Event) (states : List DriverParts) → DriverTakesAll v events states → script_text events states ≡ [] → events ≡ []
some_mark v [] states g e = refl
some_mark v (event ∷ events) [] g e = absurd g
some_mark v (Iface line ∷ events) (w ∷ states) g e = some_byte _ _ e
some_mark v (IfaceEnd ∷ events) (w ∷ states) g e = some_byte _ _ e
some_mark v (Engine line ∷ events) (w ∷ states) g e = some_byte _ _ e
some_mark v (EngineEnd ∷ events) (w ∷ states) g e = some_byte _ _ e
some_mark v (event ∷ events) (w ∷ states) g e = absurd g.0.comes

pub no_empty_log : DriverLogIsNotEmpty
no_empty_log bytes before after run e =
    let none = some_mark _ run.events run.states run.goes (one_log (script_text run.events run.states) [] after.ledger.logs run.log e) in
    let over = sym (ended_kept run.iface.arrived) ∙ ap has_last_event (sym run.iface.are ∙ ap (λ (es : List Event). sent_by peers.Iface es) none) in
    let ends : false ≡ true = sym over ∙ run.iface.did_arrive.over in
    cc

pub no_longer_log : DriverLogIsNotLonger
no_longer_log bytes before after run byte more e = none_longer (script_text run.events run.states) more byte (one_log (script_text run.events run.states) _ after.ledger.logs run.log e)
