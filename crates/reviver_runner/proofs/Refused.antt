-- A log of a whole run is not empty.
use Rattle.std.proofs.Common.{◌≡◌, ◌∙◌, ℕ, true, false, refl, sym, ap, List, [], ◌∷◌}
use Rattle.line_io.specs.Event.{Event, Iface, IfaceEnd, Engine, EngineLong, EngineEnd}
use Rattle.event_pipe.specs.declared.message.Peer.TheVariants as peers
use Rattle.event_pipe.specs.Events.{sent_by, has_last_event}
use Rattle.engine_revival.specs.declared.state.RevivalState.{RevivalState}
use Rattle.engine_revival.specs.Script.{AllMayHappen, texts_from, revival_script}
use Rattle.engine_revival.specs.Steps.{opening_revival}
use Rattle.program_lifecycle.proofs.Logs.{one_log, none_longer}
use Rattle.reviver_runner.specs.Laws.{ReviverLogIsNotEmpty, ReviverLogIsNotLonger}
use Rattle.reviver_runner.proofs.EndSteps.{ended_reported}

some_byte : {P : Type 0} (byte : ℕ) (bytes : List ℕ) → byte ∷ bytes ≡ [] → P
some_byte byte bytes e = cc

-- the mark of an event that may come
some_mark : (s : RevivalState) (events : List Event) → AllMayHappen s events → texts_from s events ≡ [] → events ≡ []
some_mark s [] may e = refl
some_mark s (Iface line ∷ events) may e = some_byte _ _ e
some_mark s (IfaceEnd ∷ events) may e = some_byte _ _ e
some_mark s (Engine line ∷ events) may e = some_byte _ _ e
some_mark s (EngineLong ∷ events) may e = some_byte _ _ e
some_mark s (EngineEnd ∷ events) may e = some_byte _ _ e
some_mark s (event ∷ events) may e = let never : false ≡ true = may.0 in cc

pub no_empty_log : ReviverLogIsNotEmpty
no_empty_log number bytes before after run e =
    let none = some_mark (opening_revival number) run.events run.may (one_log (revival_script number run.events) [] after.ledger.logs run.log e) in
    let over = sym (ended_reported run.arrived) ∙ ap has_last_event (sym run.orders ∙ ap (λ (es : List Event). sent_by peers.Iface es) none) in
    let ends : false ≡ true = sym over ∙ run.iface.over in
    cc

pub no_longer_log : ReviverLogIsNotLonger
no_longer_log number bytes before after run byte more e = none_longer (revival_script number run.events) more byte (one_log (revival_script number run.events) _ after.ledger.logs run.log e)
