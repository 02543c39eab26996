use Rattle.std.proofs.Common.{◌≡◌, true, refl, sym, subst}
use Rattle.line_io.specs.Event.{event_of}
use Rattle.adapter_core.specs.Ends.{may}
use Rattle.adapter_core.specs.Parts.{CoreParts}
use Rattle.adapter_core.specs.Represents.{CoreInvariant, Extends}
use Rattle.adapter_core.proofs.StateInvariants.{extends_to}
use Rattle.adapter_core.proofs.CoreInvariants.{is_ready, keeps}
use Rattle.adapter_core.proofs.session.Core.take.Goals as goal

pub take-requires : goal.take-requires
take-requires c =
    let m = subst (λ (v : CoreParts). may v.ends (event_of c.args.event.now) ≡ true) (sym c.self.view_is) c.requires in
    record { ready = is_ready c.self.inside.parts (event_of c.args.event.now) c.self.invariant m }

pub invariant_of-self : goal.invariant_of-self
invariant_of-self c =
    let m = subst (λ (v : CoreParts). may v.ends (event_of c.args.event.now) ≡ true) (sym c.self.view_is) c.requires in
    subst CoreInvariant (sym c.take.ensures.after) (keeps c.self.inside.parts (event_of c.args.event.now) c.self.invariant m)

pub returns-clause-extends : goal.returns-clause-extends
returns-clause-extends c =
    let e = event_of c.args.event.now in
    let m = subst (λ (v : CoreParts). may v.ends e ≡ true) (sym c.self.view_is) c.requires in
    let x = extends_to c.self.inside.parts c.take.new.self e _ _ c.self.invariant m c.take.ensures.after refl refl in
    subst (λ (v : CoreParts). Extends v c.take.new.self e c.take.new.self.to_iface.text c.take.new.self.to_engine.text) c.self.view_is x
