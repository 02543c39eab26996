use Rattle.std.proofs.Common.{◌<◌, ℕ, length, refl, sym, subst}
use Rattle.std.specs.Prelude.{List}
use Rattle.line_io.specs.Event.{event_of}
use Rattle.line_io.specs.declared.limits.TheConstants.{SCRIPT_LINE}
use Rattle.adapter_core.specs.Represents.{IsWholeLines}
use Rattle.adapter_core.proofs.StateInvariants.{with_texts}
use Rattle.adapter_core.proofs.session.Core.step.Goals as goal

pub returns : goal.returns
returns c =
    let x = with_texts c.args.self.now _ (event_of c.args.event.now) _ _ c.advance.ensures.extends c.lines.ensures.iface c.lines.ensures.engine in (
      (refl, λ _. tt, x),
      record {
        steps = tt;
        iface_room = subst (λ (t : List ℕ). length t < SCRIPT_LINE) (sym c.lines.ensures.iface) c.advance.ensures.iface_room;
        engine_room = subst (λ (t : List ℕ). length t < SCRIPT_LINE) (sym c.lines.ensures.engine) c.advance.ensures.engine_room;
        iface_lines = subst IsWholeLines (sym c.lines.ensures.iface) c.advance.ensures.iface_lines;
        engine_lines = subst IsWholeLines (sym c.lines.ensures.engine) c.advance.ensures.engine_lines;
      },
    )
