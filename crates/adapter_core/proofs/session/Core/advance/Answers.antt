use Rattle.std.proofs.Common.{arith}
use Rattle.adapter_core.proofs.RepliesShown.{iface_lines, engine_lines}
use Rattle.adapter_core.proofs.session.Core.advance.Goals as goal

pub returns : goal.returns
returns c =
    record {
      extends = c.take.ensures.extends;
      iface_room = omega (arith, c.take.ensures.iface);
      engine_room = omega (arith, c.take.ensures.engine);
      iface_lines = iface_lines _ _ _ _ _ c.take.ensures.extends;
      engine_lines = engine_lines _ _ _ _ _ c.take.ensures.extends;
    }
