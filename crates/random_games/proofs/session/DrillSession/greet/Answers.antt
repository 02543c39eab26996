use Rattle.std.proofs.Common.{refl}
use Rattle.random_games.proofs.session.DrillSession.greet.Goals as goal

pub returns-clause-sent : goal.returns-clause-sent
returns-clause-sent c = (
  c.send.new.self,
  c.send.ensures.sends,
  (
    c.iface.new.self,
    c.iface.ensures.sends,
    (
      c.iface-2.new.self,
      c.iface-2.ensures.sends,
      (c.engine.new.self, c.engine.ensures.sends, (c.engine-2.new.self, c.engine-2.ensures.sends, (c.engine-3.new.self, c.engine-3.ensures.sends, (c.engine-4.new.self, c.engine-4.ensures.sends, refl)))),
    ),
  ),
)
