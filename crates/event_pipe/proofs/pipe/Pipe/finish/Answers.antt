use Rattle.std.proofs.Common.{◌∙◌, ap}
use Rattle.crossbeam_channel.specs.Claims.{view}
use Rattle.event_pipe.specs.declared.pipe.KnownOfPass.{KnownOfPass}
use Rattle.event_pipe.specs.Message.{role_of}
use Rattle.event_pipe.proofs.Keeps.{merges_first, merges_second}
use Rattle.event_pipe.proofs.Arrivals.{totals, came_first, came_second, came_within}
use Rattle.event_pipe.proofs.pipe.Pipe.finish.Goals as goal

pub absorb-requires-clause-rule : goal.absorb-requires-clause-rule
absorb-requires-clause-rule g c = merges_first g.M.Message.means _ _ _ _ c.requires.receiving_end.role c.requires.receiving_end.made c.requires.receiving_end.joined (c.requires.iface.0.role ∙ ap role_of c.requires.iface.1)

pub absorb-requires-2-clause-rule : goal.absorb-requires-2-clause-rule
absorb-requires-2-clause-rule g c =
    let e = c.absorb.ensures.rule in
    merges_second g.M.Message.means _ _ _ _ (ap (λ (h : KnownOfPass _). h.role) e ∙ c.requires.receiving_end.role) (ap (λ (h : KnownOfPass _). h.made) e ∙ c.requires.receiving_end.made) (ap (λ (h : KnownOfPass _). h.joined) e) (c.requires.engine.0.role ∙ ap role_of c.requires.engine.1)

pub learn_as-requires-clause-rule : goal.learn_as-requires-clause-rule
learn_as-requires-clause-rule g c =
    let e = c.absorb.ensures.rule in
    let f = c.absorb-2.ensures.rule in
    totals g.M.Message.means _ _ (ap (λ (h : KnownOfPass _). h.role) f ∙ ap (λ (h : KnownOfPass _). h.role) e ∙ c.requires.receiving_end.role) (ap (λ (h : KnownOfPass _). h.joined) f)

pub returns-clause-iface : goal.returns-clause-iface
returns-clause-iface g c = came_first g.M.Message.means (view c.args.receiving_end.pass) (view c.absorb.new.pass) (view c.absorb-2.new.pass) (view c.args.iface.pass) (view c.args.engine.pass) c.absorb.ensures.rule c.absorb-2.ensures.rule _ c.learn_as.ensures.rule.1

pub returns-clause-engine : goal.returns-clause-engine
returns-clause-engine g c = came_second g.M.Message.means (view c.args.receiving_end.pass) (view c.absorb.new.pass) (view c.absorb-2.new.pass) (view c.args.iface.pass) (view c.args.engine.pass) c.absorb.ensures.rule c.absorb-2.ensures.rule _ c.learn_as.ensures.rule.1

pub returns-clause-room : goal.returns-clause-room
returns-clause-room g c = came_within g.M.Message.means (view c.args.receiving_end.pass) (view c.absorb.new.pass) (view c.absorb-2.new.pass) (view c.args.iface.pass) (view c.args.engine.pass) c.absorb.ensures.rule c.absorb-2.ensures.rule _ c.learn_as.ensures.rule.1
