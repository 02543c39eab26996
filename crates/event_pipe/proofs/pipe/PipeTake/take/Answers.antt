use Rattle.event_pipe.proofs.Keeps.{takes}
use Rattle.event_pipe.proofs.pipe.PipeTake.take.Goals as goal

pub recv_as-requires-clause-rule : goal.recv_as-requires-clause-rule
recv_as-requires-clause-rule g c = (takes g.M.Message.means _ _ c.loop.invariant.receiving_end.role, λ items views d at. tt)
