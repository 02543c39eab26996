use Rattle.event_pipe.specs.Ends.{KeepsReceiver}
use Rattle.edge_tests.proofs.pipe.take_all.Given as goal

-- it stays the receiving end of the channel
abbrev pub invariant-loop-event : goal.invariant-loop-event
invariant-loop-event g l = KeepsReceiver l.fn.receiving_end l.receiving_end
