use Rattle.event_pipe.specs.Ends.{messages_sent}
use Rattle.event_pipe.proofs.Standing.{arrived_self}
use Rattle.event_pipe.proofs.reader.read_pipe.Goals as goal

pub returns-clause-arrived : goal.returns-clause-arrived
returns-clause-arrived g c = arrived_self _ _ _ (messages_sent c.read_messages.new.to) _ c.read_messages.ensures.arrived
