-- The result of a run of both pipes.
use Rattle.std.specs.Prelude.{◌≤◌, ℕ, List, ◌++◌}
use Rattle.line_io.specs.Event.{Event}
use Rattle.event_pipe.specs.declared.message.Peer.TheVariants as peers
use Rattle.event_pipe.specs.Events.{sent_by}
use Rattle.event_pipe.specs.Ends.{IsFreshSender, IsFreshReceiver, KeepsSender, KeepsReceiver, AreOne}
use Rattle.event_pipe.specs.Arrivals.{Arrived}
use Rattle.program_lifecycle.specs.Streams.{RunStreams}
use Rattle.event_loop.specs.declared.mediator.TheConstants.{TURN_ROOM}
use Rattle.event_loop.specs.declared.parts.MediatorParts.{MediatorParts}
use Rattle.event_loop.specs.declared.run.RunEnd.{RunEnd}
use Rattle.event_loop.specs.Meaning.{MediatorMeaning}
use Rattle.event_loop.specs.First.{first_events}
use Rattle.event_loop.specs.Looped.{Looped}

-- nothing was written, sent or taken yet
pub record MediatorIsReady {M : Type 0} (means : MediatorMeaning M) (parts : MediatorParts M) : Type 0 where
  pub mediator : means.fresh parts.turns.mediator
  pub room : TURN_ROOM ≤ parts.turns.text.room
  pub iface : IsFreshSender parts.iface peers.Iface
  pub engine : IsFreshSender parts.engine peers.Engine
  pub receiving_end : IsFreshReceiver parts.turns.receiving_end
  pub one : AreOne parts.iface parts.engine parts.turns.receiving_end

-- it is the same channel
pub record KeepsChannel {M : Type 0} (old new : MediatorParts M) : Type 0 where
  pub iface : KeepsSender old.iface new.iface
  pub engine : KeepsSender old.engine new.engine
  pub receiving_end : KeepsReceiver old.turns.receiving_end new.turns.receiving_end

-- The loop is over. What it received is the first lines, and then of each side what arrived there.
pub record MediatorRan {M : Type 0} (means : MediatorMeaning M) (m0 m : M) (first : List ℕ) (before after : RunStreams)
    (end : RunEnd) : Type 0 where
  pub later : List Event
  pub looped : Looped means m0 m (first_events first ++ later) before.into after.into end.done
  pub iface : Arrived peers.Iface before.input after.input (sent_by peers.Iface later) end.iface
  pub engine :
      Arrived peers.Engine before.source after.source (sent_by peers.Engine later) end.engine
