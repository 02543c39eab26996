-- The parts that a run of the lives needs beside its host.
use Rattle.std.specs.Prelude.{◌≡◌, ℕ, ◌≤◌, false}
use Rattle.std.specs.VecDeque.{deque_capacity}
use Rattle.engine_revival.specs.declared.script.TheConstants.{EVENT_ROOM}
use Rattle.engine_revival.specs.Steps.{opening_revival}
use Rattle.event_pipe.specs.declared.message.Peer.TheVariants as peers
use Rattle.event_pipe.specs.Ends.{IsSender, IsFreshSender, IsFreshReceiver}
use Rattle.event_pipe.specs.Ends.{KeepsSender, AreOne}
use Rattle.reviver_runner.specs.Messages.{events_sent}
use Rattle.event_pipe.specs.Events.{has_last_event}
use Rattle.reviver_runner.specs.Looped.{IsReadyLoop, KeepsLoop}
use Rattle.reviver_runner.specs.declared.parts.MadeParts.{MadeParts}
use Rattle.reviver_runner.specs.declared.parts.ReviverParts.{ReviverParts}

-- The first of so many lives goes on, there is room for the marks of an event, and
-- nothing was sent or taken yet.
pub record IsMade (lives : ℕ) (made : MadeParts) : Type 0 where
  pub begins : made.revival.state ≡ opening_revival lives
  pub room : EVENT_ROOM ≤ made.text.room
  pub iface : IsFreshSender made.iface peers.Iface
  pub engine : IsFreshSender made.to peers.Engine
  pub receiving_end : IsFreshReceiver made.from
  pub one : AreOne made.iface made.to made.from

-- the ends of the channel, and room for the marks of an event
pub record ReviverPartsAreReady {L P : Type 0} (parts : ReviverParts L P) : Type 0 where
  pub looping : IsReadyLoop parts.looping
  pub sender : IsSender parts.to
  pub engine : parts.to.peer ≡ peers.Engine
  pub going : has_last_event (events_sent parts.to) ≡ false

-- the ends of the channel, the log and its room are those of before, and there is
-- as much room for processes
pub record ReviverKeepsEnds {L P : Type 0} (old new : ReviverParts L P) : Type 0 where
  pub ready : ReviverPartsAreReady new
  pub sender : KeepsSender old.to new.to
  pub looping : KeepsLoop old.looping new.looping
  pub processes : deque_capacity new.processes ≡ deque_capacity old.processes
