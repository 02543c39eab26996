-- The parts that a run needs beside its host.
use Rattle.std.specs.Prelude.{◌≤◌}
use Rattle.event_pipe.specs.declared.message.Peer.TheVariants as peers
use Rattle.event_pipe.specs.Ends.{IsFreshReceiver, KeepsSender, KeepsReceiver, AreOne}
use Rattle.tap_runner.specs.declared.parts.TapParts.{TapParts}
use Rattle.tap_runner.specs.Ran.{IsReadyWay}
use Rattle.tap_runner.specs.declared.logging.TheConstants.{LOG_ROOM}

-- nothing was heard, sent or taken yet
pub record TapPartsAreReady (parts : TapParts) : Type 0 where
  pub room : LOG_ROOM ≤ parts.text.room
  pub down : IsReadyWay parts.down peers.Iface
  pub up : IsReadyWay parts.up peers.Engine
  pub receiving_end : IsFreshReceiver parts.receiving_end
  pub one : AreOne parts.down.to parts.up.to parts.receiving_end

-- the ends of the channel are those of before
pub record TapKeepsEnds (old new : TapParts) : Type 0 where
  pub down : KeepsSender old.down.to new.down.to
  pub up : KeepsSender old.up.to new.up.to
  pub receiving_end : KeepsReceiver old.receiving_end new.receiving_end
