-- The result of a run of both directions.
use Rattle.std.specs.Prelude.{◌≡◌, ℕ, ◌<◌, List, vec_len}
use Rattle.event_pipe.specs.declared.message.Peer.{Peer}
use Rattle.event_pipe.specs.declared.message.Peer.TheVariants as peers
use Rattle.event_pipe.specs.declared.pipe.PipeSend.{PipeSend}
use Rattle.event_pipe.specs.Ends.{IsFreshSender}
use Rattle.tap_runner.specs.declared.message.TapMessage.{TapMessage}
use Rattle.tap_runner.specs.Messages.{marks_of}
use Rattle.program_lifecycle.specs.Streams.{RunStreams}
use Rattle.program_lifecycle.specs.Took.{LogTook}
use Rattle.tap_runner.specs.declared.passing.Direction.{Direction}
use Rattle.tap_runner.specs.declared.run.TapEnd.{TapEnd}
use Rattle.tap_runner.specs.Hearing.{Open, no_open_line}
use Rattle.tap_runner.specs.Marks.{log_text}
use Rattle.tap_runner.specs.Passing.{Passed}

-- nothing was sent or heard yet
pub record IsTapReady (to : PipeSend TapMessage) (part : Open) (room : ℕ) (peer : Peer) : Type 0 where
  pub to_is : IsFreshSender to peer
  pub part_is : part ≡ no_open_line peer
  pub some : 0 < room

abbrev pub IsReadyWay : Direction → Peer → Type 0
IsReadyWay way peer = IsTapReady way.to way.part (vec_len way.buf) peer

-- The bridge's output was handed on to the engine, and the engine's output to the bridge. The
-- log is the marks of the lines of both, each side's in its order.
pub record TapRan (before after : RunStreams) (end : TapEnd) : Type 0 where
  -- the lines and ends of both, in the order of the log
  pub messages : List TapMessage
  pub from_bridge : Passed peers.Iface before.input after.input
      before.into.engine after.into.engine (marks_of peers.Iface messages) end.bridge
  pub from_engine : Passed peers.Engine before.source after.source
      before.into.output after.into.output (marks_of peers.Engine messages) end.engine
  pub to_log : LogTook (log_text messages) end.log_failed before.into.log after.into.log
