-- The log of a run.
use Rattle.std.specs.Prelude.{◌≡◌, ℕ, List, length, Bool, true}
use Rattle.line_io.specs.Source.{Received}
use Rattle.event_pipe.specs.declared.message.Peer.TheVariants as peers
use Rattle.event_pipe.specs.declared.message.Peer.{Peer}
use Rattle.tap_runner.specs.declared.message.TapMark.{TapMark}
use Rattle.tap_runner.specs.declared.message.TapMark.TheVariants as says
use Rattle.tap_runner.specs.declared.message.TapMessage.{TapMessage}
use Rattle.tap_runner.specs.Messages.{marks_of, has_end_mark}
use Rattle.program_lifecycle.specs.Took.{LogTook}
use Rattle.tap_runner.specs.declared.logging.EndedSides.{EndedSides}
use Rattle.tap_runner.specs.Marks.{log_text}

abbrev pub mark_length : TapMark → ℕ
mark_length (says.Line mark) = length mark
mark_length mark = 0

-- which sides have ended, after a mark of this one
abbrev pub ends_with_mark : EndedSides → Peer → TapMark → EndedSides
ends_with_mark ends peers.Iface says.End = record { bridge = true; engine = ends.engine }
ends_with_mark ends peers.Engine says.End = record { bridge = ends.bridge; engine = true }
ends_with_mark ends peer mark = ends

abbrev pub tap_ends_after : EndedSides → TapMessage → EndedSides
tap_ends_after ends m = ends_with_mark ends m.peer m.mark

-- The log took what was received, in order, each mark on a line, or a prefix
-- of that text if it failed.
pub record Logged (received : List TapMessage) (log log' : Received) (failed : Bool) : Type 0 where
  pub text : LogTook (log_text received) failed log log'
  pub bridge_ended : has_end_mark (marks_of peers.Iface received) ≡ true
  pub engine_ended : has_end_mark (marks_of peers.Engine received) ≡ true

-- so far
pub record Logging (received : List TapMessage) (log log' : Received) (failed : Bool)
    (ends : EndedSides) : Type 0 where
  pub text : LogTook (log_text received) failed log log'
  pub bridge : ends.bridge ≡ true → has_end_mark (marks_of peers.Iface received) ≡ true
  pub engine : ends.engine ≡ true → has_end_mark (marks_of peers.Engine received) ≡ true
