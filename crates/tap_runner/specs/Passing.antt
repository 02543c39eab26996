-- One direction of a run.
use Rattle.std.specs.Prelude.{◌≡◌, ℕ, List, [], length, Bool, true, false, Some, IfSome}
use Rattle.std.specs.Io.KnownBytes.{IsAtEnd}
use Rattle.line_io.specs.Source.{Supplied, Received}
use Rattle.line_io.specs.Lines.{SourceGave}
use Rattle.event_pipe.specs.declared.message.Peer.{Peer}
use Rattle.event_pipe.specs.Counts.{CountsFault}
use Rattle.tap_runner.specs.declared.message.TapMessage.{TapMessage}
use Rattle.tap_runner.specs.Messages.{has_end_mark}
use Rattle.program_lifecycle.specs.Took.{LogTook}
use Rattle.tap_runner.specs.declared.passing.PassingTurn.{PassingTurn}
use Rattle.tap_runner.specs.declared.passing.PassingTurn.TheVariants as turns
use Rattle.tap_runner.specs.declared.passing.PassEnd.{PassEnd}
use Rattle.tap_runner.specs.Lines.{lines_ended_by, line_after}
use Rattle.tap_runner.specs.Marks.{piece_messages, channel_marks}
use Rattle.tap_runner.specs.Hearing.{Open, TapHears}

-- The work of one direction of a run.
pub record Passed (peer : Peer) (source source' : Supplied) (sink sink' : Received)
    (sent : List TapMessage) (end : PassEnd) : Type 0 where
  -- these bytes were read
  pub got : List ℕ
  pub reads : SourceGave source source' got
  -- they were handed on, unchanged and in order: all of them, or a prefix of them if a write failed
  pub handed : LogTook got end.write_failed sink sink'
  -- nothing is left, if nothing failed
  pub all : end.read_failed ≡ false → end.write_failed ≡ false
      → IfSome source.left (λ _. IsAtEnd source'.left)
  pub read_count : CountsFault source.faults source'.faults end.read_failed
  -- the marks of their lines were sent to the log, and the end
  pub reported : end.has_lacked_memory ≡ false → sent ≡ channel_marks peer got
  -- one mark for each, also where there was no memory
  pub count : length sent ≡ length (channel_marks peer got)
  pub over : has_end_mark sent ≡ true

abbrev pub is_last_turn : PassingTurn → Bool
is_last_turn turns.More = false
is_last_turn turn = true

abbrev pub has_failed_to_read : PassingTurn → Bool
has_failed_to_read turns.ReadFailed = true
has_failed_to_read turn = false

abbrev pub has_failed_to_write : PassingTurn → Bool
has_failed_to_write turns.WriteFailed = true
has_failed_to_write turn = false

-- the work of one turn
pub record Turned (old new : Open) (source source' : Supplied) (sink sink' : Received)
    (before now : List TapMessage) (turn : PassingTurn) : Type 0 where
  pub got : List ℕ
  pub reads : SourceGave source source' got
  pub read_count : CountsFault source.faults source'.faults (has_failed_to_read turn)
  pub handed : LogTook got (has_failed_to_write turn) sink sink'
  pub hears : TapHears old new before now (lines_ended_by old.line got) (line_after old.line got)
  pub at_end : turn ≡ turns.Ended → IsAtEnd source'.left

-- so far
pub record Passing (peer : Peer) (part : Open) (source source' : Supplied) (sink sink' : Received)
    (sent : List TapMessage) : Type 0 where
  pub got : List ℕ
  pub reads : SourceGave source source' got
  pub handed : LogTook got false sink sink'
  pub same : source'.faults ≡ source.faults
  pub peer_is : part.peer ≡ peer
  pub line_is : part.line ≡ line_after (Some []) got
  pub reported : part.has_lacked ≡ false → sent ≡ piece_messages peer (lines_ended_by (Some []) got)
  pub count : length sent ≡ length (lines_ended_by (Some []) got)
  pub going : has_end_mark sent ≡ false
