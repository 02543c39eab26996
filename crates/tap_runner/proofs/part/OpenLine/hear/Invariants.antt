-- The rest of the bytes completes the lines.
use Rattle.std.proofs.Common.{◌≡◌, ◌+◌, ◌++◌, length, drop, true, false}
use Rattle.event_pipe.specs.Ends.{KeepsSender, messages_sent}
use Rattle.tap_runner.specs.Messages.{has_end_mark}
use Rattle.tap_runner.specs.Lines.{lines_ended_by, line_after}
use Rattle.tap_runner.specs.Marks.{piece_messages}
use Rattle.tap_runner.proofs.part.OpenLine.hear.Given as goal

abbrev pub invariant-loop-byte : goal.invariant-loop-byte
invariant-loop-byte g l = record {
  keeps : KeepsSender l.fn.to l.to;
  peer : l.self.peer ≡ l.fn.self.peer;
  line : line_after l.self.line (drop l.byte-index l.bytes) ≡ line_after l.fn.self.line l.bytes;
  lacked : l.fn.self.has_lacked ≡ true → l.self.has_lacked ≡ true;
  sends : l.self.has_lacked ≡ false
      → messages_sent l.to ++ piece_messages l.fn.self.peer (lines_ended_by l.self.line (drop l.byte-index l.bytes))
      ≡ messages_sent l.fn.to ++ piece_messages l.fn.self.peer (lines_ended_by l.fn.self.line l.bytes);
  count : length (messages_sent l.to) + length (lines_ended_by l.self.line (drop l.byte-index l.bytes))
      ≡ length (messages_sent l.fn.to) + length (lines_ended_by l.fn.self.line l.bytes);
  going : has_end_mark (messages_sent l.to) ≡ false;
}
