use Rattle.std.proofs.Common.{◌≡◌}
use Rattle.std.specs.Prelude.{is_some}
use Rattle.event_pipe.specs.Ends.{KeepsReceiver, messages_taken}
use Rattle.program_lifecycle.specs.Streams.{log_state}
use Rattle.tap_runner.specs.Logging.{Logging}
use Rattle.tap_runner.proofs.logging.keep_log.Given as goal

abbrev pub invariant-loop : goal.invariant-loop
invariant-loop g l = record {
  receiving_end : KeepsReceiver l.fn.from l.from;
  room : l.text.room ≡ l.fn.text.room;
  kept : is_some l.log ≡ is_some l.fn.log;
  logging : Logging (messages_taken l.from) (log_state g.L.Sink.state l.fn.log) (log_state g.L.Sink.state l.log) l.failed l.ends;
}
