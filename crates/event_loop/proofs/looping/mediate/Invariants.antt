use Rattle.std.proofs.Common.{◌≡◌}
use Rattle.std.specs.Prelude.{is_some}
use Rattle.event_pipe.specs.Ends.{KeepsReceiver, messages_taken}
use Rattle.program_lifecycle.specs.Streams.{sinks_of}
use Rattle.event_loop.specs.Reached.{Opened}
use Rattle.event_loop.proofs.looping.mediate.Given as goal

abbrev pub invariant-loop : goal.invariant-loop
invariant-loop g l = record {
  receiving_end : KeepsReceiver l.fn.turns.receiving_end l.turns.receiving_end;
  room : l.turns.text.room ≡ l.fn.turns.text.room;
  kept : is_some l.log ≡ is_some l.fn.log;
  opened : Opened g.M.Mediator.means l.fn.turns.mediator l.turns.mediator l.first l.rest (messages_taken l.turns.receiving_end) l.sides
      (sinks_of g.O.Sink.state g.E.Sink.state g.L.Sink.state l.fn.output l.fn.engine l.fn.log)
      (sinks_of g.O.Sink.state g.E.Sink.state g.L.Sink.state l.output l.engine l.log) l.at;
}
