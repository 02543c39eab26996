use Rattle.std.proofs.Common.{◌≡◌, map}
use Rattle.crossbeam_channel.specs.Ends.{sends_on}
use Rattle.event_pipe.specs.Ends.{IsSender, messages_sent}
use Rattle.event_pipe.specs.Arrivals.{LinesSentSoFar}
use Rattle.event_pipe.proofs.reader.read_messages.Given as goal

abbrev pub invariant-loop : goal.invariant-loop
invariant-loop g l = record {
  sender : IsSender l.to;
  peer : l.to.peer ≡ l.fn.to.peer;
  channel : sends_on l.to.sender ≡ sends_on l.fn.to.sender;
  heard : LinesSentSoFar l.fn.to.peer l.lines (g.S.Source.state l.fn.source) (g.S.Source.state l.source) (map g.M.ReaderMessage.event (messages_sent l.to));
}
