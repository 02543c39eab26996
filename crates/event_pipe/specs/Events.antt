-- A channel of events.
use Rattle.std.specs.Prelude.{ℕ, List, Bool}
use Rattle.line_io.specs.Event.{Event}
use Rattle.event_pipe.specs.declared.message.Peer.{Peer}
use Rattle.event_pipe.specs.Message.{event_meaning}
use Rattle.event_pipe.specs.Rule.{has_role, messages_of, messages_by, has_last, MayFollow}
use Rattle.event_pipe.specs.Ends.{CameFrom}

abbrev pub is_of_role : ℕ → Event → Bool
is_of_role role e = has_role event_meaning role e

-- the messages of one sender, in order
abbrev pub of : ℕ → List Event → List Event
of role events = messages_of event_meaning role events

-- the messages of one peer, in order
abbrev pub sent_by : Peer → List Event → List Event
sent_by peer events = messages_by event_meaning peer events

-- the last event of a side is among them
abbrev pub has_last_event : List Event → Bool
has_last_event events = has_last event_meaning events

-- after what was taken it may come: its side has not ended, and its line is within the limit
abbrev pub EventMayFollow : List Event → Event → Type 0
EventMayFollow taken x = MayFollow event_meaning taken x

-- Of what a peer's sender sent a prefix was taken, and all of it if that has the peer's end.
abbrev pub CameFromPeer : Peer → List Event → List Event → Type 0
CameFromPeer peer taken sent = CameFrom event_meaning peer taken sent
