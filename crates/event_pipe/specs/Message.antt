-- The meaning of a message.
use Rattle.std.specs.Prelude.{◌≡◌, ℕ, Bool, true, false, refl}
use Rattle.line_io.specs.Event.{Event, Iface, IfaceLong, IfaceEnd}
use Rattle.line_io.specs.Event.{Engine, EngineLong, EngineEnd, is_line}
use Rattle.protocol_tokens.specs.Quit.{is_quit}
use Rattle.event_pipe.specs.Meaning.{MessageMeaning}
use Rattle.event_pipe.specs.declared.message.Peer.{Peer}
use Rattle.event_pipe.specs.declared.message.Peer.TheVariants as peers
use Rattle.event_pipe.specs.declared.message.MessageBody.{MessageBody}
use Rattle.event_pipe.specs.declared.message.MessageBody.TheVariants as says

abbrev pub sent_event : Peer → MessageBody → Event
sent_event peers.Iface (says.Line line) = Iface line
sent_event peers.Iface says.Long = IfaceLong
sent_event peers.Iface says.End = IfaceEnd
sent_event peers.Engine (says.Line line) = Engine line
sent_event peers.Engine says.Long = EngineLong
sent_event peers.Engine says.End = EngineEnd

-- the role of a peer's sender: 1 or 2. The receiving end's is 0, and that of a pass that was joined is 3
abbrev pub role_of : Peer → ℕ
role_of peers.Iface = 1
role_of peers.Engine = 2

abbrev pub role_of_event : Event → ℕ
role_of_event (Iface line) = 1
role_of_event IfaceLong = 1
role_of_event IfaceEnd = 1
role_of_event (Engine line) = 2
role_of_event EngineLong = 2
role_of_event EngineEnd = 2
role_of_event e = 3

-- the last event of a side
abbrev pub is_last_event : Event → Bool
is_last_event (Iface line) = is_quit line
is_last_event IfaceEnd = true
is_last_event EngineEnd = true
is_last_event e = false

-- its line has at most 65,536 bytes and no line feed
abbrev pub is_good : Event → Bool
is_good (Iface line) = is_line line
is_good (Engine line) = is_line line
is_good e = true

-- the channel's view of an event
abbrev pub event_meaning : MessageMeaning Event
event_meaning = record { role = role_of_event; is_last = is_last_event; is_good = is_good }

-- the channel sees a message as the event for which it stands
pub record StandsForEvents {M : Type 0} (means : MessageMeaning M) (event : M → Event) : Type 0 where
  pub role : (m : M) → means.role m ≡ role_of_event (event m)
  pub is_last : (m : M) → means.is_last m ≡ is_last_event (event m)
  pub is_good : (m : M) → means.is_good m ≡ is_good (event m)

-- an event stands for itself
pub events_stand : StandsForEvents event_meaning (λ e. e)
events_stand = record { role = λ e. refl; is_last = λ e. refl; is_good = λ e. refl }
