-- The messages of the lives, and the events of the revival's script for which they stand.
use Rattle.std.specs.Prelude.{List, Bool, true, false, map, ◌≡◌, refl}
use Rattle.line_io.specs.Event.{Event, Engine, EngineLong}
use Rattle.event_pipe.specs.Meaning.{MessageMeaning}
use Rattle.event_pipe.specs.Message.{sent_event, role_of_event, is_last_event, is_good, StandsForEvents}
use Rattle.event_pipe.specs.Ends.{messages_sent, messages_taken}
use Rattle.event_pipe.specs.declared.message.Peer.TheVariants as peers
use Rattle.event_pipe.specs.declared.pipe.PipeSend.{PipeSend}
use Rattle.event_pipe.specs.declared.pipe.PipeTake.{PipeTake}
use Rattle.reviver_runner.specs.declared.message.LifeMessage.{LifeMessage}
use Rattle.reviver_runner.specs.declared.message.LifeMessage.TheVariants as messages

-- the end of a life, as the revival's script writes it
abbrev pub life_end : Event
life_end = EngineLong

abbrev pub script_event : LifeMessage → Event
script_event (messages.Iface what) = sent_event peers.Iface what
script_event (messages.Line line) = Engine line
script_event messages.LifeEnd = life_end

-- the channel sees a message as its event
abbrev pub life_meaning : MessageMeaning LifeMessage
life_meaning = record {
  role = λ m. role_of_event (script_event m);
  is_last = λ m. is_last_event (script_event m);
  is_good = λ m. is_good (script_event m);
}

pub life_messages_stand : StandsForEvents life_meaning script_event
life_messages_stand = record { role = λ m. refl; is_last = λ m. refl; is_good = λ m. refl }

abbrev pub is_life_end : LifeMessage → Bool
is_life_end messages.LifeEnd = true
is_life_end m = false

-- the events sent so far, the oldest first
abbrev pub events_sent : PipeSend LifeMessage → List Event
events_sent to = map script_event (messages_sent to)

-- the events taken so far, the oldest first
abbrev pub events_taken : PipeTake LifeMessage → List Event
events_taken from = map script_event (messages_taken from)
