-- The messages to the log.
use Rattle.std.specs.Prelude.{ℕ, List, Bool, true, false}
use Rattle.line_io.specs.Event.{is_line}
use Rattle.event_pipe.specs.declared.message.Peer.{Peer}
use Rattle.event_pipe.specs.Meaning.{MessageMeaning}
use Rattle.event_pipe.specs.Message.{role_of}
use Rattle.event_pipe.specs.Rule.{messages_of, messages_by, has_last}
use Rattle.tap_runner.specs.declared.message.TapMark.{TapMark}
use Rattle.tap_runner.specs.declared.message.TapMark.TheVariants as says
use Rattle.tap_runner.specs.declared.message.TapMessage.{TapMessage}

abbrev pub tap_message : Peer → TapMark → TapMessage
tap_message peer mark = record { peer = peer; mark = mark }

abbrev pub is_end_mark : TapMark → Bool
is_end_mark says.End = true
is_end_mark mark = false

-- a mark has at most 65,536 bytes and no line feed
abbrev pub is_short_mark : TapMark → Bool
is_short_mark (says.Line mark) = is_line mark
is_short_mark mark = true

abbrev pub tap_meaning : MessageMeaning TapMessage
tap_meaning = record {
  role = λ m. role_of m.peer;
  is_last = λ m. is_end_mark m.mark;
  is_good = λ m. is_short_mark m.mark;
}

-- the messages of one side, in order
abbrev pub marks_of : Peer → List TapMessage → List TapMessage
marks_of peer messages = messages_by tap_meaning peer messages

-- the end of a side is among them
abbrev pub has_end_mark : List TapMessage → Bool
has_end_mark messages = has_last tap_meaning messages
