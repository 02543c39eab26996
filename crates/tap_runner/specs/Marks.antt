-- The marks of a log: `U LINE` is a line of the bridge, `u LINE` one of the engine.
use Rattle.std.specs.Prelude.{ℕ, List, [], ◌∷◌, ◌++◌, codes, map}
use Rattle.std.specs.List.{flat_map}
use Rattle.line_io.specs.Lines.{Piece, Whole, TooLong, items, line_feed}
use Rattle.event_pipe.specs.declared.message.Peer.{Peer}
use Rattle.event_pipe.specs.declared.message.Peer.TheVariants as peers
use Rattle.tap_runner.specs.declared.message.TapMark.{TapMark}
use Rattle.tap_runner.specs.declared.message.TapMark.TheVariants as says
use Rattle.tap_runner.specs.declared.message.TapMessage.{TapMessage}
use Rattle.tap_runner.specs.Messages.{tap_message}
use Rattle.tap_runner.specs.Lines.{tap_line_limit}
use Rattle.protocol_tokens.specs.Bytes.{blank}

-- the bridge has the place of the interface in the channel
abbrev pub mark_letter : Peer → ℕ
mark_letter peers.Iface = 85
mark_letter peers.Engine = 117

-- the mark of a line, without its line feed
abbrev pub tap_line_mark : Peer → List ℕ → List ℕ
tap_line_mark peer line = mark_letter peer ∷ blank ∷ line

-- the message that goes through the channel for a line: its mark
abbrev pub piece_message : Peer → Piece → TapMessage
piece_message peer (Whole line) = tap_message peer (says.Line (tap_line_mark peer line))
piece_message peer TooLong = tap_message peer says.Long

abbrev pub piece_messages : Peer → List Piece → List TapMessage
piece_messages peer pieces = map (piece_message peer) pieces

abbrev pub end_message : Peer → TapMessage
end_message peer = tap_message peer says.End

-- the messages for all bytes of a peer: the marks of their lines, and then the peer's end
abbrev pub channel_marks : Peer → List ℕ → List TapMessage
channel_marks peer bytes =
    piece_messages peer (items tap_line_limit bytes) ++ end_message peer ∷ []

-- how it stands in the log
abbrev pub log_of_mark : Peer → TapMark → List ℕ
log_of_mark peer (says.Line mark) = mark ++ line_feed ∷ []
log_of_mark peers.Iface says.Long = codes "x!" ++ line_feed ∷ []
log_of_mark peers.Iface says.End = codes "x." ++ line_feed ∷ []
log_of_mark peers.Engine says.Long = codes "u!" ++ line_feed ∷ []
log_of_mark peers.Engine says.End = codes "u." ++ line_feed ∷ []

abbrev pub log_of_message : TapMessage → List ℕ
log_of_message m = log_of_mark m.peer m.mark

abbrev pub log_text : List TapMessage → List ℕ
log_text messages = flat_map log_of_message messages
