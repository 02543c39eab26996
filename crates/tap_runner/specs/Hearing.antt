-- The bytes heard of a peer, and the messages sent for it.
use Rattle.std.specs.Prelude.{◌≡◌, ℕ, ◌+◌, List, [], ◌∷◌, ◌++◌, length, drop, Bool, true}
use Rattle.std.specs.Prelude.{false, if◌then◌else◌, Option, Some, None}
use Rattle.line_io.specs.Event.{has_feed}
use Rattle.line_io.specs.Lines.{Piece}
use Rattle.line_io.specs.Out.{Text}
use Rattle.event_pipe.specs.declared.message.Peer.{Peer}
use Rattle.tap_runner.specs.declared.message.TapMessage.{TapMessage}
use Rattle.tap_runner.specs.Messages.{has_end_mark}
use Rattle.tap_runner.specs.Lines.{last_pieces}
use Rattle.tap_runner.specs.Marks.{tap_line_mark, piece_messages, end_message}
use Rattle.tap_runner.specs.declared.part.TheConstants.{MARK_ROOM}

-- the open line of a peer, if it is not too long, and whether there was no memory for a mark
pub record Open : Type 0 where
  pub peer : Peer
  pub line : Option (List ℕ)
  pub has_lacked : Bool

abbrev pub no_open_line : Peer → Open
no_open_line peer = record { peer = peer; line = Some []; has_lacked = false }

-- after the letter and the blank of its mark stands the line
abbrev pub open_of : Peer → Text → Bool → Bool → Open
open_of peer mark is_long has_lacked =
    record {
      peer = peer;
      line = if is_long then None else Some (drop 2 mark.text);
      has_lacked = has_lacked;
    }

pub record IsTapMark (peer : Peer) (mark : Text) (is_long : Bool) : Type 0 where
  pub room : mark.room ≡ MARK_ROOM
  pub text : mark.text ≡ tap_line_mark peer (drop 2 mark.text)
  pub no_feed : has_feed (drop 2 mark.text) ≡ false

-- These lines ended, and what goes through the channel for them was sent; another line is open.
pub record TapHears (old new : Open) (before now : List TapMessage) (pieces : List Piece)
    (line : Option (List ℕ)) : Type 0 where
  pub peer : new.peer ≡ old.peer
  pub line_is : new.line ≡ line
  -- once a mark had no memory, this is known
  pub lacked : old.has_lacked ≡ true → new.has_lacked ≡ true
  pub sends : new.has_lacked ≡ false → now ≡ before ++ piece_messages old.peer pieces
  -- one for each line, also where there was no memory
  pub count : length now ≡ length before + length pieces
  pub going : has_end_mark now ≡ false

-- the last line was sent, and the peer's end
pub record EndsHearing (old new : Open) (before now : List TapMessage) : Type 0 where
  pub lacked : old.has_lacked ≡ true → new.has_lacked ≡ true
  pub sends : new.has_lacked ≡ false
      → now ≡ before ++ piece_messages old.peer (last_pieces old.line) ++ end_message old.peer ∷ []
  pub count : length now ≡ length before + length (last_pieces old.line) + 1
  pub over : has_end_mark now ≡ true
