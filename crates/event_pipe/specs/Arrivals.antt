-- The arrivals of a side: the events of its lines, up to its end.
use Rattle.std.specs.Prelude.{◌≡◌, ℕ, ◌+◌, ◌≤◌, List, [], ◌∷◌, ◌++◌, length, map, Bool}
use Rattle.std.specs.Prelude.{true, false, if◌then◌else◌, IfSome, Result, IsErr, IsTrue}
use Rattle.std.specs.List.{list_any}
use Rattle.std.specs.Io.KnownBytes.{IsAtEnd}
use Rattle.line_io.specs.Event.{Event, IfaceEnd, EngineEnd}
use Rattle.line_io.specs.Source.{Supplied}
use Rattle.line_io.specs.Lines.{Piece, Whole, TooLong, Held, Gave, SourceGave, NothingIsLeftAtEnd, items, read_room}
use Rattle.line_io.specs.Lending.{outcome, is_read_end as is_end_answer}
use Rattle.line_io.specs.Runs.{SourceCalls, Call, reading_goes_on, lines_given, whole}
use Rattle.line_io.specs.declared.lines.Item.{Item}
use Rattle.line_io.specs.declared.faults.ReadFault.{ReadFault}
use Rattle.event_pipe.specs.declared.message.Peer.{Peer}
use Rattle.event_pipe.specs.declared.message.MessageBody.TheVariants as says
use Rattle.event_pipe.specs.declared.reader.ReaderTurn.{ReaderTurn}
use Rattle.event_pipe.specs.declared.reader.ReaderTurn.TheVariants as turns
use Rattle.event_pipe.specs.declared.reader.ReadEnd.{ReadEnd}
use Rattle.event_pipe.specs.declared.reader.ReadEnd.TheVariants as read_ends
use Rattle.event_pipe.specs.Counts.{CountsFault}
use Rattle.event_pipe.specs.Message.{sent_event, is_last_event}
use Rattle.event_pipe.specs.Events.{has_last_event}
use Rattle.line_io.specs.declared.limits.TheConstants.{PEER_LINE}

-- the longest line of a peer that is no long one
abbrev pub line_limit : ℕ
line_limit = PEER_LINE

abbrev pub piece_event : Peer → Piece → Event
piece_event p (Whole line) = sent_event p (says.Line line)
piece_event p TooLong = sent_event p says.Long

abbrev pub piece_events : Peer → List Piece → List Event
piece_events p pieces = map (piece_event p) pieces

abbrev pub last_event : Peer → Event
last_event p = sent_event p says.End

-- the events of these lines, and then the end; none after a line that is its side's last
abbrev pub arrivals : Peer → List Piece → List Event
arrivals p [] = last_event p ∷ []
arrivals p (x ∷ xs) = piece_event p x ∷ (if is_last_event (piece_event p x) then [] else arrivals p xs)

-- it is an End, and no line
abbrev pub is_end_without_line : Event → Bool
is_end_without_line IfaceEnd = true
is_end_without_line EngineEnd = true
is_end_without_line e = false

abbrev pub has_close_event : List Event → Bool
has_close_event events = list_any is_end_without_line events

-- a prefix of the lines, with no `quit` among them, and then the end
pub record ArrivalsCutShort (p : Peer) (lines : List Piece) (sent : List Event) : Type 0 where
  pub prefix : List Piece
  pub rest : List Piece
  pub is : lines ≡ prefix ++ rest
  pub sent_is : sent ≡ piece_events p prefix ++ last_event p ∷ []
  pub going : has_last_event (piece_events p prefix) ≡ false

-- The bytes of the last read come after the bytes that had come before, among whose lines is no
-- `quit`. So of what comes after a `quit` no more is read than one read has room for.
pub record LastRead (p : Peer) (got : List ℕ) : Type 0 where
  pub first : List ℕ
  pub last : List ℕ
  pub is : got ≡ first ++ last
  pub going : has_last_event (piece_events p (whole line_limit first)) ≡ false
  pub few : length last ≤ read_room line_limit

abbrev pub is_read_fault : ReadEnd → Bool
is_read_fault (read_ends.Fault f) = true
is_read_fault r = false

-- The events that a reader has sent, of the bytes that its source gave.
pub record Arrived (p : Peer) (before after : Supplied) (sent : List Event)
    (r : ReadEnd) : Type 0 where
  pub got : List ℕ
  pub reads : SourceGave before after got
  -- after a `quit` no more than the read that brought it has room for
  pub last_read : LastRead p got
  -- its side has ended
  pub over : has_last_event sent ≡ true
  -- all that arrives
  pub all : r ≡ read_ends.Done → sent ≡ arrivals p (items line_limit got)
  -- no byte is left, but after `quit`
  pub at_end : r ≡ read_ends.Done → has_close_event sent ≡ true
      → IfSome before.left (λ _. IsAtEnd after.left)
  -- if reading failed: of the lines that a line feed ended
  pub at_fault : (f : ReadFault) → r ≡ read_ends.Fault f → sent ≡ arrivals p (whole line_limit got)
  -- if there was no memory
  pub cut : r ≡ read_ends.NoMemory → ArrivalsCutShort p (items line_limit got) sent
  -- the source's count of faults rose if reading failed, and otherwise is as before
  pub count : CountsFault before.faults after.faults (is_read_fault r)

-- the events that a turn has sent, if the call of the reader of lines answered this
abbrev pub ReaderTurnSends : Peer → Result Item ReadFault → List Event → List Event → ReaderTurn → Type 0
ReaderTurnSends p r before now turns.More =
    IsTrue (reading_goes_on r) × (now ≡ before ++ piece_events p (lines_given (outcome r)))
    × (has_last_event (piece_events p (lines_given (outcome r))) ≡ false)
ReaderTurnSends p r before now turns.Done = IsTrue (is_end_answer r) × (now ≡ before ++ last_event p ∷ [])
ReaderTurnSends p r before now turns.Quit =
    (piece : Piece) × (outcome r ≡ Gave piece) × (is_last_event (piece_event p piece) ≡ true)
    × IsTrue (reading_goes_on r) × (now ≡ before ++ piece_event p piece ∷ [])
ReaderTurnSends p r before now turns.Fault = IsErr r × (now ≡ before ++ last_event p ∷ [])
ReaderTurnSends p r before now turns.NoMemory = IsTrue (reading_goes_on r) × (now ≡ before ++ last_event p ∷ [])

abbrev pub is_reader_fault : ReaderTurn → Bool
is_reader_fault turns.Fault = true
is_reader_fault t = false

-- the work of one turn of a reader
pub record ReaderTurnDone (p : Peer) (old new : Held) (before after : Supplied) (sent now : List Event)
    (turn : ReaderTurn) : Type 0 where
  pub got : List ℕ
  pub reads : SourceGave before after got
  pub result : Result Item ReadFault
  pub call : Call old new got result
  pub ends_at : NothingIsLeftAtEnd old new after.left
  pub sends : ReaderTurnSends p result sent now turn
  pub count : CountsFault before.faults after.faults (is_reader_fault turn)

-- so far: the lines that were given were sent
pub record LinesSentSoFar (p : Peer) (held : Held) (before after : Supplied)
    (sent : List Event) : Type 0 where
  pub got : List ℕ
  pub reads : SourceGave before after got
  pub limit : held.limit ≡ line_limit
  pub given : List Piece
  pub calls : ℕ
  pub runs : SourceCalls line_limit held got given calls
  pub at_end : held.ended ≡ true → IfSome before.left (λ _. IsAtEnd after.left)
  pub last_read : LastRead p got
  pub sent_is : sent ≡ piece_events p given
  pub going : has_last_event sent ≡ false
  pub same : after.faults ≡ before.faults
