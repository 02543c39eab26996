-- The events that the reader of a life sends.
use Rattle.std.specs.Prelude.{◌≡◌, ℕ, List, [], ◌∷◌, ◌++◌, Bool, true}
use Rattle.std.specs.Prelude.{false, IfSome, Result, IsErr, IsTrue}
use Rattle.std.specs.List.{flat_map}
use Rattle.std.specs.Io.KnownBytes.{IsAtEnd}
use Rattle.line_io.specs.Event.{Event, Engine}
use Rattle.line_io.specs.Source.{Supplied}
use Rattle.line_io.specs.Lines.{Piece, Whole, TooLong, Held, SourceGave, NothingIsLeftAtEnd, items}
use Rattle.line_io.specs.Lending.{outcome, is_read_end as is_end_answer}
use Rattle.line_io.specs.Runs.{SourceCalls, Call, reading_goes_on, lines_given, whole}
use Rattle.line_io.specs.declared.lines.Item.{Item}
use Rattle.line_io.specs.declared.faults.ReadFault.{ReadFault}
use Rattle.event_pipe.specs.declared.reader.ReadEnd.{ReadEnd}
use Rattle.event_pipe.specs.declared.reader.ReadEnd.TheVariants as read_ends
use Rattle.event_pipe.specs.Arrivals.{line_limit, is_read_fault}
use Rattle.event_pipe.specs.Counts.{CountsFault}
use Rattle.event_pipe.specs.Events.{has_last_event}
use Rattle.reviver_runner.specs.Messages.{life_end}
use Rattle.reviver_runner.specs.declared.reading.ReadingTurn.{ReadingTurn}
use Rattle.reviver_runner.specs.declared.reading.ReadingTurn.TheVariants as turns

-- a long line is ignored
abbrev pub line_event : Piece → List Event
line_event (Whole line) = Engine line ∷ []
line_event TooLong = []

-- the events of an engine's lines, without long lines
abbrev pub line_events : List Piece → List Event
line_events pieces = flat_map line_event pieces

-- a prefix of the events
pub record IsPrefixOf (prefix events : List Event) : Type 0 where
  pub rest : List Event
  pub is : events ≡ prefix ++ rest

-- The lines that were sent, of the bytes that a life's source gave.
pub record LinesOf (before after : Supplied) (lines : List Event) (r : ReadEnd) : Type 0 where
  pub got : List ℕ
  pub reads : SourceGave before after got
  -- all lines, and no byte is left
  pub all : r ≡ read_ends.Done → lines ≡ line_events (items line_limit got)
  pub at_end : r ≡ read_ends.Done → IfSome before.left (λ _. IsAtEnd after.left)
  -- if reading failed: the lines that a line feed ended
  pub at_fault : (f : ReadFault) → r ≡ read_ends.Fault f
      → lines ≡ line_events (whole line_limit got)
  -- if there was no memory: a prefix of the lines
  pub cut : r ≡ read_ends.NoMemory → IsPrefixOf lines (line_events (items line_limit got))
  -- the source's count of faults rose if reading failed, and otherwise is as before
  pub count : CountsFault before.faults after.faults (is_read_fault r)

-- the lines were sent
pub record ReadLines (before after : Supplied) (sent now : List Event) (r : ReadEnd) : Type 0 where
  pub lines : List Event
  pub sent_is : now ≡ sent ++ lines
  pub read : LinesOf before after lines r

-- The lines of a life were sent, and then the life's end.
pub record ReadLife (before after : Supplied) (sent now : List Event) (r : ReadEnd) : Type 0 where
  pub lines : List Event
  pub sent_is : now ≡ sent ++ (lines ++ life_end ∷ [])
  pub read : LinesOf before after lines r

-- the events that a turn has sent, if the call of the reader of lines answered this
abbrev pub ReadingTurnSends : Result Item ReadFault → List Event → List Event → ReadingTurn → Type 0
ReadingTurnSends r before now turns.More =
    IsTrue (reading_goes_on r) × (now ≡ before ++ line_events (lines_given (outcome r)))
    × (has_last_event now ≡ false)
ReadingTurnSends r before now turns.Done = IsTrue (is_end_answer r) × (now ≡ before)
ReadingTurnSends r before now turns.Fault = IsErr r × (now ≡ before)
ReadingTurnSends r before now turns.NoMemory = IsTrue (reading_goes_on r) × (now ≡ before)

abbrev pub is_reading_fault : ReadingTurn → Bool
is_reading_fault turns.Fault = true
is_reading_fault t = false

-- the work of one turn of the reader
pub record ReadingTurnDone (old new : Held) (before after : Supplied) (sent now : List Event)
    (turn : ReadingTurn) : Type 0 where
  pub got : List ℕ
  pub reads : SourceGave before after got
  pub result : Result Item ReadFault
  pub call : Call old new got result
  pub ends_at : NothingIsLeftAtEnd old new after.left
  pub sends : ReadingTurnSends result sent now turn
  pub count : CountsFault before.faults after.faults (is_reading_fault turn)

-- so far: the lines that were given were sent, after what was sent before
pub record SoFar (held : Held) (before after : Supplied) (first sent : List Event) : Type 0 where
  pub got : List ℕ
  pub reads : SourceGave before after got
  pub limit : held.limit ≡ line_limit
  pub given : List Piece
  pub calls : ℕ
  pub runs : SourceCalls line_limit held got given calls
  pub at_end : held.ended ≡ true → IfSome before.left (λ _. IsAtEnd after.left)
  pub sent_is : sent ≡ first ++ line_events given
  pub going : has_last_event sent ≡ false
  pub same : after.faults ≡ before.faults
