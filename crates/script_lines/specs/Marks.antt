-- Marks: the lines of a script.
use Rattle.std.specs.Prelude.{◌≡◌, ℕ, List, [], ◌∷◌, ◌++◌, length, Bool, not, ◌&&◌, if◌then◌else◌}
use Rattle.std.specs.Prelude.{◌==◌, ◌-◌, nat_le, Option, Some, None, Result, Ok, Err, codes, IsTrue}
use Rattle.line_io.specs.Event.{Event, Open, Iface, IfaceLong, IfaceEnd, IfaceLost, Engine}
use Rattle.line_io.specs.Event.{EngineLong, EngineEnd, EngineLost, event_of, is_line, has_feed}
use Rattle.line_io.specs.declared.events.Event as event
use Rattle.script_lines.specs.declared.marks.BadMark.{BadMark}
use Rattle.script_lines.specs.declared.marks.Mark as code
use Rattle.script_lines.specs.declared.marks.Mark.TheVariants as marks
use Rattle.line_io.specs.declared.limits.TheConstants.{SCRIPT_LINE}
use Rattle.protocol_tokens.specs.Bytes.{blank, exclamation_mark, point, question_mark}
use Rattle.line_io.specs.Lines.{line_feed}

-- a mark, whatever memory its line lies in
pub data Mark : Type 0 where
  Happens : (event : Event) → Mark
  ToIface : (line : List ℕ) → Mark
  ToEngine : (line : List ℕ) → Mark

abbrev pub plain_mark : code.Mark → Mark
plain_mark (marks.Event e) = Happens (event_of e)
plain_mark (marks.ToIface line) = ToIface line.now
plain_mark (marks.ToEngine line) = ToEngine line.now

-- what a reading of a mark answers
abbrev pub mark_if_read : Result code.Mark BadMark → Option Mark
mark_if_read (Ok m) = Some (plain_mark m)
mark_if_read (Err e) = None

abbrev pub event_if_read : Option event.Event → Option Event
event_if_read (Some e) = Some (event_of e)
event_if_read None = None

-- a line that was written, and whose mark is a line of a script
abbrev pub is_written : List ℕ → Bool
is_written line = nat_le (length line) (SCRIPT_LINE - 2) && not (has_feed line)

-- the text of an event's mark: Open has none
abbrev pub event_mark_text : Event → List ℕ
event_mark_text Open = []
event_mark_text (Iface line) = codes "x " ++ line
event_mark_text IfaceLong = codes "x!"
event_mark_text IfaceEnd = codes "x."
event_mark_text IfaceLost = codes "x?"
event_mark_text (Engine line) = codes "u " ++ line
event_mark_text EngineLong = codes "u!"
event_mark_text EngineEnd = codes "u."
event_mark_text EngineLost = codes "u?"

abbrev pub mark_text : Mark → List ℕ
mark_text (Happens event) = event_mark_text event
mark_text (ToIface line) = codes "X " ++ line
mark_text (ToEngine line) = codes "U " ++ line

-- a mark that is in scripts
abbrev pub IsMarkSpelled : Mark → Type 0
IsMarkSpelled (Happens Open) = ⊥
IsMarkSpelled (Happens (Iface line)) = IsTrue (is_line line)
IsMarkSpelled (Happens (Engine line)) = IsTrue (is_line line)
IsMarkSpelled (Happens event) = Unit {0}
IsMarkSpelled (ToIface line) = IsTrue (is_written line)
IsMarkSpelled (ToEngine line) = IsTrue (is_written line)

-- The line spells the mark.
abbrev pub SpellsMark : List ℕ → Mark → Type 0
SpellsMark line mark = IsMarkSpelled mark × (line ≡ mark_text mark)

abbrev pub SpellsNone : List ℕ → Type 0
SpellsNone line = (mark : Mark) → SpellsMark line mark → ⊥

abbrev pub is_empty_line : List ℕ → Bool
is_empty_line bytes = length bytes == 0

-- the event of the interface that a sign and what follows it stand for
abbrev pub iface_event : ℕ → List ℕ → Option Event
iface_event sign rest =
    if sign == blank && is_line rest then Some (Iface rest)
    else (if sign == exclamation_mark && is_empty_line rest then Some IfaceLong
    else (if sign == point && is_empty_line rest then Some IfaceEnd
    else (if sign == question_mark && is_empty_line rest then Some IfaceLost else None)))

abbrev pub engine_event : ℕ → List ℕ → Option Event
engine_event sign rest =
    if sign == blank && is_line rest then Some (Engine rest)
    else (if sign == exclamation_mark && is_empty_line rest then Some EngineLong
    else (if sign == point && is_empty_line rest then Some EngineEnd
    else (if sign == question_mark && is_empty_line rest then Some EngineLost else None)))

abbrev pub happens : Option Event → Option Mark
happens (Some e) = Some (Happens e)
happens None = None

-- the letters of what a peer does, and of a line that was written to it
abbrev pub iface_event_letter : ℕ
iface_event_letter = 120

abbrev pub engine_event_letter : ℕ
engine_event_letter = 117

abbrev pub iface_line_letter : ℕ
iface_line_letter = 88

abbrev pub engine_line_letter : ℕ
engine_line_letter = 85

-- the mark that a line spells
abbrev pub mark_spelled : List ℕ → Option Mark
mark_spelled (letter ∷ sign ∷ rest) =
    if letter == iface_event_letter then happens (iface_event sign rest)
    else (if letter == engine_event_letter then happens (engine_event sign rest)
    else (if letter == iface_line_letter && (sign == blank && is_written rest)
    then Some (ToIface rest)
    else (if letter == engine_line_letter && (sign == blank && is_written rest)
    then Some (ToEngine rest)
    else None)))
mark_spelled line = None

-- what follows a mark's text in a script
abbrev pub line_end : Mark → List ℕ
line_end (Happens Open) = []
line_end mark = line_feed ∷ []

-- a mark as a line of a script: Open has none
abbrev pub mark_line : Mark → List ℕ
mark_line mark = mark_text mark ++ line_end mark

abbrev pub event_marked : Event → List ℕ
event_marked event = mark_line (Happens event)

-- a line that was written, after the letter of its mark
abbrev pub line_marked : ℕ → List ℕ → List ℕ
line_marked letter line = letter ∷ blank ∷ line ++ line_feed ∷ []
