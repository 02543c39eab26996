-- The text written of what an engine says, as lines that are read again.
use Rattle.std.specs.Prelude.{ℕ, ◌+◌, ◌≤◌, List, length}
use Rattle.uci_interface_lines.specs.Said.{said_text}
use Rattle.uci_lines.specs.Messages.{EngineMsg}
use Rattle.uci_lines.specs.Spells.{SpellsMessage}
use Rattle.uci_interface_lines.specs.declared.laws.TheConstants.{RESPELLED}

-- some line spells a message
abbrev pub SomeLineSpells : EngineMsg → Type 0
SomeLineSpells m = (line : List ℕ) × SpellsMessage line m

-- The canonical text of a message that some line spells, spells it.
abbrev pub EngineMessagesReadBack : Type 0
EngineMessagesReadBack = (m : EngineMsg) → SomeLineSpells m → SpellsMessage (said_text m) m

-- The canonical text of the message that a line spells is at most `RESPELLED`
-- bytes longer than the line.
abbrev pub TextsFitTheLine : Type 0
TextsFitTheLine =
    (line : List ℕ) (m : EngineMsg) → SpellsMessage line m
    → length (said_text m) ≤ length line + RESPELLED
