-- The statuses and their diagnostics.
use Rattle.std.specs.Prelude.{ℕ, List, [], ◌∷◌, ◌++◌, codes, decimal}
use Rattle.fen_text.specs.declared.fault.FenFault.{FenFault}
use Rattle.fen_text.specs.declared.fault.FenFault.TheVariants as fens
use Rattle.replay_command_base.specs.declared.ending.Ending.{Ending}
use Rattle.replay_command_base.specs.declared.ending.Ending.TheVariants as endings
use Rattle.line_io.specs.Lines.{line_feed}

abbrev pub command_status : Ending → ℕ
command_status endings.Done = 0
command_status (endings.Differs n) = 1
command_status (endings.Unlawful n) = 1
command_status endings.Usage = 2
command_status (endings.NoMark n) = 2
command_status (endings.OutOfStep n) = 2
command_status (endings.MayNotCome n) = 2
command_status (endings.NoPosition fault) = 2
command_status endings.NoMemory = 3
command_status endings.ReadingFailed = 4
command_status endings.WritingFailed = 5
command_status endings.TooLong = 6

abbrev pub one_line : List ℕ → List ℕ
one_line text = text ++ line_feed ∷ []

-- the diagnostic of a text that spells no position: its first field that spells nothing
abbrev pub position_fault : FenFault → List ℕ
position_fault fens.Board = one_line (codes "replay: position: board")
position_fault fens.Side = one_line (codes "replay: position: side")
position_fault fens.Castling = one_line (codes "replay: position: castling")
position_fault fens.EnPassant = one_line (codes "replay: position: en passant")
position_fault fens.Half = one_line (codes "replay: position: half")
position_fault fens.Full = one_line (codes "replay: position: full")
position_fault fens.Kings = one_line (codes "replay: position: kings")

-- the text of a diagnostic after the number of a line, or all of it
abbrev pub tail_of : Ending → List ℕ
tail_of endings.Done = []
tail_of (endings.Differs n) = []
tail_of (endings.Unlawful n) = []
tail_of endings.Usage = one_line (codes "replay: usage")
tail_of (endings.NoMark n) = one_line (codes " has no mark")
tail_of (endings.OutOfStep n) = one_line (codes " is out of step")
tail_of (endings.MayNotCome n) = one_line (codes " may not come here")
tail_of (endings.NoPosition fault) = position_fault fault
tail_of endings.NoMemory = one_line (codes "replay: no memory")
tail_of endings.ReadingFailed = one_line (codes "replay: reading failed")
tail_of endings.WritingFailed = one_line (codes "replay: writing failed")
tail_of endings.TooLong = one_line (codes "replay: input too long")

abbrev pub line_fault : ℕ → List ℕ → List ℕ
line_fault n tail = codes "replay: line " ++ decimal n ++ tail

abbrev pub command_diagnostic : Ending → List ℕ
command_diagnostic (endings.NoMark n) = line_fault n (tail_of (endings.NoMark n))
command_diagnostic (endings.OutOfStep n) = line_fault n (tail_of (endings.OutOfStep n))
command_diagnostic (endings.MayNotCome n) = line_fault n (tail_of (endings.MayNotCome n))
command_diagnostic e = tail_of e
