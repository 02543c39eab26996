-- The lines that bytes end, and what is known of the line that they leave open.
use Rattle.std.specs.Prelude.{ℕ, List, [], ◌∷◌, ◌++◌, length, if◌then◌else◌}
use Rattle.std.specs.Prelude.{◌-◌, nat_lt, Option, Some, None}
use Rattle.line_io.specs.Lines.{Piece, Whole, TooLong, is_feed}
use Rattle.line_io.specs.declared.limits.TheConstants.{PEER_LINE}

-- the longest line that is no long one
abbrev pub tap_line_limit : ℕ
tap_line_limit = PEER_LINE - 2

-- an open line and one byte more; a line that is too long is not kept
abbrev pub with_byte : Option (List ℕ) → ℕ → Option (List ℕ)
with_byte None b = None
with_byte (Some line) b = if nat_lt (length line) tap_line_limit then Some (line ++ b ∷ []) else None

-- the piece that an open line is, once it ends
abbrev pub piece_in : Option (List ℕ) → Piece
piece_in None = TooLong
piece_in (Some line) = Whole line

-- the lines that the bytes end, after an open line
abbrev pub lines_ended_by : Option (List ℕ) → List ℕ → List Piece
lines_ended_by line [] = []
lines_ended_by line (b ∷ bs) =
    if is_feed b then piece_in line ∷ lines_ended_by (Some []) bs else lines_ended_by (with_byte line b) bs

-- the line that they leave open
abbrev pub line_after : Option (List ℕ) → List ℕ → Option (List ℕ)
line_after line [] = line
line_after line (b ∷ bs) =
    if is_feed b then line_after (Some []) bs else line_after (with_byte line b) bs

-- a last line that no line feed ends, if there is one
abbrev pub last_pieces : Option (List ℕ) → List Piece
last_pieces (Some []) = []
last_pieces line = piece_in line ∷ []
