-- Names, values, moves and positions as they stand in orders.
use Rattle.std.specs.Prelude.{ℕ, zero, suc, ◌^◌, List, [], ◌∷◌, length, codes}
use Rattle.std.specs.Prelude.{Bool, false, ◌&&◌, if◌then◌else◌, ◌==◌, nat_lt}
use Rattle.std.specs.Prelude.{nat_le, is_some, Option, Some, None, Result, Ok, Err}
use Rattle.std.specs.List.{list_all, slice_split}
use Rattle.std.specs.Option.{option_map}
use Rattle.std.specs.Str.{bytes_eq}
use Rattle.protocol_tokens.specs.Tokens.{trimmed}
use Rattle.chess_board.specs.declared.board.Move.{Move}
use Rattle.chess_board.specs.Position.{Position}
use Rattle.chess_board.specs.Text.{text_of_move}
use Rattle.fen_text.specs.declared.fault.FenFault.{FenFault}
use Rattle.fen_text.specs.Fen.{position_of}
use Rattle.fen_text.specs.Written.{position_fen}
use Rattle.uci_lines.specs.Behind.{after}
use Rattle.chess_board.specs.Spelling.{move_spelled_by}
use Rattle.protocol_tokens.specs.Bytes.{blank}
use Rattle.chess_board.specs.Play.{top_count}

-- a text that is not empty and neither begins nor ends with white space
abbrev pub is_trimmed_text : List ℕ → Bool
is_trimmed_text text = nat_lt 0 (length text) && bytes_eq (trimmed text) text

abbrev pub onto_first_of : ℕ → List ℕ × List ℕ → List ℕ × List ℕ
onto_first_of b halves = (b ∷ halves.0, halves.1)

-- the text before and after the first ` value `
abbrev pub value_here : Option (List ℕ) → Option (List ℕ × List ℕ) → Option (List ℕ × List ℕ)
value_here (Some others) later = Some ([], others)
value_here None later = later

abbrev pub option_value_cut : List ℕ → Option (List ℕ × List ℕ)
option_value_cut [] = None
option_value_cut (b ∷ bs) =
    value_here (after (codes " value ") (b ∷ bs)) (option_map (onto_first_of b) (option_value_cut bs))

abbrev pub holds_value : List ℕ → Bool
holds_value text = is_some (option_value_cut text)

abbrev pub written_by : Option Move → List ℕ → Bool
written_by None text = false
written_by (Some m) text = bytes_eq (text_of_move m) text

-- a move as it is written, its promotion in lower case
abbrev pub is_written_move : List ℕ → Bool
is_written_move text = written_by (move_spelled_by text) text

abbrev pub is_blank_byte : ℕ → Bool
is_blank_byte b = b == blank

-- one written move or more, with one blank between
abbrev pub is_moves : List ℕ → Bool
is_moves text = list_all is_written_move (slice_split is_blank_byte text)

abbrev pub fen_by : Result Position FenFault → List ℕ → Bool
fen_by (Ok p) text =
    bytes_eq (position_fen p) text && nat_le p.half top_count && nat_le p.full top_count
fen_by (Err fault) text = false

-- the text of a position as it is written, with counts of at most five digits, as each position has
abbrev pub is_fen : List ℕ → Bool
is_fen text = fen_by (position_of text) text

abbrev pub split_onto : ℕ → List ℕ × List ℕ → List ℕ × List ℕ
split_onto b halves = (b ∷ halves.0, halves.1)

-- The text before the blank after so many others, and the text that begins with it: six fields are before
-- the sixth blank.
abbrev pub fields_before : ℕ → List ℕ → List ℕ × List ℕ
fields_before blanks [] = ([], [])
fields_before zero (b ∷ bs) =
    if b == blank then ([], b ∷ bs) else split_onto b (fields_before zero bs)
fields_before (suc blanks) (b ∷ bs) =
    split_onto b (fields_before (if b == blank then blanks else suc blanks) bs)

-- a count that is written with at most 18 digits
abbrev pub is_count : ℕ → Bool
is_count n = nat_lt n (10 ^ 18)

abbrev pub is_positive : ℕ → Bool
is_positive n = nat_lt 0 n && is_count n
