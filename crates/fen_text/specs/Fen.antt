-- The positions that texts spell, and the fault of the texts that spell none.
use Rattle.std.specs.Prelude.{ℕ, is_none, if◌then◌else◌, List, Option, Some, None, Result, Ok, Err}
use Rattle.std.specs.Option.{option_and_then}
use Rattle.std.specs.List.{slice_get}
use Rattle.chess_board.specs.declared.board.Side.{Side}
use Rattle.chess_board.specs.declared.board.Rights.{Rights}
use Rattle.chess_board.specs.declared.board.Variant.{Variant}
use Rattle.chess_board.specs.declared.board.Variant.TheVariants.{Normal, Fischer}
use Rattle.chess_board.specs.declared.board.BuildFault.{BuildFault}
use Rattle.chess_board.specs.declared.board.BuildFault.TheVariants as build
use Rattle.chess_board.specs.Board.{Pieces}
use Rattle.chess_board.specs.Position.{Position}
use Rattle.chess_board.specs.Play.{position_if_built}
use Rattle.protocol_tokens.specs.Tokens.{tokens}
use Rattle.fen_text.specs.declared.fault.FenFault.{FenFault}
use Rattle.fen_text.specs.declared.fault.FenFault.TheVariants.{Board, Side as SideFault, Castling}
use Rattle.fen_text.specs.declared.fault.FenFault.TheVariants.{EnPassant, Half, Full, Kings}
use Rattle.fen_text.specs.Squares.{board_in_field}
use Rattle.fen_text.specs.Fields.{side_of, rights_of, en_passant_of, count_or}
use Rattle.fen_text.specs.RookFiles.{fischer_rights_of}

abbrev pub fault_of : BuildFault → FenFault
fault_of build.Board = Board
fault_of build.Kings = Kings

abbrev pub or_fault : Result Position BuildFault → Result Position FenFault
or_fault (Ok p) = Ok p
or_fault (Err fault) = Err (fault_of fault)

-- the position of what the fields spell, or the fault of the first that spells nothing
abbrev pub position_from_fields : Option Pieces → Option Side → Option Rights → Option (Option ℕ)
    → Option ℕ → Option ℕ → Result Position FenFault
position_from_fields None side rights passant half full = Err Board
position_from_fields (Some pieces) None rights passant half full = Err SideFault
position_from_fields (Some pieces) (Some side) None passant half full = Err Castling
position_from_fields (Some pieces) (Some side) (Some rights) None half full = Err EnPassant
position_from_fields (Some pieces) (Some side) (Some rights) (Some passant) None full = Err Half
position_from_fields (Some pieces) (Some side) (Some rights) (Some passant) (Some half) None = Err Full
position_from_fields (Some pieces) (Some side) (Some rights) (Some passant) (Some half) (Some full) =
    or_fault (position_if_built (record {
      pieces = pieces;
      side = side;
      rights = rights;
      passant = passant;
      half = half;
      full = full;
    }))

-- The first four fields are needed. A half-move count that is missing is 0, and a full one 1.
abbrev pub position_of_fields : List (List ℕ) → Result Position FenFault
position_of_fields fields = position_from_fields
    (option_and_then board_in_field (slice_get fields 0))
    (option_and_then side_of (slice_get fields 1))
    (option_and_then rights_of (slice_get fields 2))
    (option_and_then en_passant_of (slice_get fields 3))
    (count_or 0 (slice_get fields 4))
    (if is_none (slice_get fields 6) then count_or 1 (slice_get fields 5) else None)

-- the position that a text spells, or its first fault
unfoldable pub position_of : List ℕ → Result Position FenFault
position_of text = position_of_fields (tokens text)

-- the castling field of a variant: in Chess960 its letters name rooks of the board
abbrev pub rights_by : Variant → Pieces → List ℕ → Option Rights
rights_by Normal pieces field = rights_of field
rights_by Fischer pieces field = fischer_rights_of pieces field

-- the rights that a field spells beside a board
abbrev pub rights_beside : Variant → Option Pieces → Option (List ℕ) → Option Rights
rights_beside variant None field = None
rights_beside variant (Some pieces) field = option_and_then (rights_by variant pieces) field

-- the same fields, of a variant
abbrev pub position_of_fields_by : Variant → List (List ℕ) → Result Position FenFault
position_of_fields_by variant fields = position_from_fields
    (option_and_then board_in_field (slice_get fields 0))
    (option_and_then side_of (slice_get fields 1))
    (rights_beside variant (option_and_then board_in_field (slice_get fields 0)) (slice_get fields 2))
    (option_and_then en_passant_of (slice_get fields 3))
    (count_or 0 (slice_get fields 4))
    (if is_none (slice_get fields 6) then count_or 1 (slice_get fields 5) else None)

-- the position of a variant that a text spells, or its first fault
unfoldable pub position_by : Variant → List ℕ → Result Position FenFault
position_by variant text = position_of_fields_by variant (tokens text)
