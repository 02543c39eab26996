-- The text of a game: its start, if that is not the standard one, and a line with its moves and
-- its result (PGN standard, 8.2 and 9.7.2).
use Rattle.std.specs.Prelude.{ℕ, List, [], ◌∷◌, ◌++◌, if◌then◌else◌}
use Rattle.std.specs.Prelude.{codes, decimal, Option, Some, None}
use Rattle.std.specs.List.{join_with_byte}
use Rattle.chess_board.specs.declared.board.Side.{Side}
use Rattle.chess_board.specs.declared.board.Side.TheVariants.{White, Black}
use Rattle.chess_board.specs.Position.{Position}
use Rattle.fen_text.specs.Written.{position_fen}
use Rattle.game_record.specs.declared.ending.GameEnd.{GameEnd}
use Rattle.game_record.specs.declared.ending.GameEnd.TheVariants.{Mate}
use Rattle.game_record.specs.Game.{Ply, Game, position_after_ply, current_position}
use Rattle.game_record.specs.Ending.{ended_of}
use Rattle.game_record.specs.Line.{is_standard}
use Rattle.san_text.specs.GameSan.{san_of_ply}
use Rattle.line_io.specs.Lines.{line_feed}
use Rattle.protocol_tokens.specs.Bytes.{blank}

-- `N.` stands before a move of White, and nothing before a move of Black
abbrev pub move_number_by : Side → ℕ → List (List ℕ)
move_number_by White n = (decimal n ++ codes ".") ∷ []
move_number_by Black n = []

-- but `N...` before a game's first move, if Black plays it
abbrev pub first_number_by : Side → ℕ → List (List ℕ)
first_number_by White n = []
first_number_by Black n = (decimal n ++ codes "...") ∷ []

-- each move after its number
abbrev pub move_parts : Position → List Ply → List (List ℕ)
move_parts p [] = []
move_parts p (m ∷ moves) =
    move_number_by p.side p.full ++ san_of_ply p m ∷ move_parts (position_after_ply p m) moves

-- who won: not the side on move, if it is mated; nobody, if the game has ended otherwise
abbrev pub result_text_by : Side → Option GameEnd → List ℕ
result_text_by side None = codes "*"
result_text_by White (Some Mate) = codes "0-1"
result_text_by Black (Some Mate) = codes "1-0"
result_text_by side (Some end) = codes "1/2-1/2"

abbrev pub result_text_of : Game → List ℕ
result_text_of g = result_text_by (current_position g).side (ended_of g)

-- the numbers, the moves and the result
abbrev pub game_text_parts : Game → List (List ℕ)
game_text_parts g =
    first_number_by g.start.side g.start.full
    ++ (move_parts g.start g.moves ++ result_text_of g ∷ [])

-- the tag of the start: none, if it is the standard start with its counts 0 and 1
abbrev pub tag_of : Position → List ℕ
tag_of p = if is_standard p then [] else codes "[FEN \"" ++ (position_fen p ++ codes "\"]\n")

-- One blank stands between the parts of the line.
unfoldable pub game_text : Game → List ℕ
game_text g = tag_of g.start ++ (join_with_byte blank (game_text_parts g) ++ line_feed ∷ [])

-- each part with a blank after it
abbrev pub spaced_parts : List (List ℕ) → List ℕ
spaced_parts [] = []
spaced_parts (part ∷ parts) = part ++ blank ∷ spaced_parts parts
