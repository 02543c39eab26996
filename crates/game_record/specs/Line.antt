-- The line that gives an engine the position of a game (UCI, April 2006, `position`).
use Rattle.std.specs.Prelude.{ℕ, ◌≡◌, ◌≤◌, ◌+◌, ◌*◌, Bool, ◌&&◌, ◌==◌, nat_lt, IsTrue, ◌↔◌}
use Rattle.std.specs.Prelude.{if◌then◌else◌, List, [], ◌∷◌, ◌++◌, length, Option, codes}
use Rattle.std.specs.Option.{option_to_list}
use Rattle.chess_board.specs.Board.{file_of, rank_of_square}
use Rattle.chess_board.specs.Position.{Position}
use Rattle.chess_board.specs.Play.{start_position, IsPosition}
use Rattle.chess_board.specs.Text.{promotion_text, letter_a, digit_one}
use Rattle.fen_text.specs.Written.{position_fen}
use Rattle.game_record.specs.Game.{Ply, Game}
use Rattle.game_record.specs.Ending.{is_same}
use Rattle.protocol_tokens.specs.Bytes.{blank}

abbrev pub ply_text : Ply → List ℕ
ply_text m =
    (letter_a + file_of m.from) ∷ (digit_one + rank_of_square m.from)
    ∷ (letter_a + file_of m.to) ∷ (digit_one + rank_of_square m.to) ∷ promotion_text m.promotion

-- each move after a blank
abbrev pub spaced_plies : List Ply → List ℕ
spaced_plies [] = []
spaced_plies (m ∷ moves) = blank ∷ (ply_text m ++ spaced_plies moves)

-- the moves, and one that may follow
abbrev pub plies_and_hint : List Ply → Option Ply → List Ply
plies_and_hint moves hint = moves ++ option_to_list hint

-- `moves` and each of them, if there are some
abbrev pub game_moves_text : List Ply → List ℕ
game_moves_text moves = if nat_lt 0 (length moves) then codes " moves" ++ spaced_plies moves else []

-- true if it is the standard start, with its counts 0 and 1
unfoldable pub is_standard : Position → Bool
is_standard p = is_same p start_position && ((p.half == 0) && (p.full == 1))

abbrev pub StandardLaw : Type 0
StandardLaw = (p : Position) → IsTrue (is_standard p) ↔ (p ≡ start_position)

-- `startpos`, or `fen` and the text of the start
abbrev pub game_start_text : Position → List ℕ
game_start_text p = if is_standard p then codes "startpos" else codes "fen " ++ position_fen p

-- the line of a game, with a move that may follow, without a line feed
unfoldable pub game_position_text : Game → Option Ply → List ℕ
game_position_text g hint =
    codes "position " ++ (game_start_text g.start ++ game_moves_text (plies_and_hint g.moves hint))

-- at most 6 bytes for each move, and 120 for the rest
abbrev pub PositionLineIsShort : Type 0
PositionLineIsShort =
    (g : Game) (hint : Option Ply) → IsPosition g.start
    → length (game_position_text g hint) ≤ 120 + 6 * length (plies_and_hint g.moves hint)
