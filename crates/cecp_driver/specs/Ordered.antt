-- The position that the interface orders.
use Rattle.std.specs.Prelude.{ℕ, nat_lt, Bool, ◌&&◌, if◌then◌else◌}
use Rattle.std.specs.Prelude.{List, [], ◌∷◌, length, Option, Some, None}
use Rattle.chess_board.specs.declared.board.Move.{Move}
use Rattle.chess_board.specs.Place.{legal}
use Rattle.chess_board.specs.Spelling.{move_spelled_by}
use Rattle.game_record.specs.Game.{Game, game_from, current_position, ply_of, with_ply}
use Rattle.uci_interface_lines.specs.Lines.{Line, position_line_in}
use Rattle.game_record.specs.Keeps.{most_plies}

-- a move is legal, and the game has room for it
abbrev pub may_push : Game → Move → Bool
may_push g m = legal (current_position g) m && nat_lt (length g.moves) most_plies

abbrev pub push_one : Game → Option Move → Option Game
push_one g None = None
push_one g (Some m) = if may_push g m then Some (with_ply g (ply_of m)) else None

-- the game after the moves that these texts name
abbrev pub game_after_texts : List (List ℕ) → Option Game → Option Game
game_after_texts [] g = g
game_after_texts (t ∷ ts) None = None
game_after_texts (t ∷ ts) (Some g) = game_after_texts ts (push_one g (move_spelled_by t))

abbrev pub ordered_by : Option Line → Option Game
ordered_by None = None
ordered_by (Some line) = game_after_texts line.moves (Some (game_from line.start))

-- the game that a `position` line orders, if it can be read and has no more than 12,000 moves
abbrev pub game_ordered_in : List ℕ → Option Game
game_ordered_in line = ordered_by (position_line_in line)
