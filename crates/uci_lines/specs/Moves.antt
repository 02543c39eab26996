-- Runs of move texts.
use Rattle.std.specs.Prelude.{ℕ, List, [], ◌∷◌, is_none, if◌then◌else◌, Option, Some, None}
use Rattle.chess_board.specs.declared.board.Move.{Move}
use Rattle.chess_board.specs.Spelling.{move_spelled_by}

abbrev pub add_move : Option Move → List Move → List Move
add_move None moves = []
add_move (Some m) moves = m ∷ moves

-- the moves that the longest run of move texts at the start spells
abbrev pub longest_move_run : List (List ℕ) → List Move
longest_move_run [] = []
longest_move_run (t ∷ ts) = add_move (move_spelled_by t) (longest_move_run ts)

-- the tokens after that run
abbrev pub after_run : List (List ℕ) → List (List ℕ)
after_run [] = []
after_run (t ∷ ts) = if is_none (move_spelled_by t) then t ∷ ts else after_run ts
