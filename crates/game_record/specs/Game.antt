-- Games: a start position and the moves that were played from there.
use Rattle.std.specs.Prelude.{ℕ, ◌-◌, List, [], ◌∷◌, ◌++◌, length, map, take, Option}
use Rattle.chess_board.specs.declared.board.Kind.{Kind}
use Rattle.chess_board.specs.declared.board.Move.{Move}
use Rattle.chess_board.specs.Laws.{IsLegal}
use Rattle.chess_board.specs.Position.{Position}
use Rattle.chess_board.specs.Play.{position_after}

-- a move, by the numbers of its squares
pub record Ply : Type 0 where
  pub from : ℕ
  pub to : ℕ
  pub promotion : Option Kind

-- a game so far, its first move first
pub record Game : Type 0 where
  pub start : Position
  pub moves : List Ply

abbrev pub ply_of : Move → Ply
ply_of m = record { from = m.from.index; to = m.to.index; promotion = m.promotion }

abbrev pub plies_of : List Move → List Ply
plies_of moves = map ply_of moves

abbrev pub IsPlayablePly : Position → Ply → Type 0
IsPlayablePly p m = IsLegal p m.from m.to m.promotion

-- the position after a move
abbrev pub position_after_ply : Position → Ply → Position
position_after_ply p m = position_after p m.from m.to m.promotion

-- the position after all these moves, replayed from the first
abbrev pub now_after : Position → List Ply → Position
now_after p [] = p
now_after p (m ∷ moves) = now_after (position_after_ply p m) moves

-- the position after each of these moves
abbrev pub later : Position → List Ply → List Position
later p [] = []
later p (m ∷ moves) = position_after_ply p m ∷ later (position_after_ply p m) moves

-- each move is legal in its turn
abbrev pub AreLegal : Position → List Ply → Type 0
AreLegal p [] = Unit {0}
AreLegal p (m ∷ moves) = IsPlayablePly p m × AreLegal (position_after_ply p m) moves

abbrev pub current_position : Game → Position
current_position g = now_after g.start g.moves

-- the start and the position after each move
abbrev pub positions_of : Game → List Position
positions_of g = g.start ∷ later g.start g.moves

-- no move yet
abbrev pub game_from : Position → Game
game_from p = record { start = p; moves = [] }

-- one move more
abbrev pub with_ply : Game → Ply → Game
with_ply g m = record g { moves = g.moves ++ m ∷ [] }

-- n moves fewer
abbrev pub without_last : Game → ℕ → Game
without_last g n = record g { moves = take (length g.moves - n) g.moves }
