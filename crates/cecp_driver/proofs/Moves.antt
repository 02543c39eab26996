-- The moves of games.
use Rattle.std.proofs.Common.{◌≡◌, ℕ, ◌≤◌, List, [], ◌∷◌, ◌++◌, length, refl, sym, ap, subst, ◌∙◌, arith}
use Rattle.std.proofs.lemmas.List.{length-map}
use Rattle.std.specs.List.{AllByRecursion}
use Rattle.chess_board.specs.declared.board.Move.{Move}
use Rattle.chess_board.specs.Text.{IsOfficer}
use Rattle.chess_board.specs.Position.{Position}
use Rattle.game_record.specs.Game.{Ply, Game, ply_of, plies_of, AreLegal}
use Rattle.game_record.proofs.Lines.{officers}

-- a game's moves have texts
pub game_officers : (g : Game) (moves : List Move) → plies_of moves ≡ g.moves → AreLegal g.start g.moves → AllByRecursion (λ (m : Ply). IsOfficer m.promotion) (plies_of moves)
game_officers g moves e legal = officers g.start moves (subst (AreLegal g.start) (sym e) legal)

-- as many moves as plies
pub game_length : (g : Game) (moves : List Move) → plies_of moves ≡ g.moves → length moves ≡ length g.moves
game_length g moves e = sym (length-map moves ply_of) ∙ ap length e
