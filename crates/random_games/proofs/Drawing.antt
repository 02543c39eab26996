-- The choices that may be drawn.
use Rattle.std.proofs.Common.{◌≡◌, ◌↔◌, ℕ, ◌<◌, List, length, false, is_some, Option, Some, None, get_or, refl, sym, ap, ◌∙◌, arith}
use Rattle.std.proofs.lemmas.Option.{slice_get_read}
use Rattle.std.specs.Prelude.{Contains, AllPairs, slice_get}
use Rattle.chess_board.specs.declared.board.Move.{Move}
use Rattle.chess_board.specs.Laws.{IsLegal}
use Rattle.chess_board.specs.Position.{Position}
use Rattle.chess_board.specs.Play.{HasLegal}
use Rattle.chess_board.specs.Text.{AreLegalMoves}
use Rattle.game_record.specs.declared.ending.GameEnd.{GameEnd}
use Rattle.game_record.specs.Game.{Game, current_position}
use Rattle.game_record.specs.Ending.{ended_of, GameEndsBy}
use Rattle.game_record.proofs.States.{ending-law}
use Rattle.desk_rules.specs.Desk.{has_ended}
use Rattle.random_games.specs.Generator.{next, place_of}
use Rattle.random_games.specs.Rounds.{Drill, Draws}

-- a position with a legal move has one in the list of all
pub some_legal : (p : Position) (moves : List Move) → AreLegalMoves p moves → HasLegal p → 0 < length moves
some_legal p moves are h = let c = (are.each h.move).1 h.legal in omega (arith, c.1)

-- a game that has not ended has a legal move
pub open_legal : (g : Game) → has_ended g ≡ false → HasLegal (current_position g)
open_legal g e = by (ended_of g) e (ending-law g) where
  by : (end : Option GameEnd) → is_some end ≡ false → GameEndsBy g end → HasLegal (current_position g)
  by None e x = x.0.0
  by (Some end) e x = cc

-- the move at the place that comes next
pub drawn_at : (s : Drill) (moves : List Move) (k : ℕ) (m : Move) → AreLegalMoves (current_position s.game) moves → k ≡ place_of (next s.seed) (length moves) → k < length moves → m ≡ get_or moves k m → Draws s m
drawn_at s moves k m are place within is = record {
  moves = moves;
  legal = are;
  drawn = ap (slice_get moves) (sym place) ∙ slice_get_read moves (length moves) k m refl within is;
}

pub place_legal : (p : Position) (moves : List Move) (k : ℕ) (m : Move) → AreLegalMoves p moves → k < length moves → m ≡ get_or moves k m → IsLegal p m.from.index m.to.index m.promotion
place_legal p moves k m are within is = (are.each m).0 (k, within, sym is)
