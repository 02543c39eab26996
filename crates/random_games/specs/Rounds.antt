-- The events of a drill.
use Rattle.std.specs.Prelude.{◌≡◌, ◌≢◌, ◌⊎◌, ℕ, zero, suc, List, [], ◌∷◌, ◌++◌}
use Rattle.std.specs.Prelude.{length, codes, Bool, true, false, not, ◌&&◌, ◌||◌}
use Rattle.std.specs.Prelude.{if◌then◌else◌, nat_le, Option, Some, None, slice_get}
use Rattle.line_io.specs.Event.{Event, Iface, Engine, EngineEnd}
use Rattle.chess_board.specs.declared.board.Move.{Move}
use Rattle.chess_board.specs.Play.{start_position, HasLegal}
use Rattle.chess_board.specs.Text.{text_of_move, AreLegalMoves}
use Rattle.game_record.specs.Game.{Game, ply_of, current_position, game_from, with_ply}
use Rattle.desk_rules.specs.Desk.{has_ended}
use Rattle.random_games.specs.Generator.{next, place_of}
use Rattle.random_games.specs.declared.round.TheConstants.{SPENT_PLIES}

-- where a drill stands: the last number of its generator, the game that it keeps, and the move that
-- it has the engine ponder on
pub record Drill : Type 0 where
  pub seed : ℕ
  pub game : Game
  pub hint : Option Move

abbrev pub first_drill : ℕ → Drill
first_drill number = record { seed = number; game = game_from start_position; hint = None }

-- a move is drawn from all legal ones, which stand in the order of their texts
pub record Draws (s : Drill) (m : Move) : Type 0 where
  pub moves : List Move
  pub legal : AreLegalMoves (current_position s.game) moves
  pub drawn : slice_get moves (place_of (next s.seed) (length moves)) ≡ Some m

-- THE BEGINNING AND THE END

abbrev pub greeting_events : List Event
greeting_events =
    Iface (codes "xboard") ∷ Iface (codes "protover 2")
    ∷ Engine (codes "id name Drill") ∷ Engine (codes "option name Ponder type check default false")
    ∷ Engine (codes "uciok") ∷ Engine (codes "readyok") ∷ []

abbrev pub preparation : List Event
preparation =
    Iface (codes "new") ∷ Engine (codes "readyok") ∷ Iface (codes "post") ∷ Iface (codes "hard")
    ∷ Engine (codes "readyok") ∷ []

abbrev pub closing_events : List Event
closing_events = Iface (codes "quit") ∷ EngineEnd ∷ []

-- A NEW GAME

-- the game has ended, or has at least `SPENT_PLIES` moves of both sides
abbrev pub is_spent : Game → Bool
is_spent g = has_ended g || nat_le SPENT_PLIES (length g.moves)

-- an answer without a move
abbrev pub answer_without_move : Event
answer_without_move = Engine (codes "bestmove 0000")

-- the answer to a ponder search that is over
abbrev pub late_answer : Option Move → List Event
late_answer None = []
late_answer (Some hint) = answer_without_move ∷ []

abbrev pub new_game : Option Move → List Event
new_game hint = Iface (codes "new") ∷ (late_answer hint ++ Engine (codes "readyok") ∷ [])

-- a new game, if the one that stands is spent
abbrev pub renewal : Drill → List Event
renewal s = if is_spent s.game then new_game s.hint else []

abbrev pub unspent_drill : Drill → Drill
unspent_drill s = if is_spent s.game then first_drill s.seed else s

-- THE MOVE OF THE USER

abbrev pub entry : Move → List Event
entry m =
    Iface (codes "time 30000") ∷ Iface (codes "otim 30000") ∷ Iface (codes "usermove " ++ text_of_move m)
    ∷ []

-- after a move that was drawn
abbrev pub drill_after_move : Drill → Move → Drill
drill_after_move s m = record { seed = next s.seed; game = with_ply s.game (ply_of m); hint = None }

-- the ponder search of another move is over
abbrev pub Misses : Option Move → Move → List Event → Type 0
Misses None m es = es ≡ []
Misses (Some hint) m es = ((hint ≡ m) × (es ≡ [])) ⊎ ((hint ≢ m) × (es ≡ answer_without_move ∷ []))

-- THE MOVE OF THE ENGINE

abbrev pub thinking_event : Move → Event
thinking_event m = Engine (codes "info depth 1 score cp 0 time 1 nodes 1 pv " ++ text_of_move m)

abbrev pub answer : Move → List Event
answer m = thinking_event m ∷ Engine (codes "bestmove " ++ text_of_move m) ∷ []

abbrev pub answer_with : Move → Move → List Event
answer_with m hint =
    thinking_event m ∷ Engine (codes "bestmove " ++ (text_of_move m ++ (codes " ponder " ++ text_of_move hint))) ∷ []

-- the engine ponders on the hint if the game has not ended, and would not have after the hint
abbrev pub ponders : Game → Move → Bool
ponders g hint = not (has_ended g) && not (has_ended (with_ply g (ply_of hint)))

abbrev pub drill_with_hint : Drill → Move → Drill
drill_with_hint s hint = record {
  seed = next s.seed;
  game = s.game;
  hint = (if ponders s.game hint then Some hint else None);
}

-- the answer of the engine, if the game has not ended: with a hint, if the side then
-- on move has a legal move
pub data DrillAnswers (s : Drill) (es : List Event) (s' : Drill) : Type 0 where
  Nothing : has_ended s.game ≡ true → es ≡ [] → s' ≡ s → DrillAnswers s es s'
  Alone : (m : Move) → has_ended s.game ≡ false → Draws s m
      → ¬ HasLegal (current_position (drill_after_move s m).game) → es ≡ answer m → s' ≡ drill_after_move s m
      → DrillAnswers s es s'
  WithHint : (m hint : Move) → has_ended s.game ≡ false → Draws s m
      → Draws (drill_after_move s m) hint → es ≡ answer_with m hint
      → s' ≡ drill_with_hint (drill_after_move s m) hint → DrillAnswers s es s'

-- ROUNDS

-- a round: a new game if one is due, a move of the user and one of the engine
pub record Round (s : Drill) (es : List Event) (s' : Drill) : Type 0 where
  pub entered : Move
  pub drawn : Draws (unspent_drill s) entered
  pub missed : List Event
  pub misses : Misses (unspent_drill s).hint entered missed
  pub answered : List Event
  pub answers : DrillAnswers (drill_after_move (unspent_drill s) entered) answered s'
  pub events_are : es ≡ renewal s ++ (entry entered ++ (missed ++ answered))

-- so many rounds, one after the other
abbrev pub Rounds : ℕ → Drill → List Event → Drill → Type 0
Rounds zero s es s' = (es ≡ []) × (s' ≡ s)
Rounds (suc n) s es s' =
    (between : Drill) × (first last : List Event) × Rounds n s first between × Round between last s'
    × (es ≡ first ++ last)
