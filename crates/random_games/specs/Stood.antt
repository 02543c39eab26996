-- The effects of the parts of a round.
use Rattle.std.specs.Prelude.{◌≡◌, ℕ, List, ◌++◌}
use Rattle.line_io.specs.Event.{Event}
use Rattle.chess_board.specs.declared.board.Move.{Move}
use Rattle.random_games.specs.declared.round.Drill.{Drill}
use Rattle.random_games.specs.Rounds.{Drill as AnyDrill, Draws, Misses, DrillAnswers, Round, Rounds}
use Rattle.random_games.specs.Rounds.{entry, answer_with, drill_after_move, drill_with_hint}
use Rattle.random_games.specs.Sent.{Sent}

abbrev pub stand_of : Drill → AnyDrill
stand_of d = record { seed = d.seed; game = d.game; hint = d.hint }

-- a move was drawn for the user, and entered
pub record UserMoves (old new : Drill) : Type 0 where
  pub entered : Move
  pub drawn : Draws (stand_of old) entered
  pub missed : List Event
  pub misses : Misses old.hint entered missed
  pub sent : Sent old.session new.session (entry entered ++ missed)
  pub stand : stand_of new ≡ drill_after_move (stand_of old) entered

-- a hint was drawn, and the engine answered with it
pub record HintDrawn (old new : Drill) (m : Move) : Type 0 where
  pub hint : Move
  pub drawn : Draws (stand_of old) hint
  pub sent : Sent old.session new.session (answer_with m hint)
  pub stand : stand_of new ≡ drill_with_hint (stand_of old) hint

-- the engine answered, if the game had not ended
pub record EngineMoves (old new : Drill) : Type 0 where
  pub answered : List Event
  pub answers : DrillAnswers (stand_of old) answered (stand_of new)
  pub sent : Sent old.session new.session answered

-- a round was played
pub record RoundPlayed (old new : Drill) : Type 0 where
  pub events : List Event
  pub round : Round (stand_of old) events (stand_of new)
  pub sent : Sent old.session new.session events

-- so many rounds were played
pub record RoundsPlayed (n : ℕ) (old new : Drill) : Type 0 where
  pub events : List Event
  pub rounds : Rounds n (stand_of old) events (stand_of new)
  pub sent : Sent old.session new.session events
