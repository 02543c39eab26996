-- The result of a drill.
use Rattle.std.specs.Prelude.{◌≡◌, ℕ, List, ◌∷◌, ◌++◌}
use Rattle.line_io.specs.Event.{Event, Open}
use Rattle.fen_text.specs.Written.{position_fen}
use Rattle.game_record.specs.Game.{current_position}
use Rattle.policy_rules.specs.SettingRules.Policy.{usual}
use Rattle.adapter_core.specs.Trace.{Step, LawfulTrace}
use Rattle.trace_scripts.specs.Script.{events}
use Rattle.random_games.specs.Rounds.{Drill, Rounds, first_drill, greeting_events}
use Rattle.random_games.specs.Rounds.{preparation, closing_events}
use Rattle.random_games.specs.Tally.{tally_of, drill_report_line}

-- The line gives the counts of the lawful trace of the drill's events with the usual settings, and
-- the position of its game.
pub record Drills (number count : ℕ) (line : List ℕ) : Type 0 where
  pub rounds : List Event
  pub last : Drill
  pub plays : Rounds count (first_drill number) rounds last
  pub trace : List Step
  pub lawful : LawfulTrace usual trace
  pub events_are : events trace
      ≡ Open ∷ (greeting_events ++ (preparation ++ (rounds ++ closing_events)))
  pub line_is : line ≡ drill_report_line number count (tally_of trace) (position_fen (current_position last.game))
