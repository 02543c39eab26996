-- The export of a session: its games.
use Rattle.std.specs.Prelude.{◌≡◌, ℕ, List, []}
use Rattle.chess_board.specs.Play.{start_position}
use Rattle.game_record.specs.Game.{Game, game_from}
use Rattle.policy_rules.specs.declared.setting_rules.settings.Settings.{Settings}
use Rattle.adapter_core.specs.Trace.{Step}
use Rattle.replay_command_base.specs.declared.ending.Ending.{Ending}
use Rattle.replay_command_base.specs.declared.ending.Ending.TheVariants as endings
use Rattle.replay_command_base.specs.Putting.{Putting}
use Rattle.session_export.specs.declared.writer.SessionWriter.{SessionWriter}
use Rattle.session_export.specs.Exporting.{Exporting, game_at}
use Rattle.session_export.specs.Writing as writing
use Rattle.session_export.specs.declared.game_exporter.GameExporter.{GameExporter}
use Rattle.session_export.specs.Games.{games_of, games_over, games_text, over_by, running_game}

-- the text that is put at an end: the running game, if the input has ended
abbrev pub last_by : Ending → Game → List Game
last_by endings.Done g = running_game g
last_by ending g = []

-- an exporter of games: for a step the game that is over then, if one is
abbrev pub exports_games : Exporting GameExporter
exports_games = record {
  first = record { game = game_from start_position };
  at = λ exporter before. exporter.game ≡ game_at before;
  step_text = λ number event before after. games_text (over_by (game_at before) event after);
  last_text = λ ending game. games_text (last_by ending game);
}

-- a session whose games are written
abbrev pub GameWriter : Type 0
GameWriter = SessionWriter GameExporter

-- the writer that is made with these settings
abbrev pub new_game_writer : Settings → GameWriter
new_game_writer settings = writing.new_session_writer exports_games settings

-- the games that are over, and all games once the session has ended
abbrev pub text_over : Settings → List Step → List ℕ
text_over o trace = games_text (games_over o trace)

abbrev pub text_all : Settings → List Step → List ℕ
text_all o trace = games_text (games_of o trace)

-- the meaning of a writer of games to the run that gives it lines
abbrev pub writes_games : Putting GameWriter
writes_games = writing.export_meaning exports_games

-- the games that are due if no more lines are taken, for this reason
abbrev pub games_due : Settings → List Step → Ending → List ℕ
games_due o trace endings.Done = text_all o trace
games_due o trace ending = text_over o trace
