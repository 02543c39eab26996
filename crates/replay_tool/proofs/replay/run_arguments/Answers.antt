use Rattle.std.proofs.Common.{Some, ◌∙◌, sym, ap, refl}
use Rattle.std.specs.Option.{option_map}
use Rattle.replay_commands_on_core.specs.declared.command.ReplayCommand.{ReplayCommand}
use Rattle.replay_commands_on_core.specs.Commands.{request_by_command}
use Rattle.replay_tool.proofs.Commands.{is_done}
use Rattle.replay_tool.proofs.replay.run_arguments.Goals as goal

pub returns-in-Some-Replay : goal.returns-in-Some-Replay
returns-in-Some-Replay g c =
    is_done _ _ _ _ _ _ _ _
    (sym c.read_command.ensures.value ∙ ap (option_map request_by_command) (c.in-Some-Replay.is ∙ ap (λ (k : ReplayCommand). Some k) c.in-Some-Replay.field-0-is))
    (c.session_laws.ensures, c.run_replay.ensures)

pub returns-in-Some-Check : goal.returns-in-Some-Check
returns-in-Some-Check g c =
    is_done _ _ _ _ _ _ _ _
    (sym c.read_command.ensures.value ∙ ap (option_map request_by_command) (c.in-Some-Check.is ∙ ap (λ (k : ReplayCommand). Some k) c.in-Some-Check.field-0-is))
    (c.session_laws-in-Some-Check.ensures, c.run_check.ensures)

pub returns-in-Some-Migrate : goal.returns-in-Some-Migrate
returns-in-Some-Migrate g c =
    is_done _ _ _ _ _ _ _ _
    (sym c.read_command.ensures.value ∙ ap (option_map request_by_command) (c.in-Some-Migrate.is ∙ ap (λ (k : ReplayCommand). Some k) c.in-Some-Migrate.field-0-is))
    c.migrate.ensures

pub returns-in-Some-Judge : goal.returns-in-Some-Judge
returns-in-Some-Judge g c =
    is_done _ _ _ _ _ _ _ _
    (sym c.read_command.ensures.value ∙ ap (option_map request_by_command) (c.in-Some-Judge.is ∙ ap (λ (k : ReplayCommand). Some k) c.in-Some-Judge.field-0-is))
    c.run_judge.ensures

pub returns-in-Some-JudgeEngine : goal.returns-in-Some-JudgeEngine
returns-in-Some-JudgeEngine g c =
    is_done _ _ _ _ _ _ _ _
    (sym c.read_command.ensures.value ∙ ap (option_map request_by_command) (c.in-Some-JudgeEngine.is ∙ ap (λ (k : ReplayCommand). Some k) c.in-Some-JudgeEngine.field-0-is))
    c.run_conduct_judge.ensures

pub returns-in-Some-Revive : goal.returns-in-Some-Revive
returns-in-Some-Revive g c =
    is_done _ _ _ _ _ _ _ _
    (sym c.read_command.ensures.value ∙ ap (option_map request_by_command) (c.in-Some-Revive.is ∙ ap (λ (k : ReplayCommand). Some k) c.in-Some-Revive.field-0-is))
    c.run_revive.ensures

pub returns-in-Some-Drive : goal.returns-in-Some-Drive
returns-in-Some-Drive g c =
    is_done _ _ _ _ _ _ _ _
    (sym c.read_command.ensures.value ∙ ap (option_map request_by_command) (c.in-Some-Drive.is ∙ ap (λ (k : ReplayCommand). Some k) c.in-Some-Drive.field-0-is))
    c.run_drive.ensures

pub returns-in-Some-Games : goal.returns-in-Some-Games
returns-in-Some-Games g c =
    is_done _ _ _ _ _ _ _ _
    (sym c.read_command.ensures.value ∙ ap (option_map request_by_command) (c.in-Some-Games.is ∙ ap (λ (k : ReplayCommand). Some k) c.in-Some-Games.field-0-is))
    c.write_games.ensures

pub returns-in-Some-Positions : goal.returns-in-Some-Positions
returns-in-Some-Positions g c =
    is_done _ _ _ _ _ _ _ _
    (sym c.read_command.ensures.value ∙ ap (option_map request_by_command) (c.in-Some-Positions.is ∙ ap (λ (k : ReplayCommand). Some k) c.in-Some-Positions.field-0-is))
    c.write_positions.ensures

pub returns-in-Some-Drill : goal.returns-in-Some-Drill
returns-in-Some-Drill g c =
    is_done _ _ _ _ _ _ _ _
    (sym c.read_command.ensures.value ∙ ap (option_map request_by_command) (c.in-Some-Drill.is ∙ ap (λ (k : ReplayCommand). Some k) c.in-Some-Drill.field-0-is))
    (refl, c.play_drill.ensures)

pub returns-in-Some-Moves : goal.returns-in-Some-Moves
returns-in-Some-Moves g c =
    is_done _ _ _ _ _ _ _ _
    (sym c.read_command.ensures.value ∙ ap (option_map request_by_command) (c.in-Some-Moves.is ∙ ap (λ (k : ReplayCommand). Some k) c.in-Some-Moves.field-0-is))
    (refl, c.list_moves.ensures)

pub returns-in-None : goal.returns-in-None
returns-in-None g c =
    is_done _ _ _ _ _ _ _ _
    (sym c.read_command.ensures.value ∙ ap (option_map request_by_command) c.in-None.is)
    (record { unread = refl; kept = refl; announced = c.report_without_buffer.ensures })
