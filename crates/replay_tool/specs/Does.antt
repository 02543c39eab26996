-- The result of a command.
use Rattle.std.specs.Prelude.{ℕ, Option, Some, None}
use Rattle.fen_text.specs.Fen.{position_of}
use Rattle.replay_commands_on_core.specs.Check.{ChecksAs}
use Rattle.replay_commands_on_core.specs.Commands.{ReplayRequest}
use Rattle.replay_commands_on_core.specs.Commands as asked
use Rattle.replay_commands_on_core.specs.Drilled.{PlaysDrill}
use Rattle.replay_commands_on_core.specs.Moves.{Lists}
use Rattle.replay_commands_on_core.specs.Laws.{HaveLaws}
use Rattle.replay_command_base.specs.Ran.{FilterRan, Refused}
use Rattle.replay_commands_on_core.specs.Replay.{EndsAs}
use Rattle.replay_command_base.specs.Streams.{FilterStreams}
use Rattle.replay_commands_without_core.specs.Migrated.{Migrated}
use Rattle.judge_report.specs.Conducts.{ConductJudged}
use Rattle.judge_report.specs.Judged.{Judged}
use Rattle.replay_commands_without_core.specs.Revived.{ReviveCommandIs}
use Rattle.replay_commands_without_core.specs.Driven.{DriveCommandIs}
use Rattle.session_export.specs.GamesWritten.{GamesWritten}
use Rattle.session_export.specs.PositionsWritten.{PositionsWritten}

abbrev pub ReplayDoes : Option ReplayRequest → Type 0 → Type 0 → Type 0 → FilterStreams → FilterStreams → ℕ → Type 0
ReplayDoes None unread kept silent before after code = Refused unread kept before after code
ReplayDoes (Some (asked.Replay o)) unread kept silent before after code =
    HaveLaws o × FilterRan (λ e. EndsAs o (unread × kept) e before after) before after code
ReplayDoes (Some (asked.Check o)) unread kept silent before after code =
    HaveLaws o × FilterRan (λ e. ChecksAs o unread kept e before after) before after code
ReplayDoes (Some (asked.Migrate o)) unread kept silent before after code =
    Migrated o unread kept before after code
ReplayDoes (Some (asked.Judge listener)) unread kept silent before after code =
    Judged listener (unread × kept) before after code
ReplayDoes (Some (asked.JudgeEngine listener)) unread kept silent before after code =
    ConductJudged listener (unread × kept) before after code
ReplayDoes (Some (asked.Revive lives)) unread kept silent before after code =
    ReviveCommandIs lives (unread × kept) before after code
ReplayDoes (Some asked.Drive) unread kept silent before after code =
    DriveCommandIs (unread × kept) before after code
ReplayDoes (Some (asked.Games o)) unread kept silent before after code =
    GamesWritten o unread kept before after code
ReplayDoes (Some (asked.Positions o)) unread kept silent before after code =
    PositionsWritten o unread kept before after code
ReplayDoes (Some (asked.Moves text)) unread kept silent before after code =
    unread × Lists (position_of text) kept silent code before.output after.output before.diag
    after.diag
ReplayDoes (Some (asked.Drill number count)) unread kept silent before after code =
    unread × PlaysDrill number count kept silent code before.output after.output before.diag
    after.diag
