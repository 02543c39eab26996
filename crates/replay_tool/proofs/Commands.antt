-- The result of each command.
use Rattle.std.proofs.Common.{◌≡◌, ℕ, List, Option, Some, None, sym, subst}
use Rattle.session_judge.specs.declared.listener.Listener.{Listener}
use Rattle.policy_rules.specs.declared.setting_rules.settings.Settings.{Settings}
use Rattle.replay_commands_on_core.specs.Checked.{Checked}
use Rattle.replay_commands_on_core.specs.Commands.{ReplayRequest}
use Rattle.replay_commands_on_core.specs.Commands as asked
use Rattle.replay_tool.specs.Does.{ReplayDoes}
use Rattle.replay_commands_on_core.specs.Drilled.{Drilled}
use Rattle.replay_tool.specs.Driving.{DrivesTheOrdered}
use Rattle.replay_commands_on_core.specs.Listed.{Listed}
use Rattle.replay_commands_on_core.specs.OwnScripts.{JudgesOwnTalk, MigratesOwnScripts}
use Rattle.replay_command_base.specs.Ran.{Refused}
use Rattle.replay_commands_on_core.specs.Replayed.{Replayed}
use Rattle.replay_command_base.specs.Streams.{FilterStreams}
use Rattle.judge_report.specs.Conducts.{ConductJudged}
use Rattle.judge_report.specs.Judged.{Judged}
use Rattle.replay_commands_without_core.specs.Migrated.{Migrated}
use Rattle.replay_commands_without_core.specs.Revived.{ReviveCommandIs}
use Rattle.replay_commands_without_core.specs.Driven.{DriveCommandIs}
use Rattle.replay_commands_without_core.specs.Scripts.{driven_events}
use Rattle.judge_and_driver_laws.specs.Driver.Runs.{HearsTheOrdered}
use Rattle.line_io.specs.Lines.{items}
use Rattle.line_io.specs.declared.limits.TheConstants.{SCRIPT_LINE}
use Rattle.session_export.specs.GamesWritten.{GamesWritten}
use Rattle.session_export.specs.PositionsWritten.{PositionsWritten}
use Rattle.replay_commands_on_core.proofs.Answers as ran
use Rattle.replay_commands_on_core.proofs.Verdicts as checks
use Rattle.replay_commands_on_core.proofs.Listing as listing
use Rattle.replay_commands_on_core.proofs.Drilling as drilling
use Rattle.replay_commands_on_core.proofs.OwnTalk.{judges_own_talk}
use Rattle.replay_commands_on_core.proofs.OwnMigrations.{migrates_own}
use Rattle.replay_command_base.proofs.Announcing as announced

module _ (unread kept silent : Type 0) (start now : FilterStreams) (code : ℕ) where
  abbrev D : Option ReplayRequest → Type 0
  D command = ReplayDoes command unread kept silent start now code

  pub is_done : (a b : Option ReplayRequest) → a ≡ b → D b → D a
  is_done a b e d = subst D (sym e) d

  -- the same with the code as a status has it
  pub at_code : (command : Option ReplayRequest) (k : ℕ) → k ≡ code → D command → ReplayDoes command unread kept silent start now k
  at_code command k e d = subst (λ (x : ℕ). ReplayDoes command unread kept silent start now x) (sym e) d

  pub usage : (command : Option ReplayRequest) → D command → command ≡ None → Refused unread kept start now code
  usage command d e = subst D e d

  pub replayed : (command : Option ReplayRequest) → D command → (o : Settings) → command ≡ Some (asked.Replay o) → Replayed o unread kept start now code
  replayed command d o e = let x : D (Some (asked.Replay o)) = subst D e d in ran.replayed o unread kept start now code x.0 x.1

  pub checked : (command : Option ReplayRequest) → D command → (o : Settings) → command ≡ Some (asked.Check o) → Checked o unread kept start now code
  checked command d o e = let x : D (Some (asked.Check o)) = subst D e d in checks.checked o unread kept start now x.0 code x.1

  pub migrated : (command : Option ReplayRequest) → D command → (o : Settings) → command ≡ Some (asked.Migrate o) → Migrated o unread kept start now code
  migrated command d o e = subst D e d

  pub migrated_own : (command : Option ReplayRequest) → D command → (o : Settings) → command ≡ Some (asked.Migrate o) → MigratesOwnScripts o start now code
  migrated_own command d o e = migrates_own o start now code (migrated command d o e).scripts

  pub judged : (command : Option ReplayRequest) → D command → (listener : Listener) → command ≡ Some (asked.Judge listener) → Judged listener (unread × kept) start now code
  judged command d listener e = subst D e d

  pub engine_judged : (command : Option ReplayRequest) → D command → (listener : Listener) → command ≡ Some (asked.JudgeEngine listener) → ConductJudged listener (unread × kept) start now code
  engine_judged command d listener e = subst D e d

  pub judged_own : (command : Option ReplayRequest) → D command → (listener : Listener) → command ≡ Some (asked.Judge listener) → JudgesOwnTalk listener start now code
  judged_own command d listener e = judges_own_talk listener (unread × kept) start now code (judged command d listener e)

  pub revived : (command : Option ReplayRequest) → D command → (lives : ℕ) → command ≡ Some (asked.Revive lives) → ReviveCommandIs lives (unread × kept) start now code
  revived command d lives e = subst D e d

  pub driven : (command : Option ReplayRequest) → D command → command ≡ Some asked.Drive → DriveCommandIs (unread × kept) start now code
  driven command d e = subst D e d

  pub driven_ordered : HearsTheOrdered → (command : Option ReplayRequest) → D command → command ≡ Some asked.Drive → DrivesTheOrdered start now code
  driven_ordered law command d e done o taken going =
      let all = ((driven command d e).all_driven done).0 in
      record {
        got = all.got;
        reads = all.reads;
        all_read = all.all_read;
        text = all.text;
        driven = all.driven;
        written = all.written;
        heard = law o taken (driven_events (items SCRIPT_LINE all.got)) all.driven.script.after going all.driven.script.goes;
      }

  pub games_written : (command : Option ReplayRequest) → D command → (o : Settings) → command ≡ Some (asked.Games o) → GamesWritten o unread kept start now code
  games_written command d o e = subst D e d

  pub positions_written : (command : Option ReplayRequest) → D command → (o : Settings) → command ≡ Some (asked.Positions o) → PositionsWritten o unread kept start now code
  positions_written command d o e = subst D e d

  pub listed : (command : Option ReplayRequest) → D command → (text : List ℕ) → command ≡ Some (asked.Moves text) → Listed text unread kept silent start now code
  listed command d text e = let x : D (Some (asked.Moves text)) = subst D e d in listing.listed text unread kept silent start now code x.0 x.1

  pub drilled : (command : Option ReplayRequest) → D command → (number count : ℕ) → command ≡ Some (asked.Drill number count) → Drilled number count unread kept silent start now code
  drilled command d number count e = let x : D (Some (asked.Drill number count)) = subst D e d in drilling.drilled number count unread kept silent start now code x.0 x.1

  pub memory : (command : Option ReplayRequest) → D command → code ≡ 3 → unread × kept
  memory None d z = absurd (announced.no_announced code start.diag now.diag 2 _ 3 (λ e. cc) (λ e. cc) d.announced z)
  memory (Some (asked.Replay o)) d z = ran.memory o unread kept start now code d.1 z
  memory (Some (asked.Check o)) d z = checks.memory o unread kept start now d.0 code d.1 z
  memory (Some (asked.Drill number count)) d z = (d.0, drilling.wants _ _ _ _ _ _ _ _ _ d.1 z)
  memory (Some (asked.Moves text)) d z = (d.0, listing.wants _ _ _ _ _ _ _ _ d.1 z)
  memory command d z = d.memory z
