use Rattle.std.proofs.Common.{◌≡◌, refl, subst}
use Rattle.replay_commands_without_core.specs.Begun.{unbegun_script, migration_meaning}
use Rattle.replay_commands_without_core.specs.declared.migration.Migration.{Migration}
use Rattle.replay_command_base.specs.Diagnostics.{command_status}
use Rattle.replay_command_base.specs.Ran.{FilterRan}
use Rattle.replay_command_base.specs.Streams.{FilterStreams, filter_streams}
use Rattle.replay_command_base.proofs.Outcomes.{outcome}
use Rattle.replay_command_base.specs.Filtered.{FilterEndsBy}
use Rattle.replay_commands_without_core.proofs.Migrations.{migrated_by}
use Rattle.replay_commands_without_core.proofs.run.migrate.Goals as goal

pub returns : goal.returns
returns g c =
    let start : FilterStreams = filter_streams (g.I.Source.state c.args.input.now) (g.O.Sink.state c.args.output.now) (g.D.Sink.state c.args.diag.now) in
    let now : FilterStreams = filter_streams (g.I.Source.state c.run_filter.new.input) (g.O.Sink.state c.run_filter.new.output) (g.D.Sink.state c.run_filter.new.diag) in
    let code = command_status c.run_filter.result in
    let first = unbegun_script c.args.settings.now in
    let ran : FilterRan (λ e. FilterEndsBy migration_meaning first ((c.run_filter.new.input ≡ c.args.input.now) × (c.run_filter.new.output ≡ c.args.output.now)) e start now) start now code =
    subst (λ (s : Migration). FilterRan (λ e. FilterEndsBy migration_meaning s ((c.run_filter.new.input ≡ c.args.input.now) × (c.run_filter.new.output ≡ c.args.output.now)) e start now) start now code) c.new.ensures c.run_filter.ensures in
    migrated_by c.args.settings.now first refl _ _ start now code ran (outcome migration_meaning first _ start now code ran)
