use Rattle.std.proofs.Common.{◌≡◌, refl, subst}
use Rattle.replay_command_base.specs.Diagnostics.{command_status}
use Rattle.replay_command_base.specs.Ran.{FilterRan}
use Rattle.replay_command_base.specs.Streams.{FilterStreams, filter_streams}
use Rattle.replay_command_base.proofs.Outcomes.{outcome}
use Rattle.replay_command_base.specs.Filtered.{FilterEndsBy}
use Rattle.cecp_driver.specs.declared.driver.DriverParts.{DriverParts}
use Rattle.cecp_driver.specs.Driver.{opening_driver}
use Rattle.replay_commands_without_core.specs.Scripts.{drive_filter_meaning}
use Rattle.replay_commands_without_core.proofs.Reading.{begins}
use Rattle.replay_commands_without_core.proofs.Statuses.{driven, want_of_memory}
use Rattle.replay_commands_without_core.proofs.driving.run_drive.Goals as goal

pub run_filter-requires-clause-fresh : goal.run_filter-requires-clause-fresh
run_filter-requires-clause-fresh g c = λ first. begins c.in-Ok.drive first

pub returns-in_default : goal.returns-in_default
returns-in_default g c = want_of_memory _ _ _ _ (refl, refl) refl refl c.report_without_buffer.ensures

pub returns : goal.returns
returns g c =
    let start : FilterStreams = filter_streams (g.I.Source.state c.args.input.now) (g.O.Sink.state c.args.output.now) (g.D.Sink.state c.args.diag.now) in
    let now : FilterStreams = filter_streams (g.I.Source.state c.run_filter.new.input) (g.O.Sink.state c.run_filter.new.output) (g.D.Sink.state c.run_filter.new.diag) in
    let code = command_status c.run_filter.result in
    let ran : FilterRan (λ e. FilterEndsBy drive_filter_meaning opening_driver ((c.run_filter.new.input ≡ c.args.input.now) × (c.run_filter.new.output ≡ c.args.output.now)) e start now) start now code =
    subst (λ (v : DriverParts). FilterRan (λ e. FilterEndsBy drive_filter_meaning v ((c.run_filter.new.input ≡ c.args.input.now) × (c.run_filter.new.output ≡ c.args.output.now)) e start now) start now code) c.in-Ok.ensures c.run_filter.ensures in
    driven _ opening_driver refl start now code ran (outcome drive_filter_meaning opening_driver _ start now code ran)
