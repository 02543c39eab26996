use Rattle.std.proofs.Common.{refl}
use Rattle.replay_command_base.specs.Streams.{FilterStreams, filter_streams}
use Rattle.session_export.proofs.Outcomes.{may_write, nothing_written}
use Rattle.session_export.specs.PositionExports.{exports_positions}
use Rattle.session_export.proofs.PositionsAgain.{positions_written, want_of_memory}
use Rattle.session_export.proofs.positions.write_positions.Goals as goal

pub run_filter-requires-clause-may : goal.run_filter-requires-clause-may
run_filter-requires-clause-may g c = may_write exports_positions c.args.settings.now c.in-Ok.writer c.in-Ok.ensures.unused

pub run_filter-requires-clause-fresh : goal.run_filter-requires-clause-fresh
run_filter-requires-clause-fresh g c = nothing_written exports_positions c.in-Ok.writer

pub returns-in_default : goal.returns-in_default
returns-in_default g c = want_of_memory c.args.settings.now c.requires _ _ _ _ _ refl refl refl refl c.report_without_buffer.ensures

pub returns : goal.returns
returns g c =
    let start : FilterStreams = filter_streams (g.I.Source.state c.args.input.now) (g.O.Sink.state c.args.output.now) (g.D.Sink.state c.args.diag.now) in
    let now : FilterStreams = filter_streams (g.I.Source.state c.run_filter.new.input) (g.O.Sink.state c.run_filter.new.output) (g.D.Sink.state c.run_filter.new.diag) in
    let writer = c.in-Ok.writer in
    positions_written c.args.settings.now writer c.in-Ok.ensures.new c.in-Ok.ensures.unused _ _ start now _ c.run_filter.ensures
