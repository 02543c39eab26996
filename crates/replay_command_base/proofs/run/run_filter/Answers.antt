use Rattle.replay_command_base.specs.Streams.{FilterStreams, filter_streams}
use Rattle.replay_command_base.proofs.Endings.{ended}
use Rattle.replay_command_base.proofs.run.run_filter.Goals as goal

pub returns : goal.returns
returns g c =
    let start : FilterStreams = filter_streams (g.I.Source.state c.args.input.now) (g.O.Sink.state c.args.output.now) (g.D.Sink.state c.args.diag.now) in
    let now : FilterStreams = filter_streams (g.I.Source.state c.write_lines_of-ending.new.input) (g.O.Sink.state c.write_lines_of-ending.new.output) (g.D.Sink.state c.report_ending.new.diag) in
    let causes = c.write_lines_of-ending.ensures.causes in
    record {
      ending = c.write_lines_of-ending.result;
      ends = ended g.S.LineFilter.means c.args.line_filter _ c.write_lines_of-ending.result start now (c.write_lines_of-ending.ensures.scribed start.diag now.diag);
      announces = c.report_ending.ensures;
      reading = causes.reading;
      writing = causes.writing;
      read = causes.read;
      written = causes.written;
    }
