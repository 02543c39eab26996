use Rattle.std.proofs.Common.{refl}
use Rattle.replay_command_base.specs.declared.ending.Ending.TheVariants as endings
use Rattle.replay_command_base.specs.Streams.{FilterStreams, filter_streams}
use Rattle.replay_commands_on_core.proofs.Ended.{ended}
use Rattle.replay_commands_on_core.proofs.run.run_replay.Goals as goal

pub returns-in_default : goal.returns-in_default
returns-in_default g c = record {
  ending = endings.NoMemory;
  ends = (refl, refl);
  announces = c.report_without_buffer.ensures;
  reading = λ e. cc;
  writing = λ e. cc;
  read = λ e f. refl;
  written = λ e. refl;
}

pub returns : goal.returns
returns g c =
    let start : FilterStreams = filter_streams (g.I.Source.state c.args.input.now) (g.O.Sink.state c.args.output.now) (g.D.Sink.state c.args.diag.now) in
    let now : FilterStreams = filter_streams (g.I.Source.state c.go-ending.new.input) (g.O.Sink.state c.go-ending.new.output) (g.D.Sink.state c.report_ending.new.diag) in
    let causes = c.go-ending.ensures.causes in
    record {
      ending = c.go-ending.result;
      ends = ended c.args.settings.now _ c.go-ending.result start now (c.go-ending.ensures.stopped c.args.settings.now start.diag now.diag c.in-Ok.ensures.player);
      announces = c.report_ending.ensures;
      reading = causes.reading;
      writing = causes.writing;
      read = causes.read;
      written = causes.written;
    }
