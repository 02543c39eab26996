use Rattle.std.proofs.Common.{refl}
use Rattle.replay_command_base.specs.declared.ending.Ending.TheVariants as endings
use Rattle.replay_command_base.specs.Streams.{FilterStreams, filter_streams}
use Rattle.replay_commands_on_core.proofs.Verdicts.{ran}
use Rattle.replay_commands_on_core.proofs.check.run_check.Goals as goal

pub returns-in_default : goal.returns-in_default
returns-in_default g c = record {
  ending = endings.NoMemory;
  ends = (refl, refl);
  announces = c.report_without_buffer.ensures;
  reading = λ e. cc;
  writing = λ e. cc;
  read = λ e f. refl;
  written = λ e. refl;
}

pub returns : goal.returns
returns g c =
    let start : FilterStreams = filter_streams (g.I.Source.state c.args.input.now) (g.O.Sink.state c.args.output.now) (g.D.Sink.state c.args.diag.now) in
    let now : FilterStreams = filter_streams (g.I.Source.state c.go-found.new.input) (g.O.Sink.state c.write_verdict-ending.new.output) (g.D.Sink.state c.report_ending.new.diag) in
    ran c.args.settings.now _ _ start now _ c.go-found.result c.write_verdict-ending.result
    (c.go-found.ensures.finds c.args.settings.now start now c.in-Ok.ensures.checker)
    c.write_verdict-ending.ensures.wrote c.report_ending.ensures c.go-found.ensures.cause c.go-found.ensures.same
