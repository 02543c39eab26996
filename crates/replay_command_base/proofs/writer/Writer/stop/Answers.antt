use Rattle.std.proofs.Common.{◌∙◌, sym}
use Rattle.replay_command_base.proofs.Scribing.{left_cut, left_written}
use Rattle.replay_command_base.proofs.writer.Writer.stop.Goals as goal

pub returns-then-is_cut : goal.returns-then-is_cut
returns-then-is_cut g c = λ s0 lines before h.
    left_cut g.S.LineFilter.means s0 lines c.args.ending c.args.self.now.text.text before (g.O.Sink.state c.args.output.now) (sym c.is_cut.ensures ∙ c.if-is_cut.true) h

pub returns : goal.returns
returns g c = λ s0 lines before h.
    left_written g.S.LineFilter.means s0 lines c.args.ending c.write_last.result c.args.self.now.text.text before (g.O.Sink.state c.args.output.now) (g.O.Sink.state c.write_last.new.output) (sym c.is_cut.ensures ∙ c.if-is_cut.false) h
    (λ s. c.write_last.ensures s0 lines before s)
