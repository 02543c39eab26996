use Rattle.std.proofs.Common.{◌∙◌, sym, inl, refl}
use Rattle.replay_command_base.specs.Putting.{IsOfLine}
use Rattle.replay_command_base.proofs.Scribing.{on_err, stood_cut_all}
use Rattle.replay_command_base.proofs.writer.WriterLineConsumer.flush.Goals as goal

pub returns-then-is_err-clause-keeps : goal.returns-then-is_err-clause-keeps
returns-then-is_err-clause-keeps g c = λ w0 o0 pieces t.
    inl (
      refl,
      stood_cut_all g.S.LineFilter.means w0.line_filter IsOfLine pieces c.args.self.now.line_filter c.args.self.now.text (g.O.Sink.state o0) (g.O.Sink.state c.args.output.now) (g.O.Sink.state c.write_held.new.output) t
          (on_err c.write_held.result _ c.write_held.ensures.err (sym c.is_err.ensures.value ∙ c.if-is_err.true)),
    )
