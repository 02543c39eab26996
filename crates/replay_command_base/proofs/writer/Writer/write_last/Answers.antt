use Rattle.std.proofs.Common.{◌∙◌, sym, inl, inr, refl}
use Rattle.replay_command_base.proofs.Scribing.{on_err, on_ok, said_cut, said_moved}
use Rattle.replay_command_base.proofs.writer.Writer.write_last.Goals as goal

pub returns-then-is_err : goal.returns-then-is_err
returns-then-is_err g c = λ s0 lines before t.
    inr (
      refl,
      said_cut g.S.LineFilter.means s0 lines c.args.ending c.args.self.now.text.text before (g.O.Sink.state c.args.output.now) (g.O.Sink.state c.write_held.new.output) t
          (on_err c.write_held.result _ c.write_held.ensures.err (sym c.is_err.ensures.value ∙ c.if-is_err.true)),
    )

pub returns : goal.returns
returns g c = λ s0 lines before t.
    let m = on_ok c.write_held.result _ c.write_held.ensures.ok (sym c.is_err.ensures.value ∙ c.if-is_err.false) in
    inl (refl, said_moved g.S.LineFilter.means s0 lines c.args.ending c.args.self.now.text c.write_held.new.text before (g.O.Sink.state c.args.output.now) (g.O.Sink.state c.write_held.new.output) t m.0 m.1)
