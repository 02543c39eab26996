use Rattle.std.proofs.Common.{◌∙◌, ◌∷◌, ◌++◌, [], sym, inl, refl}
use Rattle.line_io.specs.Lines.{TooLong}
use Rattle.replay_command_base.specs.Putting.{IsOfLine}
use Rattle.replay_command_base.proofs.Scribing.{line_put, on_err, on_ok, stood_cut, stood_moved, then_by}
use Rattle.replay_command_base.proofs.writer.WriterLineConsumer.long.Goals as goal

pub returns-then-is_err-clause-takes : goal.returns-then-is_err-clause-takes
returns-then-is_err-clause-takes g c = λ w0 o0 pieces t n.
    inl (
      refl,
      stood_cut g.S.LineFilter.means w0.line_filter IsOfLine pieces (TooLong ∷ []) c.args.self.now.line_filter c.args.self.now.text (g.O.Sink.state o0) (g.O.Sink.state c.args.output.now) (g.O.Sink.state c.make_room.new.output) t
          (on_err c.make_room.result _ c.make_room.ensures.err (sym c.is_err.ensures.value ∙ c.if-is_err.true)),
    )

pub returns-clause-takes : goal.returns-clause-takes
returns-clause-takes g c = λ w0 o0 pieces t n.
    let means = g.S.LineFilter.means in
    let first = g.O.Sink.state o0 in
    let after = g.O.Sink.state c.make_room.new.output in
    let m = on_ok c.make_room.result _ c.make_room.ensures.ok (sym c.is_err.ensures.value ∙ c.if-is_err.false) in
    let stood = stood_moved means w0.line_filter pieces c.args.self.now.line_filter c.args.self.now.text c.make_room.new.text first (g.O.Sink.state c.args.output.now) after t m.0 in
    then_by means (λ w. w.line_filter) (λ w. w.text) (λ o. g.O.Sink.state o) w0 o0 (pieces ++ TooLong ∷ []) c.long.result (record { line_filter = c.long.new.self; text = c.long.new.text }) c.make_room.new.output
    (line_put means w0.line_filter pieces (TooLong) c.args.number c.long.result c.args.self.now.line_filter c.long.new.self c.make_room.new.text c.long.new.text first after stood n c.long.ensures.may c.long.ensures.of_line c.long.ensures.puts)
