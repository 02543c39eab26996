use Rattle.std.proofs.Common.{◌≡◌, ◌∙◌, sym, inl, inr, refl}
use Rattle.replay_command_base.proofs.Scribing.{finished_early, on_err, on_ok, said_closed, stood_cut_early, stood_moved}
use Rattle.replay_command_base.proofs.writer.Writer.end.Goals as goal

pub returns-then-is_err : goal.returns-then-is_err
returns-then-is_err g c = λ s0 lines before t.
    record {
      verdict = c.args.ending;
      is_verdict = inl refl;
      finished = inr (
        refl,
        stood_cut_early g.S.LineFilter.means s0 (λ e. e ≡ c.args.ending) lines c.args.self.now.line_filter c.args.self.now.text before (g.O.Sink.state c.args.output.now) (g.O.Sink.state c.make_room.new.output) t
            (on_err c.make_room.result _ c.make_room.ensures.err (sym c.is_err.ensures.value ∙ c.if-is_err.true)),
      );
    }

pub returns : goal.returns
returns g c = λ s0 lines before t.
    let means = g.S.LineFilter.means in
    let after = g.O.Sink.state c.make_room.new.output in
    let m = on_ok c.make_room.result _ c.make_room.ensures.ok (sym c.is_err.ensures.value ∙ c.if-is_err.false) in
    let stood = stood_moved means s0 lines c.args.self.now.line_filter c.args.self.now.text c.make_room.new.text before (g.O.Sink.state c.args.output.now) after t m.0 in
    record {
      verdict = c.finish-verdict.result;
      is_verdict = c.finish-verdict.ensures.verdict;
      finished = finished_early means s0 lines _ c.finish-verdict.result c.write_last.result before (g.O.Sink.state c.write_last.new.output) (c.write_last.ensures s0 lines before
          (said_closed means s0 lines c.finish-verdict.result c.args.self.now.line_filter c.make_room.new.text c.finish-verdict.new.text before after stood c.finish-verdict.ensures.closes));
    }
