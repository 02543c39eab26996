use Rattle.std.proofs.Common.{◌++◌, ◌∙◌, sym, ap}
use Rattle.line_io.proofs.Puts.{put_two}
use Rattle.script_replay.specs.Stages.{is_first_stage}
use Rattle.session_export.proofs.Came.{finished_first, finished_later}
use Rattle.session_export.proofs.writer.SessionWriterLineFilter.finish.Goals as goal

pub returns-then-is_new-clause-closes : goal.returns-then-is_new-clause-closes
returns-then-is_new-clause-closes g c =
    let means = g.T.StepExporter.means in
    let begun = c.open_plain.ensures.opened in
    let core = c.open_plain.new.self.core in
    let last = means.last_text c.args.ending core.desk.game in
    record {
      more = begun.more ++ last;
      put = put_two c.args.text.now c.open_plain.new.text c.finish.new.text begun.more last begun.put
          (c.finish.ensures core.desk.game (c.open_plain.ensures.may.at (ap is_first_stage begun.holds.1)));
      says = λ s0 lines text p o u.
          finished_first means o lines c.args.self.now c.open_plain.new.self text begun.more (sym c.is_new.ensures ∙ c.if-is_new.true) (p o u) begun.holds
          c.args.ending c.requires.ends;
    }

pub returns-clause-closes : goal.returns-clause-closes
returns-clause-closes g c =
    let means = g.T.StepExporter.means in
    let game = c.args.self.now.core.desk.game in
    record {
      more = means.last_text c.args.ending game;
      put = c.finish-2.ensures game (c.requires.may.at (sym c.is_new.ensures ∙ c.if-is_new.false));
      says = λ s0 lines text p o u.
          finished_later means o lines c.args.self.now text c.args.ending c.requires.ends (sym c.is_new.ensures ∙ c.if-is_new.false) (p o u);
    }
