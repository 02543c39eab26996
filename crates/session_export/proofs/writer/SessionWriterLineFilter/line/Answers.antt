use Rattle.std.proofs.Common.{◌++◌, ◌∷◌, [], ◌∙◌, sym, ap}
use Rattle.line_io.specs.Lines.{Whole}
use Rattle.line_io.proofs.Puts.{put_two}
use Rattle.script_replay.specs.Versions.{version_by}
use Rattle.session_export.proofs.Came.{first_came, header_came, later_line, then_by}
use Rattle.session_export.proofs.writer.SessionWriterLineFilter.line.Goals as goal

pub returns-then-not-is_new-clause-puts : goal.returns-then-not-is_new-clause-puts
returns-then-not-is_new-clause-puts g c =
    let means = g.T.StepExporter.means in
    let took = c.take.ensures.takes in
    record {
      more = took.more;
      put = took.put;
      goes = λ s0 lines text p n.
          then_by means s0 (lines ++ Whole c.args.line.now ∷ []) c.take.result c.take.new.self (text ++ took.more)
          (λ o u. later_line means o lines c.args.self.now c.take.new.self text took.more (Whole c.args.line.now) c.args.number c.take.result
          (sym c.is_new.ensures ∙ c.if-not-is_new.true) (p o u) n c.take.ensures.ending took.holds);
    }

pub returns-in-Some-clause-puts : goal.returns-in-Some-clause-puts
returns-in-Some-clause-puts g c =
    let begun = c.open_numbered.ensures.opened in
    record {
      more = begun.more;
      put = begun.put;
      goes = λ s0 lines text p n o u.
          header_came g.T.StepExporter.means o lines c.args.self.now c.open_numbered.new.self text begun.more c.args.line.now c.in-Some.settings
          (sym c.is_new.ensures ∙ c.if-not-is_new.false) (sym c.read_header.ensures.value ∙ c.in-Some.is) (p o u) begun.holds;
    }

pub returns-in-None-clause-puts : goal.returns-in-None-clause-puts
returns-in-None-clause-puts g c =
    let means = g.T.StepExporter.means in
    let begun = c.open_plain.ensures.opened in
    let took = c.take-in-None.ensures.takes in
    record {
      more = begun.more ++ took.more;
      put = put_two c.args.text.now c.open_plain.new.text c.take-in-None.new.text begun.more took.more begun.put took.put;
      goes = λ s0 lines text p n.
          then_by means s0 (lines ++ Whole c.args.line.now ∷ []) c.take-in-None.result c.take-in-None.new.self (text ++ (begun.more ++ took.more))
          (λ o u. first_came means o lines c.args.self.now c.open_plain.new.self text begun.more (sym c.is_new.ensures ∙ c.if-not-is_new.false) (p o u) begun.holds
          c.take-in-None.new.self took.more (Whole c.args.line.now) c.args.number c.take-in-None.result
          (ap version_by (sym c.read_header.ensures.value ∙ c.in-None.is)) n c.take-in-None.ensures.ending took.holds);
    }
