use Rattle.std.proofs.Common.{◌++◌, ◌∷◌, [], ◌∙◌, Some, sym}
use Rattle.line_io.specs.Lines.{TooLong}
use Rattle.line_io.proofs.Puts.{put_none}
use Rattle.replay_command_base.specs.declared.ending.Ending.TheVariants as endings
use Rattle.session_export.proofs.Came.{long_first, long_later, then_by}
use Rattle.session_export.proofs.writer.SessionWriterLineFilter.long.Goals as goal

pub returns-then-is_new-clause-puts : goal.returns-then-is_new-clause-puts
returns-then-is_new-clause-puts g c =
    let means = g.T.StepExporter.means in
    let begun = c.open_plain.ensures.opened in
    record {
      more = begun.more;
      put = begun.put;
      goes = λ s0 lines text p n.
          then_by means s0 (lines ++ TooLong ∷ []) (Some (endings.NoMark c.args.number)) c.open_plain.new.self (text ++ begun.more)
          (λ o u. long_first means o lines c.args.self.now c.open_plain.new.self text begun.more (sym c.is_new.ensures ∙ c.if-is_new.true) (p o u) begun.holds c.args.number n);
    }

pub returns-clause-puts : goal.returns-clause-puts
returns-clause-puts g c = record {
  more = [];
  put = put_none c.args.text.now;
  goes = λ s0 lines text p n.
      then_by g.T.StepExporter.means s0 (lines ++ TooLong ∷ []) (Some (endings.NoMark c.args.number)) c.args.self.now (text ++ [])
      (λ o u. long_later g.T.StepExporter.means o lines c.args.self.now text c.args.number (sym c.is_new.ensures ∙ c.if-is_new.false) (p o u) n);
}
