use Rattle.line_io.specs.Lines.{Whole}
use Rattle.judge_report.proofs.Reading.{reads}
use Rattle.judge_report.proofs.report.Report.read_line.Goals as goal

pub returns-clause-reads : goal.returns-clause-reads
returns-clause-reads c = reads c.args.number (Whole c.args.line.now) c.take.result c.args.self.now c.take.new.self c.args.text.now c.take.new.text c.take.ensures.ending c.take.ensures.talk c.take.ensures.put c.take.ensures.of_line
