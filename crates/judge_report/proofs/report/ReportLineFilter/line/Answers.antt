use Rattle.line_io.specs.Lines.{Whole}
use Rattle.judge_report.proofs.Reading.{puts}
use Rattle.judge_report.proofs.report.ReportLineFilter.line.Goals as goal

pub returns-clause-puts : goal.returns-clause-puts
returns-clause-puts c = puts c.args.number (Whole c.args.line.now) c.read_line.result c.args.self.now c.read_line.new.self c.args.text.now c.read_line.new.text c.read_line.ensures.reads
