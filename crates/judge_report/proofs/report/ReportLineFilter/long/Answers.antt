use Rattle.line_io.specs.Lines.{TooLong}
use Rattle.judge_report.proofs.Reading.{puts}
use Rattle.judge_report.proofs.report.ReportLineFilter.long.Goals as goal

pub returns-clause-puts : goal.returns-clause-puts
returns-clause-puts c = puts c.args.number TooLong c.read_long.result c.args.self.now c.read_long.new.self c.args.text.now c.read_long.new.text c.read_long.ensures.reads
