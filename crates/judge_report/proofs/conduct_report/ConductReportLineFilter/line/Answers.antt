use Rattle.line_io.specs.Lines.{Whole}
use Rattle.judge_report.proofs.Blames.{puts}
use Rattle.judge_report.proofs.conduct_report.ConductReportLineFilter.line.Goals as goal

pub returns-clause-puts : goal.returns-clause-puts
returns-clause-puts c = puts c.args.number (Whole c.args.line.now) c.take.result c.args.self.now c.take.new.self c.args.text.now c.take.new.text c.take.ensures.ending c.take.ensures.tally c.take.ensures.put
