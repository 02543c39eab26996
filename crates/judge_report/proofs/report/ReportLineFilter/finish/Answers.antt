use Rattle.judge_report.proofs.Reading.{closes}
use Rattle.judge_report.proofs.report.ReportLineFilter.finish.Goals as goal

pub returns-clause-closes : goal.returns-clause-closes
returns-clause-closes c = closes c.args.ending c.args.self.now c.args.text.now c.put_last.new.text c.requires.ending c.put_last.ensures
