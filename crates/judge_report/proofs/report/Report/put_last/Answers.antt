use Rattle.judge_report.proofs.Reading.{ends}
use Rattle.judge_report.proofs.report.Report.put_last.Goals as goal

pub returns : goal.returns
returns c = ends c.args.ending c.args.self.now c.args.text.now c.close.new.text c.close.ensures
