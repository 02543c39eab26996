use Rattle.judge_report.proofs.Blames.{closes, is_verdict}
use Rattle.judge_report.proofs.conduct_report.ConductReportLineFilter.finish.Goals as goal

pub returns-clause-verdict : goal.returns-clause-verdict
returns-clause-verdict c = is_verdict c.args.self.now c.args.ending c.verdict.result c.verdict.ensures

pub returns-clause-closes : goal.returns-clause-closes
returns-clause-closes c = closes c.args.ending c.verdict.result c.args.self.now c.args.text.now c.close.new.text c.verdict.ensures c.close.ensures
