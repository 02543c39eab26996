use Rattle.judge_report.proofs.Reading.{stands_fresh}
use Rattle.judge_report.proofs.report.Report.new.Goals as goal

pub returns-clause-stands : goal.returns-clause-stands
returns-clause-stands c = stands_fresh c.args.listener c.new.result c.new.ensures
