use Rattle.std.proofs.Common.{Some, refl}
use Rattle.line_io.specs.Lines.{TooLong}
use Rattle.replay_command_base.specs.declared.ending.Ending.TheVariants as endings
use Rattle.judge_report.proofs.Blames.{puts}
use Rattle.judge_report.proofs.conduct_report.ConductReportLineFilter.long.Goals as goal

pub returns-clause-puts : goal.returns-clause-puts
returns-clause-puts c = puts c.args.number TooLong (Some (endings.NoMark c.args.number)) c.args.self.now c.args.self.now c.args.text.now c.put.new.self refl refl c.put.ensures
