use Rattle.std.proofs.Common.{Some, refl}
use Rattle.line_io.specs.Lines.{TooLong}
use Rattle.replay_command_base.specs.declared.ending.Ending.TheVariants as endings
use Rattle.judge_report.proofs.Reading.{reads}
use Rattle.judge_report.proofs.report.Report.read_long.Goals as goal

pub returns-clause-reads : goal.returns-clause-reads
returns-clause-reads c = reads c.args.number TooLong (Some (endings.NoMark c.args.number)) c.args.self.now c.args.self.now c.args.text.now c.put.new.self refl refl c.put.ensures tt
