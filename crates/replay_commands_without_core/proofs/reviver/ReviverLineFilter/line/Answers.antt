use Rattle.std.proofs.Common.{refl}
use Rattle.line_io.specs.Lines.{Whole}
use Rattle.script_lines.specs.Marks.{mark_spelled}
use Rattle.replay_commands_without_core.proofs.Playing.{of_line, puts_by}
use Rattle.replay_commands_without_core.proofs.reviver.ReviverLineFilter.line.Goals as goal

pub returns-clause-puts : goal.returns-clause-puts
returns-clause-puts c = puts_by c.args.number (Whole c.args.line.now) (mark_spelled c.args.line.now) c.take.result c.args.self.now c.take.new.self c.args.text.now c.take.new.text refl c.take.ensures

pub returns-clause-of_line : goal.returns-clause-of_line
returns-clause-of_line c = of_line c.args.number (mark_spelled c.args.line.now) c.take.result c.args.self.now c.take.new.self c.args.text.now c.take.new.text c.take.ensures
