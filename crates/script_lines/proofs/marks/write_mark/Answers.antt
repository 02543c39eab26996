use Rattle.script_lines.specs.Marks.{plain_mark}
use Rattle.script_lines.proofs.Spelled.{spelled_read}
use Rattle.script_lines.proofs.marks.write_mark.Goals as goal

pub returns-clause-again : goal.returns-clause-again
returns-clause-again c = spelled_read (plain_mark c.args.mark.now)
