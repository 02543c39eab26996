use Rattle.trace_laws.proofs.OneLine.{write_lines}
use Rattle.trace_laws.proofs.lines.written_texts_are_lines.Goals as goal

pub returns : goal.returns
returns c = write_lines c.args.settings
