use Rattle.script_lines.proofs.KindLemmas.{one_kind, headers_are_lines, step_lines_are_lines}
use Rattle.script_lines.proofs.laws.lines_are_of_one_kind.Goals as goal

pub returns : goal.returns
returns c = record { kinds = one_kind; headers = headers_are_lines; steps = step_lines_are_lines }
