use Rattle.think_text.proofs.Hints.{differ}
use Rattle.think_text.proofs.laws.lines_differ_by_hint.Goals as goal

pub returns : goal.returns
returns c = differ
