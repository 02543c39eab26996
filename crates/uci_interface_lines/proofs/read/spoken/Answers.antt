use Rattle.uci_interface_lines.specs.Lines.{position_line_by, position_line_in}
use Rattle.uci_interface_lines.proofs.read.spoken.Goals as goal

pub returns-clause-value : goal.returns-clause-value
unfolding position_line_by position_line_in
returns-clause-value c = c.spoken_by.ensures.value

pub returns-clause-exact : goal.returns-clause-exact
returns-clause-exact c = c.spoken_by.ensures.exact
