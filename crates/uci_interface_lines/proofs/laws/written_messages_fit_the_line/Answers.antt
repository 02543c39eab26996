use Rattle.uci_interface_lines.proofs.SaidLengths.{texts_fit}
use Rattle.uci_interface_lines.proofs.laws.written_messages_fit_the_line.Goals as goal

pub returns : goal.returns
returns c = texts_fit
