use Rattle.uci_lines.proofs.Rows.{one_message}
use Rattle.uci_lines.proofs.laws.lines_say_one_message.Goals as goal

pub returns : goal.returns
returns c = one_message
