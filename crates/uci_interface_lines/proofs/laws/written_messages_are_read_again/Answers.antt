use Rattle.uci_interface_lines.proofs.MessagesAgain.{read_back}
use Rattle.uci_interface_lines.proofs.laws.written_messages_are_read_again.Goals as goal

pub returns : goal.returns
returns c = read_back
