use Rattle.cecp_lines.proofs.Complete.{one_message}
use Rattle.cecp_lines.proofs.Quits.{quit_first}
use Rattle.cecp_lines.proofs.laws.lines_are_unambiguous.Goals as goal

pub returns-clause-one_message : goal.returns-clause-one_message
returns-clause-one_message c = one_message

pub returns-clause-quit : goal.returns-clause-quit
returns-clause-quit c = quit_first
