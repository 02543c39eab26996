use Rattle.cecp_engine_lines.proofs.Again.{again}
use Rattle.cecp_engine_lines.proofs.laws.written_messages_are_read_again.Goals as goal

pub returns : goal.returns
returns c = λ m h. again h.0 m h.1
