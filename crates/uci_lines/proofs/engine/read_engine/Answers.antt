use Rattle.uci_lines.proofs.Rows.{spelled}
use Rattle.uci_lines.proofs.engine.read_engine.Goals as goal

pub returns : goal.returns
returns c = record {
  value = c.read_message.ensures.value;
  spelled = spelled c.args.line.now _ c.read_message.ensures.value;
  writable = c.read_message.ensures.writable;
}
