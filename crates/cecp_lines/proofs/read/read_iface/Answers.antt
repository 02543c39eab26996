use Rattle.cecp_lines.proofs.Answered.{spelled, unknown, bad}
use Rattle.cecp_lines.proofs.read.read_iface.Goals as goal

pub returns : goal.returns
returns c = record {
  value = c.read_message.ensures;
  spelled = spelled c.args.line.now c.read_message.result c.read_message.ensures;
  unknown = unknown c.args.line.now c.read_message.result c.read_message.ensures;
  bad = bad c.args.line.now c.read_message.result c.read_message.ensures;
}
