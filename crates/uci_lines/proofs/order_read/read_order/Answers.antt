use Rattle.uci_lines.proofs.Spelling.{found, only}
use Rattle.uci_lines.proofs.order_read.read_order.Goals as goal

pub returns : goal.returns
returns c = record {
  found = found c.args.line.now c.order_in.result _ c.ok_or.result c.order_in.ensures c.ok_or.ensures.value;
  only = only c.args.line.now c.order_in.result _ c.ok_or.result c.order_in.ensures c.ok_or.ensures.value;
}
