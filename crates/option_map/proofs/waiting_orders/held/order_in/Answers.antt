use Rattle.uci_lines.proofs.OrdersRead.{order_read}
use Rattle.option_map.proofs.waiting_orders.held.order_in.Goals as goal

pub returns : goal.returns
returns c = order_read c.args.line.now c.read_order.result c.ok.result c.read_order.ensures.found c.read_order.ensures.only c.ok.ensures.value
