use Rattle.uci_lines.proofs.Positions.{written_fits}
use Rattle.uci_lines.proofs.order_read.positions_may_stand.Goals as goal

pub returns : goal.returns
returns c = written_fits
