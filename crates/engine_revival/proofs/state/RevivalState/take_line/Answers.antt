use Rattle.engine_revival.proofs.Read.{read_spells}
use Rattle.engine_revival.proofs.state.RevivalState.take_line.Goals as goal

pub take-requires-clause-spells : goal.take-requires-clause-spells
take-requires-clause-spells c = (read_spells c.args.line.now c.read_order.result c.in-Some.order c.requires.one_line c.read_order.ensures c.in-Some.is).1
