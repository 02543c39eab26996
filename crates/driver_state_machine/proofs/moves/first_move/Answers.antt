use Rattle.driver_state_machine.proofs.First.{none_in, some_in}
use Rattle.driver_state_machine.proofs.moves.first_move.Goals as goal

pub returns-in-empty : goal.returns-in-empty
returns-in-empty c = none_in c.args.at.now c.moves.result.items c.as_slice.result.now c.as_slice.ensures.value c.in-empty.len_below c.moves.ensures.each

pub returns-in-len1-up : goal.returns-in-len1-up
returns-in-len1-up c = some_in c.args.at.now c.moves.result.items c.as_slice.result.now c.first-item.result c.as_slice.ensures.value c.in-len1-up.len_at_least c.first-item.is c.moves.ensures.each c.moves.ensures.ordered
