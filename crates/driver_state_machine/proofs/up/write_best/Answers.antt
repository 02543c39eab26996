use Rattle.driver_state_machine.proofs.Puts.{best_line}
use Rattle.driver_state_machine.proofs.up.write_best.Goals as goal

pub returns-in-Some-clause-text : goal.returns-in-Some-clause-text
returns-in-Some-clause-text c = best_line c.args.out.now c.put_line.new.out c.args.best c.in-Some.m c.as_slice.result.now c.write_move.result.items c.in-Some.is c.as_slice.ensures.value c.write_move.ensures c.put_line.ensures.text
