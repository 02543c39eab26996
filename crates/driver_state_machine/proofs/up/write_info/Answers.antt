use Rattle.driver_state_machine.proofs.Puts.{info_line}
use Rattle.driver_state_machine.proofs.up.write_info.Goals as goal

pub returns-clause-text : goal.returns-clause-text
returns-clause-text c = info_line c.args.out.now c.put_figures.new.out c.put_line.new.out c.args.thought.now c.as_slice.result.now c.write_move.result.items c.put_figures.ensures.text c.as_slice.ensures.value c.write_move.ensures c.put_line.ensures.text
