use Rattle.driver_state_machine.proofs.Puts.{put_lines}
use Rattle.driver_state_machine.proofs.clocks.put_times.Goals as goal

pub returns-clause-text : goal.returns-clause-text
returns-clause-text c = put_lines c.args.out.now c.write_level.new.out c.write_time.new.out c.write_otim.new.out _ _ _ c.write_level.ensures.text c.write_time.ensures.text c.write_otim.ensures.text
