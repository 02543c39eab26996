use Rattle.driver_state_machine.proofs.Puts.{put_four}
use Rattle.driver_state_machine.proofs.up.put_figures.Goals as goal

pub returns-clause-text : goal.returns-clause-text
returns-clause-text c = put_four c.args.out.now c.put_depth.new.out c.put_score.new.out c.put_time.new.out c.put_nodes.new.out _ _ _ _ c.put_depth.ensures.text c.put_score.ensures.text c.put_time.ensures.text c.put_nodes.ensures.text
