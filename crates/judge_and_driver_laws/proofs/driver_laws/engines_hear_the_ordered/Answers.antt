use Rattle.judge_and_driver_laws.proofs.Driver.Heard.{hears_the_ordered}
use Rattle.judge_and_driver_laws.proofs.driver_laws.engines_hear_the_ordered.Goals as goal

pub returns : goal.returns
returns c = hears_the_ordered
