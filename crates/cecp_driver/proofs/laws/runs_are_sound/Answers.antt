use Rattle.cecp_driver.proofs.Sound.{runs_are_sound}
use Rattle.cecp_driver.proofs.laws.runs_are_sound.Goals as goal

pub returns : goal.returns
returns c = runs_are_sound
