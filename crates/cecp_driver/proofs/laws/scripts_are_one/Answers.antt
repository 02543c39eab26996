use Rattle.cecp_driver.proofs.OneRun.{one_script}
use Rattle.cecp_driver.proofs.laws.scripts_are_one.Goals as goal

pub returns : goal.returns
returns c = one_script
