use Rattle.judge_and_driver_laws.proofs.Driver.Spelled.{cecp}
use Rattle.judge_and_driver_laws.proofs.driver_laws.lines_are_cecp.Goals as goal

pub returns : goal.returns
returns c = cecp
