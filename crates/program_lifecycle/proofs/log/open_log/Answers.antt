use Rattle.program_lifecycle.proofs.Asked.{log_asked}
use Rattle.program_lifecycle.proofs.log.open_log.Goals as goal

pub returns-in-Err-clause-asked : goal.returns-in-Err-clause-asked
returns-in-Err-clause-asked g c = log_asked _ _ _ _ c.in-Err.ensures.asked.failed c.in-Err.ensures.asked.memory
