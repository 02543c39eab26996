use Rattle.wineravine_runner.proofs.Cases.{does, says, unstarted, whole}
use Rattle.wineravine_runner.proofs.main_call.wineravine_main.Goals as goal

pub returns-clause-does : goal.returns-clause-does
returns-clause-does g c = does _ _ _ _ _ _ c.answer.ensures.did

pub returns-clause-status : goal.returns-clause-status
returns-clause-status g c = says _ _ _ _ _ _ c.answer.ensures.did

pub returns-clause-unstarted : goal.returns-clause-unstarted
returns-clause-unstarted g c = unstarted _ _ _ _ _ _ c.answer.ensures.did

pub returns-clause-whole : goal.returns-clause-whole
returns-clause-whole g c = whole _ _ _ _ _ _ c.answer.ensures.did
