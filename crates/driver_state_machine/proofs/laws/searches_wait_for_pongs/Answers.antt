use Rattle.driver_state_machine.proofs.Pings.{awaited_is_unanswered, awaited_was_written, pongs_come_first}
use Rattle.driver_state_machine.proofs.laws.searches_wait_for_pongs.Goals as goal

pub returns-clause-written : goal.returns-clause-written
returns-clause-written c = awaited_was_written

pub returns-clause-unanswered : goal.returns-clause-unanswered
returns-clause-unanswered c = awaited_is_unanswered

pub returns-clause-first : goal.returns-clause-first
returns-clause-first c = pongs_come_first
