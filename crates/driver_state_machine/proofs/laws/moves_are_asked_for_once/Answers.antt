use Rattle.driver_state_machine.proofs.Prompts.{prompts_are_due, prompts_once}
use Rattle.driver_state_machine.proofs.PromptCauses.{prompts_have_cause}
use Rattle.driver_state_machine.proofs.laws.moves_are_asked_for_once.Goals as goal

pub returns-clause-due : goal.returns-clause-due
returns-clause-due c = prompts_are_due

pub returns-clause-once : goal.returns-clause-once
returns-clause-once c = prompts_once

pub returns-clause-cause : goal.returns-clause-cause
returns-clause-cause c = prompts_have_cause
