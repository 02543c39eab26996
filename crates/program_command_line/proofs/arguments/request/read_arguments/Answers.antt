use Rattle.std.proofs.Common.{arith}
use Rattle.std.proofs.lemmas.Grind.{common_steps}
use Rattle.program_command_line.proofs.arguments.request.read_arguments.Goals as goal

pub returns-in_default-clause-usage : goal.returns-in_default-clause-usage
returns-in_default-clause-usage c = grind (arith, common_steps)

pub returns-in_err-engine-clause-usage : goal.returns-in_err-engine-clause-usage
returns-in_err-engine-clause-usage c = grind (arith, common_steps)

pub returns-clause-taken : goal.returns-clause-taken
returns-clause-taken c = grind (arith, common_steps)

pub returns-clause-asked : goal.returns-clause-asked
returns-clause-asked c = grind (arith, common_steps)

pub returns-clause-engine : goal.returns-clause-engine
returns-clause-engine c = grind (arith, common_steps)
