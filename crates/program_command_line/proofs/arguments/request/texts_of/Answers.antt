use Rattle.std.proofs.Common.{arith}
use Rattle.std.proofs.lemmas.Grind.{common_steps}
use Rattle.program_command_line.proofs.arguments.request.texts_of.Goals as goal

pub returns-in_err-text-clause-usage : goal.returns-in_err-text-clause-usage
returns-in_err-text-clause-usage c = grind (arith, common_steps)

pub loop-argument-preserved : goal.loop-argument-preserved
loop-argument-preserved c = grind (arith, common_steps)

pub returns-clause-texts : goal.returns-clause-texts
returns-clause-texts c = grind (arith, common_steps)

pub returns-clause-utf8 : goal.returns-clause-utf8
returns-clause-utf8 c = grind (arith, common_steps)
