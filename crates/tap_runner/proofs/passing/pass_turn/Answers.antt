use Rattle.std.proofs.Common.{arith}
use Rattle.std.proofs.lemmas.Grind.{common_steps}
use Rattle.tap_runner.proofs.passing.pass_turn.Goals as goal

pub returns-in-Err-clause-turned : goal.returns-in-Err-clause-turned
returns-in-Err-clause-turned g c = grind (arith, common_steps)

pub returns-then-offer-clause-turned : goal.returns-then-offer-clause-turned
returns-then-offer-clause-turned g c = grind (arith, common_steps)

pub returns-else-offer-clause-turned : goal.returns-else-offer-clause-turned
returns-else-offer-clause-turned g c = grind (arith, common_steps)
