use Rattle.std.proofs.Common.{arith}
use Rattle.std.proofs.lemmas.Grind.{common_steps}
use Rattle.cecp_engine_lines.proofs.written_numbers.read_score.Goals as goal

pub returns-in_err-n-in-45 : goal.returns-in_err-n-in-45
returns-in_err-n-in-45 c = grind (arith, common_steps)

pub returns-then-n : goal.returns-then-n
returns-then-n c = grind (arith, common_steps)

pub returns-then-n-gt9223372036854775808 : goal.returns-then-n-gt9223372036854775808
returns-then-n-gt9223372036854775808 c = grind (arith, common_steps)

pub returns-else-n-gt9223372036854775808 : goal.returns-else-n-gt9223372036854775808
returns-else-n-gt9223372036854775808 c = grind (arith, common_steps)
