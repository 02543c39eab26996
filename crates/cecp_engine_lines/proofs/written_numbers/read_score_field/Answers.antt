use Rattle.std.proofs.Common.{arith}
use Rattle.std.proofs.lemmas.Grind.{common_steps}
use Rattle.cecp_engine_lines.proofs.written_numbers.read_score_field.Goals as goal

pub returns : goal.returns
returns c = grind (arith, common_steps)
