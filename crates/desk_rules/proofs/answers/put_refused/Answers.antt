use Rattle.std.proofs.Common.{arith, ap, length}
use Rattle.protocol_tokens.proofs.Lengths.{trimmed_length}
use Rattle.desk_rules.proofs.answers.put_refused.Goals as goal

pub put_error-requires-clause-line : goal.put_error-requires-clause-line
put_error-requires-clause-line c = omega (arith, c.requires.line, trimmed_length c.args.line.now, ap length c.trim.ensures)
