use Rattle.protocol_tokens.proofs.Digits.{HasRead}
use Rattle.cecp_engine_lines.proofs.written_numbers.read_plain.Given as goal

abbrev pub invariant-loop-b : goal.invariant-loop-b
invariant-loop-b l = HasRead l.text l.b-index l.n
