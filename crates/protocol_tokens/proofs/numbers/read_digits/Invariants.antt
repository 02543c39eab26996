use Rattle.protocol_tokens.proofs.Digits.{HasRead}
use Rattle.protocol_tokens.proofs.numbers.read_digits.Given as goal

abbrev pub invariant-loop-b : goal.invariant-loop-b
invariant-loop-b l = HasRead l.text l.b-index l.n
