use Rattle.std.proofs.Common.{◌∙◌, ◌^◌, ◌≤◌, arith, sym, lit<}
use Rattle.std.proofs.Math.Nat.{pow-le-pow_right}
use Rattle.protocol_tokens.proofs.Digits.{small, read_more}
use Rattle.protocol_tokens.proofs.numbers.read_digits.Goals as goal

pub overflow_mul-n : goal.overflow_mul-n
overflow_mul-n c = omega (arith, small c.loop-b.b-index (omega arith))

pub overflow_add-n : goal.overflow_add-n
overflow_add-n c = omega (arith, small c.loop-b.b-index (omega arith))

pub loop-b-preserved : goal.loop-b-preserved
loop-b-preserved c = read_more c.args.text.now c.loop-b.b-index c.loop-b.n _ (omega arith) c.loop-b.invariant (sym c.is_ascii_digit.ensures.value ∙ c.if-not-is_ascii_digit.false) c.from.ensures

pub returns-clause-below : goal.returns-clause-below
returns-clause-below c =
    let p : 10 ^ c.loop-b.b-index ≤ 10 ^ c.args.most = pow-le-pow_right (lit< tt) (omega arith) in
    omega arith
