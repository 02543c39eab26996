use Rattle.std.proofs.Common.{◌≤◌, ◌<◌, ◌^◌, ℕ, ◌∙◌, arith, sym, lit<}
use Rattle.std.proofs.Math.Nat.{pow-le-pow_right}
use Rattle.protocol_tokens.proofs.Digits.{read_more}
use Rattle.cecp_engine_lines.proofs.written_numbers.read_plain.Goals as goal

small : (i : ℕ) → i < 20 → 10 ^ i ≤ 10000000000000000000
small i h = let k : i ≤ 19 = omega arith in let p : 10 ^ i ≤ 10 ^ 19 = pow-le-pow_right (lit< tt) k in p

pub overflow_mul-n : goal.overflow_mul-n
overflow_mul-n c = omega (arith, small c.loop-b.b-index (omega arith))

pub overflow_add-n : goal.overflow_add-n
overflow_add-n c = omega (arith, small c.loop-b.b-index (omega arith))

pub loop-b-preserved : goal.loop-b-preserved
loop-b-preserved c = read_more c.args.text.now c.loop-b.b-index c.loop-b.n _ (omega arith) c.loop-b.invariant (sym c.is_ascii_digit.ensures.value ∙ c.if-not-is_ascii_digit.false) c.from.ensures
