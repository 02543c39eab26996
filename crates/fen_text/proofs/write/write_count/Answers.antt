-- A count has at most five digits.
use Rattle.std.proofs.Common.{◌≤◌, length, decimal, arith, lit<}
use Rattle.std.proofs.lemmas.Fmt.{length-decimal-le}
use Rattle.std.proofs.lemmas.Grind.{common_steps}
use Rattle.fen_text.proofs.write.write_count.Goals as goal

pub returns-clause-text : goal.returns-clause-text
returns-clause-text c =
    let digits : length (decimal c.args.count) ≤ 5 = length-decimal-le 5 c.args.count (lit< tt) (omega arith) (omega arith) in
    grind (arith, common_steps)

pub returns-clause-short : goal.returns-clause-short
returns-clause-short c =
    let digits : length (decimal c.args.count) ≤ 5 = length-decimal-le 5 c.args.count (lit< tt) (omega arith) (omega arith) in
    grind (arith, common_steps)
