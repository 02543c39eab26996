-- The length of a small number's text.
use Rattle.std.proofs.Common.{◌≤◌, length, arith}
use Rattle.std.specs.Fmt.{decimal}
use Rattle.std.proofs.lemmas.Fmt.{length-decimal-le}

pub one_digit : length (decimal 1) ≤ 1
one_digit = length-decimal-le 1 1 (omega arith) (omega arith) (omega arith)
