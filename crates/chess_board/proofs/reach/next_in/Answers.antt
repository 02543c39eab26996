use Rattle.std.proofs.Common.{arith}
use Rattle.chess_board.proofs.Scan.{none_left, next_low, next_passed}
use Rattle.chess_board.proofs.reach.next_in.Goals as goal

pub returns-then-rest-eq0-clause-passed : goal.returns-then-rest-eq0-clause-passed
returns-then-rest-eq0-clause-passed c s low less = none_left c.args.set c.args.from c.if-rest-eq0.true s low

pub returns-clause-on : goal.returns-clause-on
returns-clause-on c = (omega arith, next_low c.args.set c.args.from (omega arith) c.if-rest-eq0.false)

pub returns-clause-passed : goal.returns-clause-passed
returns-clause-passed c s low less = next_passed c.args.set c.args.from (omega arith) c.if-rest-eq0.false s low less
