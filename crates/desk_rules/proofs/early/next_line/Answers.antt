use Rattle.std.proofs.Common.{arith}
use Rattle.desk_rules.proofs.EarlyLines.{some_lines}
use Rattle.desk_rules.proofs.early.next_line.Goals as goal

pub returns-else-is_empty : goal.returns-else-is_empty
returns-else-is_empty c = record {
  first = some_lines c.args.text.now c.split_at_feed.result.0.now c.split_at_feed.result.1.now (grind arith) c.split_at_feed.ensures.line c.split_at_feed.ensures.others;
}
