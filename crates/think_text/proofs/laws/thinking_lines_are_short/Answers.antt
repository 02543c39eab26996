use Rattle.think_text.proofs.Replies.{lines_replies}
use Rattle.think_text.proofs.Short.{lines_short, stays_bounded, stat_short}
use Rattle.think_text.proofs.laws.thinking_lines_are_short.Goals as goal

pub returns : goal.returns
returns c = record { short = lines_short; replies = lines_replies; bounded = stays_bounded; stat01 = stat_short }
