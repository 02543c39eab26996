use Rattle.std.proofs.Common.{arith}
use Rattle.cecp_lines.specs.Replies.{reply_of}
use Rattle.desk_rules.proofs.Rooms.{brief_le, one_le}
use Rattle.desk_rules.proofs.answers.put_short.Goals as goal

pub put_reply-requires-clause-room : goal.put_reply-requires-clause-room
put_reply-requires-clause-room c = omega (arith, c.requires.room, brief_le (reply_of c.args.reply.now) c.requires.numbers c.requires.plain)

pub returns-clause-short : goal.returns-clause-short
returns-clause-short c = one_le 129 (reply_of c.args.reply.now) (brief_le (reply_of c.args.reply.now) c.requires.numbers c.requires.plain)
