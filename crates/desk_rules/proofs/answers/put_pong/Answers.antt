use Rattle.std.proofs.Common.{arith}
use Rattle.desk_rules.proofs.Rooms.{pong_le}
use Rattle.desk_rules.proofs.answers.put_pong.Goals as goal

pub put_reply-requires-clause-room : goal.put_reply-requires-clause-room
put_reply-requires-clause-room c = omega (arith, c.requires, pong_le c.args.number (omega arith))

pub returns-clause-short : goal.returns-clause-short
returns-clause-short c = pong_le c.args.number (omega arith)
