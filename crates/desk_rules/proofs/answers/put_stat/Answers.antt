use Rattle.std.proofs.Common.{arith, [], ◌∷◌, length-append}
use Rattle.cecp_lines.specs.Replies.{reply_text}
use Rattle.think_text.specs.Kept.{stat01_of}
use Rattle.think_text.specs.Short.{IsBounded}
use Rattle.think_text.proofs.Short.{stat_short}
use Rattle.desk_rules.proofs.Rooms.{put_le, line_put, one_line, one_le}
use Rattle.desk_rules.proofs.answers.put_stat.Goals as goal

pub stat01-requires-clause-room : goal.stat01-requires-clause-room
stat01-requires-clause-room c =
    let search_info : IsBounded c.args.search_info.now = record { depth = omega arith; time = omega arith; nodes = omega arith; number = omega arith } in
    omega (arith, c.requires.room, stat_short c.args.search_info.now c.args.at.now search_info)

pub put-requires : goal.put-requires
put-requires c =
    let search_info : IsBounded c.args.search_info.now = record { depth = omega arith; time = omega arith; nodes = omega arith; number = omega arith } in
    let put = put_le c.args.out.now c.stat01.new.out (reply_text (stat01_of c.args.search_info.now c.args.at.now)) 128 c.stat01.ensures (stat_short c.args.search_info.now c.args.at.now search_info) in
    omega (arith, c.requires.room, put.0, put.1)

pub returns-clause-line : goal.returns-clause-line
returns-clause-line c =
    let reported = stat01_of c.args.search_info.now c.args.at.now in
    one_line c.args.out.now c.put.new.self reported (line_put c.args.out.now c.stat01.new.out c.put.new.self reported c.stat01.ensures c.put.ensures)

pub returns-clause-short : goal.returns-clause-short
returns-clause-short c =
    let search_info : IsBounded c.args.search_info.now = record { depth = omega arith; time = omega arith; nodes = omega arith; number = omega arith } in
    let reported = stat01_of c.args.search_info.now c.args.at.now in
    one_le 129 reported (omega (arith, stat_short c.args.search_info.now c.args.at.now search_info, length-append (reply_text reported) (10 ∷ [])))
