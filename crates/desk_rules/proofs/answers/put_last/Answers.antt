use Rattle.desk_rules.proofs.LastLines.{last_feed, last_le}
use Rattle.desk_rules.proofs.answers.put_last.Goals as goal

pub put-requires : goal.put-requires
put-requires c = last_feed c.args.out.now c.write.new.out c.args.last.now c.args.hint c.write.ensures.text c.write.ensures.short c.requires.room

pub returns-then-write-clause-short : goal.returns-then-write-clause-short
returns-then-write-clause-short c = last_le c.args.last.now c.args.hint c.write.ensures.short
