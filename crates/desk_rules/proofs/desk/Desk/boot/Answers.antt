use Rattle.std.proofs.Common.{arith, ap, true}
use Rattle.option_map.specs.FeatureLists.Features.{reply_lines}
use Rattle.desk_rules.specs.Replies.{list_where, early_refusals}
use Rattle.desk_rules.proofs.Rooms.{put_le, two_lines}
use Rattle.desk_rules.proofs.EarlyRooms.{refusals_le, boot_le}
use Rattle.desk_rules.proofs.desk.Desk.boot.Goals as goal

pub put_refusals-requires : goal.put_refusals-requires
put_refusals-requires c =
    let d = c.args.self.now in
    let put = put_le c.args.out.now c.put_due_list.new.out (reply_lines (list_where d.due (record d { booted = true }))) 67000 c.put_due_list.ensures.lines c.put_due_list.ensures.short in
    omega (arith, c.requires.room, c.requires.early.few, c.requires.early.short, put.0, put.1, refusals_le d.options d.early)

pub returns-clause-lines : goal.returns-clause-lines
returns-clause-lines c =
    let d = c.args.self.now in
    two_lines c.args.out.now c.put_due_list.new.out c.put_refusals.new.out (list_where d.due (record d { booted = true })) (early_refusals d.options d.early) c.put_due_list.ensures.lines c.put_refusals.ensures

pub returns-clause-short : goal.returns-clause-short
returns-clause-short c = boot_le c.args.self.now c.requires.early c.put_due_list.ensures.short
