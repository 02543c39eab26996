use Rattle.std.proofs.Common.{◌++◌, List, length, ap, sym, ◌∙◌, arith, length-append}
use Rattle.line_io.specs.Out.{with}
use Rattle.cecp_lines.specs.Messages.{message_of}
use Rattle.cecp_lines.specs.Replies.{Reply}
use Rattle.option_map.specs.FeatureLists.Features.{reply_lines}
use Rattle.desk_rules.specs.declared.desk.Desk.{Desk}
use Rattle.desk_rules.specs.Desk.{at}
use Rattle.desk_rules.specs.Lines.{change}
use Rattle.desk_rules.specs.Replies.{row_before, row_after}
use Rattle.desk_rules.proofs.Rooms.{put_le, lines-append, two_lines}
use Rattle.desk_rules.proofs.Rows.{rows}
use Rattle.desk_rules.proofs.desk.Desk.obey.Goals as goal

pub put_after-requires : goal.put_after-requires
put_after-requires c =
    let put = put_le c.args.out.now c.put_before.new.out (reply_lines (row_before (at c.args.context c.args.self.now) (message_of c.args.message.now))) 67000 c.put_before.ensures.lines c.put_before.ensures.short in
    omega (arith, c.requires.room, put.0, put.1)

pub returns-clause-lines : goal.returns-clause-lines
returns-clause-lines c =
    let h = at c.args.context c.args.self.now in
    let m = message_of c.args.message.now in
    two_lines c.args.out.now c.put_before.new.out c.put_after.new.out (row_before h m) (row_after c.change.new.self m) c.put_before.ensures.lines c.put_after.ensures.lines
    ∙ ap (λ (d : Desk). with c.args.out.now (reply_lines (row_before h m ++ row_after d m))) c.change.ensures
    ∙ ap (λ (ts : List Reply). with c.args.out.now (reply_lines ts)) (sym (rows c.is_boot.result h m))

pub returns-clause-short : goal.returns-clause-short
returns-clause-short c =
    let h = at c.args.context c.args.self.now in
    let m = message_of c.args.message.now in
    omega (
      arith,
      c.put_before.ensures.short,
      c.put_after.ensures.short,
      ap (λ (d : Desk). length (reply_lines (row_after d m))) c.change.ensures,
      ap (λ (ts : List Reply). length (reply_lines ts)) (rows c.is_boot.result h m),
      ap length (lines-append (row_before h m) (row_after (change c.is_boot.result h.desk m) m)),
      length-append (reply_lines (row_before h m)) (reply_lines (row_after (change c.is_boot.result h.desk m) m)),
    )
