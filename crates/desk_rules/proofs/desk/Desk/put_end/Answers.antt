use Rattle.std.proofs.Common.{List, [], ◌∷◌, ◌++◌, ap, ◌∙◌, append_assoc}
use Rattle.line_io.specs.Out.{with}
use Rattle.cecp_lines.specs.Replies.{Reply}
use Rattle.cecp_lines.specs.Replies as cecp
use Rattle.cecp_lines.specs.declared.reply.UserError.TheVariants as user_error
use Rattle.option_map.specs.FeatureLists.Features.{reply_lines}
use Rattle.desk_rules.specs.Replies.{list_where, given_up_where}
use Rattle.desk_rules.proofs.Rooms.{two_lines}
use Rattle.desk_rules.proofs.desk.Desk.put_end.Goals as goal

pub returns-clause-lines : goal.returns-clause-lines
returns-clause-lines c =
    let list = list_where c.args.self.now.due c.args.self.now in
    let ended : List Reply = cecp.TellError user_error.Ended ∷ [] in
    let gone = given_up_where c.args.resigns c.args.settings c.args.self.now.game in
    let prefix = two_lines c.args.out.now c.put_due_list.new.out c.put_short.new.out list ended c.put_due_list.ensures.lines c.put_short.ensures.line in
    two_lines c.args.out.now c.put_short.new.out c.put_given_up_where.new.out (list ++ ended) gone prefix c.put_given_up_where.ensures.line
    ∙ ap (λ (ts : List Reply). with c.args.out.now (reply_lines ts)) (append_assoc list ended gone)
