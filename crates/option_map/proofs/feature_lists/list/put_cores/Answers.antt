use Rattle.std.proofs.Common.{ap, sym, ◌∙◌, codes}
use Rattle.line_io.specs.Out.{with}
use Rattle.cecp_lines.specs.Replies.{Feature}
use Rattle.option_map.specs.FeatureLists.Features.{reply_line, bit}
use Rattle.option_map.proofs.feature_lists.list.put_cores.Goals as goal

pub returns-then-can : goal.returns-then-can
returns-then-can c = c.put.ensures ∙ ap (λ b. with c.args.out.now (reply_line (Feature (codes "smp") (bit b)))) (sym c.if-can.true)

pub returns-else-can : goal.returns-else-can
returns-else-can c = c.put-else-can.ensures ∙ ap (λ b. with c.args.out.now (reply_line (Feature (codes "smp") (bit b)))) (sym c.if-can.false)
