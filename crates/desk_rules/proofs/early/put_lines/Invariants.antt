use Rattle.std.proofs.Common.{◌≡◌, length}
use Rattle.line_io.specs.Lines.{parts_by_feed}
use Rattle.line_io.specs.Out.{with}
use Rattle.option_map.specs.FeatureLists.Features.{reply_lines}
use Rattle.desk_rules.specs.Replies.{early_refusals}
use Rattle.desk_rules.proofs.early.put_lines.Given as goal

abbrev pub invariant-loop-line : goal.invariant-loop-line
invariant-loop-line l =
    with l.out (reply_lines (early_refusals l.options (parts_by_feed l.others))) ≡ with l.fn.out (reply_lines (early_refusals l.options (parts_by_feed l.text)))

abbrev pub decreases-loop-line : goal.decreases-loop-line
decreases-loop-line l = length (parts_by_feed l.others)
