use Rattle.std.proofs.Common.{◌∙◌, sym}
use Rattle.driver_state_machine.specs.Parts.{cut_seen}
use Rattle.driver_state_machine.proofs.Cuts.{prefix_none, prefix_parts, prefix_shorter, prefix_fits, cut_named}
use Rattle.driver_state_machine.proofs.feature.next_cut.Goals as goal

pub returns-then-is_empty-clause-parts : goal.returns-then-is_empty-clause-parts
returns-then-is_empty-clause-parts c = prefix_none c.args.text.now c.trim_start-prefix.result.now c.trim_start-prefix.ensures (sym c.is_empty.ensures ∙ c.if-is_empty.true)

pub returns-else-is_empty-clause-parts : goal.returns-else-is_empty-clause-parts
returns-else-is_empty-clause-parts c = prefix_parts c.args.text.now c.trim_start-prefix.result.now (cut_seen c.cut_prefix.result) c.trim_start-prefix.ensures (sym c.is_empty.ensures ∙ c.if-is_empty.false) c.cut_prefix.ensures

pub returns-else-is_empty-clause-shorter : goal.returns-else-is_empty-clause-shorter
returns-else-is_empty-clause-shorter c = prefix_shorter c.args.text.now c.trim_start-prefix.result.now (cut_seen c.cut_prefix.result) c.trim_start-prefix.ensures (sym c.is_empty.ensures ∙ c.if-is_empty.false) c.cut_prefix.ensures

pub returns-else-is_empty-clause-fits : goal.returns-else-is_empty-clause-fits
returns-else-is_empty-clause-fits c = prefix_fits c.args.text.now c.trim_start-prefix.result.now (cut_seen c.cut_prefix.result) c.trim_start-prefix.ensures (sym c.is_empty.ensures ∙ c.if-is_empty.false) c.cut_prefix.ensures

pub returns-else-is_empty-clause-named : goal.returns-else-is_empty-clause-named
returns-else-is_empty-clause-named c = cut_named c.trim_start-prefix.result.now (cut_seen c.cut_prefix.result) c.cut_prefix.ensures
