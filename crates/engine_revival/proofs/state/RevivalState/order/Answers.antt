use Rattle.std.proofs.Common.{◌≤◌, length, List, ℕ, ap, sym, subst, ◌∙◌}
use Rattle.line_io.specs.Event.{has_feed}
use Rattle.engine_revival.specs.declared.state.TheConstants.{MOST_LINE}
use Rattle.engine_revival.proofs.Asked.{trimmed_feedless, trimmed_short}
use Rattle.engine_revival.proofs.state.RevivalState.order.Goals as goal

pub take_line-requires-clause-one_line : goal.take_line-requires-clause-one_line
take_line-requires-clause-one_line c = ap has_feed c.trim.ensures ∙ trimmed_feedless c.args.line.now c.requires.one_line

pub take_line-requires-clause-short : goal.take_line-requires-clause-short
take_line-requires-clause-short c = subst (λ (t : List ℕ). length t ≤ MOST_LINE) (sym c.trim.ensures) (trimmed_short c.args.line.now MOST_LINE c.requires.short)
