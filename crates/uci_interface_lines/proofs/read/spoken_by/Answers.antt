use Rattle.std.proofs.Common.{drop, sym, ◌∙◌}
use Rattle.protocol_tokens.specs.Tokens.{tokens}
use Rattle.uci_interface_lines.specs.Lines.{position_line_by}
use Rattle.uci_interface_lines.proofs.Saying.{line_speaks, speaks_line}
use Rattle.uci_interface_lines.proofs.read.spoken_by.Goals as goal

pub returns-clause-exact : goal.returns-clause-exact
unfolding position_line_by
returns-clause-exact c said =
    let ts = drop 1 (tokens c.args.line.now) in
    (λ h. line_speaks c.args.variant ts said (sym c.line_said.ensures ∙ h), λ s. c.line_said.ensures ∙ speaks_line c.args.variant ts said s)
