use Rattle.std.proofs.Common.{◌++◌, ◌∙◌, List, ℕ, codes, ap}
use Rattle.line_io.specs.Out.{with}
use Rattle.uci_interface_lines.proofs.canonical.put_text.Goals as goal

pub returns : goal.returns
returns c = c.put_two.ensures ∙ ap (λ (t : List ℕ). with c.args.out.now (codes " type string default " ++ t)) c.empty_or.ensures
