use Rattle.std.proofs.Common.{ap, ◌∙◌}
use Rattle.protocol_tokens.specs.Tokens.{tokens}
use Rattle.uci_interface_lines.proofs.Cuts.{splits_none, splits_some}
use Rattle.uci_interface_lines.proofs.words.split_at_moves.Goals as goal

pub returns-in-Some : goal.returns-in-Some
returns-in-Some c =
    let s = splits_some c.args.text.now c.in-Some.before.now c.in-Some.after.now c.in-Some.ensures in
    record { before = s.before_is; behind = ap tokens c.trim.ensures ∙ s.behind_is }

pub returns-in-None : goal.returns-in-None
returns-in-None c =
    let s = splits_none c.args.text.now c.in-None.ensures in
    record { before = s.before_is; behind = s.behind_is }
