use Rattle.std.proofs.Common.{sym, ◌∙◌}
use Rattle.protocol_tokens.specs.Tokens.{tokens}
use Rattle.uci_interface_lines.proofs.Played.{led_refused}
use Rattle.uci_interface_lines.proofs.moves.play_all.Goals as goal

pub returns-in_err-at : goal.returns-in_err-at
returns-in_err-at c =
    let refused = sym c.in_err-at.was ∙ c.play_text.ensures in
    c.from_residual.ensures
    ∙ sym (led_refused (tokens c.loop-text.others.now) (tokens c.in-Some.behind.now) c.in-Some.text.now c.loop-text.at c.in-Some.ensures.first refused)
    ∙ c.loop-text.invariant
