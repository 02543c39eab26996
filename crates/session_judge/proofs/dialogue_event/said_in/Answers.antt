use Rattle.std.proofs.Common.{◌≡◌, true, codes, sym, ap, ◌∙◌}
use Rattle.std.specs.Str.{bytes_eq}
use Rattle.uci_lines.specs.Cuts.{is_word}
use Rattle.uci_lines.proofs.Counts.{same_text}
use Rattle.session_judge.proofs.Thinking.{thinking_says_nothing}
use Rattle.session_judge.proofs.dialogue_event.said_in.Goals as goal

pub returns-then-eq : goal.returns-then-eq
returns-then-eq c =
    let word : is_word (codes "info") c.split_token.result.0.now ≡ true = sym (c.eq.ensures ∙ ap (bytes_eq c.split_token.result.0.now) c.as_slice.ensures) ∙ c.if-eq.true in
    sym (thinking_says_nothing c.args.line.now (sym c.split_token.ensures.token ∙ same_text c.split_token.result.0.now (codes "info") word))
