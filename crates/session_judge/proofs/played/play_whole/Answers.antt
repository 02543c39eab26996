use Rattle.std.proofs.Common.{sym, ◌∙◌}
use Rattle.protocol_tokens.specs.Tokens.{tokens}
use Rattle.uci_interface_lines.specs.Views.{spoken_line}
use Rattle.session_judge.proofs.Lines.{said_leads, some_tokens}
use Rattle.session_judge.proofs.played.play_whole.Goals as goal

pub keep-requires : goal.keep-requires
keep-requires c =
    said_leads c.args.line.now (spoken_line c.in-Some.said) (sym c.in-Some.ensures.value)
    (some_tokens c.next_token.result (tokens c.in-Some.said.moves.now) c.next_token.ensures.first (sym c.is_some.ensures ∙ c.if-is_some.true))
