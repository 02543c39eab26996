use Rattle.uci_lines.proofs.Rows.{answer_is}
use Rattle.std.proofs.Common.{◌∙◌}
use Rattle.uci_lines.proofs.engine.answer_text.Goals as goal

pub returns : goal.returns
returns c = record {
  value = c.find_answer.ensures;
  answer = λ text first. c.find_answer.ensures ∙ answer_is c.args.line.now text first;
}
