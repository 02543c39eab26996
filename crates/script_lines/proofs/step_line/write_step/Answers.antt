use Rattle.std.proofs.Common.{[], ◌∷◌, ◌≤◌, ◌∙◌, ap, length, decimal, arith, length-append, lit<}
use Rattle.std.proofs.lemmas.Fmt.{length-decimal-le}
use Rattle.line_io.specs.Out.{Text}
use Rattle.script_lines.proofs.Numerals.{step_length, step_again}
use Rattle.script_lines.proofs.step_line.write_step.Goals as goal

pub put-requires-2 : goal.put-requires-2
put-requires-2 c =
    let short : length (decimal c.args.number) ≤ 18 = length-decimal-le 18 c.args.number (lit< tt) c.requires.below (omega arith) in
    let digits = ap length (c.as_bytes.ensures.value ∙ c.format.ensures.text) in
    let text = ap (λ (t : Text). length t.text) c.put.ensures in
    let room = ap (λ (t : Text). t.room) c.put.ensures in
    omega (arith, length-append c.args.out.now.text (35 ∷ 32 ∷ []))

pub returns-clause-short : goal.returns-clause-short
returns-clause-short c = step_length c.args.number c.requires.below

pub returns-clause-again : goal.returns-clause-again
returns-clause-again c = step_again c.args.number c.requires.below
