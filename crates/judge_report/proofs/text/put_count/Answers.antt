use Rattle.std.proofs.Common.{ℕ, List, [], ◌∷◌, ◌++◌, codes, decimal, ap, ◌∙◌, append_assoc}
use Rattle.line_io.specs.Out.{Text, with}
use Rattle.judge_report.proofs.text.put_count.Goals as goal

pub returns-clause-text : goal.returns-clause-text
returns-clause-text c =
    let held : Text = c.args.out.now in
    let announced : List ℕ = codes "crossings: " ++ decimal c.args.crossings in
    c.put.ensures ∙ ap (λ (t : Text). with t (10 ∷ [])) c.put_number.ensures.text
    ∙ ap (λ (xs : List ℕ). let t : Text = record { text = xs; room = held.room } in t) (append_assoc held.text announced (10 ∷ []))
