use Rattle.std.proofs.Common.{◌≡◌, ℕ, List, [], ◌∷◌, ◌++◌, codes, decimal, ap, ◌∙◌, append_assoc}
use Rattle.line_io.specs.Out.{Text, with}
use Rattle.judge_report.specs.ConductTexts.{conduct_rule_text}
use Rattle.judge_report.proofs.conduct_text.put_fault_line.Goals as goal

-- pieces put one after the other
four_put : (t0 t1 t2 t3 t4 : Text) (a b r r' e : List ℕ) → t1 ≡ with t0 a → t2 ≡ with t1 b → r ≡ r' → t3 ≡ with t2 r → t4 ≡ with t3 e → t4 ≡ with t0 (((a ++ b) ++ r') ++ e)
four_put t0 t1 t2 t3 t4 a b r r' e p1 p2 same p3 p4 =
    p4 ∙ ap (λ (t : Text). with t e) p3 ∙ ap (λ (x : List ℕ). with (with t2 x) e) same
    ∙ ap (λ (t : Text). with (with t r') e) p2 ∙ ap (λ (t : Text). with (with (with t b) r') e) p1
    ∙ ap (λ (xs : List ℕ). let t : Text = record { text = xs; room = t0.room } in t)
    (ap (λ (x : List ℕ). x ++ e) (ap (λ (x : List ℕ). x ++ r') (append_assoc t0.text a b) ∙ append_assoc t0.text (a ++ b) r') ∙ append_assoc t0.text ((a ++ b) ++ r') e)

pub returns : goal.returns
returns c =
    four_put c.args.out.now c.put_number.new.out c.put.new.self c.put-2.new.self c.put-3.new.self (codes "fault at line " ++ decimal c.args.line) (58 ∷ 32 ∷ []) c.conduct_rule_text.result.now (conduct_rule_text c.args.rule) (10 ∷ [])
    c.put_number.ensures.text c.put.ensures c.conduct_rule_text.ensures.text c.put-2.ensures c.put-3.ensures
