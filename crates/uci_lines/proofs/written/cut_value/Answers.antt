use Rattle.std.proofs.Common.{◌≡◌, ◌∙◌, Some, None, codes, drop, sym, ap, arith}
use Rattle.uci_lines.specs.Behind.{after}
use Rattle.uci_lines.proofs.Parts.{value_passed, value_found}
use Rattle.uci_lines.proofs.written.cut_value.Goals as goal

pub returns-in-Some : goal.returns-in-Some
returns-in-Some c =
    let text = c.args.text.now in
    let found : after (codes " value ") (drop c.loop-i.i text) ≡ Some c.in-Some.value.now = ap (after (codes " value ")) (sym c.split_at.ensures.back) ∙ sym c.in-Some.ensures in
    let e = value_found text c.in-Some.value.now c.loop-i.i _ (omega arith) found c.loop-i.invariant in
    ap (λ t. Some (t, c.in-Some.value.now)) c.split_at.ensures.front ∙ sym e

pub loop-i-preserved : goal.loop-i-preserved
loop-i-preserved c =
    let text = c.args.text.now in
    let none : after (codes " value ") (drop c.loop-i.i text) ≡ None = ap (after (codes " value ")) (sym c.split_at.ensures.back) ∙ sym c.in_default.ensures in
    value_passed text c.loop-i.i _ (omega arith) none c.loop-i.invariant
