use Rattle.std.proofs.Common.{◌≡◌, ◌&&◌, ◌∙◌, Bool, true, false, List, ℕ, Some, take, drop, sym, ap, refl, arith, ◌+◌}
use Rattle.std.proofs.lemmas.List.{take_rest}
use Rattle.std.specs.List.{before_first}
use Rattle.protocol_tokens.specs.Tokens.{is_white, token_end}
use Rattle.uci_lines.specs.Cuts.{found_token, delimits}
use Rattle.uci_lines.proofs.Cutting.{shifted, passed, found}
use Rattle.uci_lines.proofs.cut.find_word.Goals as goal
use Rattle.uci_lines.proofs.cut.find_word.Goals.{then-is_fresh+else-has, else-is_fresh}

pub loop-i-preserved : goal.loop-i-preserved
loop-i-preserved c =
    let text = c.args.text.now in
    let i = c.loop-i.i in
    let p = delimits c.args.stop in
    let next = ap (λ (f : Bool). shifted (take (i + 1) text) (found_token p f (drop (i + 1) text))) (sym c.is_white-is_fresh.ensures) in
    elim c.if-is_fresh.branch [
      | then-is_fresh+else-has w ↦
          let no : (c.loop-i.is_fresh && p (before_first is_white (drop i text))) ≡ false =
          rw w.if-is_fresh.true (ap p (sym (w.split_at_white.ensures.token ∙ ap (before_first is_white) (take_rest text i))) ∙ sym w.has.ensures ∙ w.if-has.false) in
          passed p text i c.loop-i.is_fresh _ (omega arith) no c.loop-i.invariant ∙ next
      | else-is_fresh w ↦
          let no : (c.loop-i.is_fresh && p (before_first is_white (drop i text))) ≡ false = rw w.if-is_fresh.false refl in
          passed p text i c.loop-i.is_fresh _ (omega arith) no c.loop-i.invariant ∙ next
    ]

pub returns-then-has : goal.returns-then-has
returns-then-has c =
    let text = c.args.text.now in
    let i = c.loop-i.i in
    let p = delimits c.args.stop in
    let part = take_rest text i in
    let word : c.split_at_white.result.0.now ≡ before_first is_white (drop i text) = c.split_at_white.ensures.token ∙ ap (before_first is_white) part in
    let after : c.split_at_white.result.1.now ≡ drop (token_end (drop i text)) (drop i text) = c.split_at_white.ensures.rest ∙ ap (λ (t : List ℕ). drop (token_end t) t) part in
    let passes : p (before_first is_white (drop i text)) ≡ true = ap p (sym word) ∙ sym c.has.ensures ∙ c.if-has.true in
    let fresh = ap (λ (f : Bool). shifted (take i text) (found_token p f (drop i text))) c.if-is_fresh.true in
    let e = found p text i _ (omega arith) passes (c.loop-i.invariant ∙ fresh) in
    sym (e ∙ ap (λ (t : List ℕ). Some (record { before = take i text; word = t; after = drop (token_end (drop i text)) (drop i text) })) (sym word)
    ∙ ap (λ (t : List ℕ). Some (record { before = take i text; word = c.split_at_white.result.0.now; after = t })) (sym after))
