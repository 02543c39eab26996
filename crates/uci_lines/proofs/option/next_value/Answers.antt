use Rattle.std.proofs.Common.{◌≡◌, ◌<◌, ◌∙◌, List, ℕ, true, false, codes, length, sym, ap, arith}
use Rattle.std.specs.Str.{bytes_eq}
use Rattle.uci_lines.specs.Cuts.{is_word, found_of}
use Rattle.uci_lines.proofs.Pieces.{values_none, value_here, value_later, after_shorter}
use Rattle.uci_lines.proofs.option.next_value.Goals as goal

pub returns : goal.returns
returns c = record { first = sym c.loop-found.invariant.same ∙ values_none c.loop-found.others.now (sym c.in_default.ensures); shorter = tt }

pub returns-then-eq : goal.returns-then-eq
returns-then-eq c =
    let word = c.in-Some.found.word.now in
    let others = c.loop-found.others.now in
    let after = c.split_choice.result.1.now in
    let is_var : is_word (codes "var") word ≡ true = sym (ap (λ (w : List ℕ). bytes_eq word w) c.as_slice.ensures) ∙ sym c.eq.ensures ∙ c.if-eq.true in
    let less : length after < length others = after_shorter others (found_of c.in-Some.found) after c.in-Some.ensures c.split_choice.ensures.shorter in
    record {
      first = sym c.loop-found.invariant.same ∙ value_here others (found_of c.in-Some.found) c.split_choice.result.0.now after c.in-Some.ensures c.split_choice.ensures.value c.split_choice.ensures.others is_var;
      shorter = omega arith;
    }

pub loop-found-smaller : goal.loop-found-smaller
loop-found-smaller c = after_shorter c.loop-found.others.now (found_of c.in-Some.found) c.split_choice.result.1.now c.in-Some.ensures c.split_choice.ensures.shorter

pub loop-found-preserved : goal.loop-found-preserved
loop-found-preserved c =
    let word = c.in-Some.found.word.now in
    let others = c.loop-found.others.now in
    let after = c.split_choice.result.1.now in
    let no_var : is_word (codes "var") word ≡ false = sym (ap (λ (w : List ℕ). bytes_eq word w) c.as_slice.ensures) ∙ sym c.eq.ensures ∙ c.if-eq.false in
    let less : length after < length others = after_shorter others (found_of c.in-Some.found) after c.in-Some.ensures c.split_choice.ensures.shorter in
    record {
      same = value_later others (found_of c.in-Some.found) after c.in-Some.ensures c.split_choice.ensures.others no_var ∙ c.loop-found.invariant.same;
      within = omega arith;
    }
