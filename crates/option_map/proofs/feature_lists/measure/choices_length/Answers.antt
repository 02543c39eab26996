use Rattle.std.proofs.Common.{◌≡◌, ap, sym, ◌∙◌, ◌+◌, ◌-◌, length, ℕ}
use Rattle.std.specs.List.{list_any}
use Rattle.uci_lines.specs.Choices.{values}
use Rattle.option_map.specs.DeclaredOptions.Names.{same_text}
use Rattle.option_map.specs.DeclaredOptions.Choices.{bars_length, choices_text, with_star}
use Rattle.option_map.specs.DeclaredOptions.Settings.{if_within}
use Rattle.option_map.proofs.FeatureLists.Measured.{starred_length, some_bars, sized, fitting_is, longer, bit}
use Rattle.option_map.proofs.feature_lists.measure.choices_length.Goals as goal
use Rattle.option_map.proofs.feature_lists.measure.choices_length.Goals.{then-has_default, else-has_default}

pub returns-in_err-bars : goal.returns-in_err-bars
returns-in_err-bars c =
    let vs = values c.args.text.now in
    let d = c.args.default.now in
    c.from_residual.ensures
    ∙ longer c.args.most (bars_length vs) (length (choices_text (with_star d vs))) (list_any (same_text d) vs) (starred_length d vs c.requires.good) (sym (c.in_err-bars.was) ∙ c.bars_length.ensures)

pub returns : goal.returns
returns c =
    let vs = values c.args.text.now in
    let d = c.args.default.now in
    let bars : c.in_ok-bars.bars ≡ bars_length vs = fitting_is (c.args.most + 5) (bars_length vs) c.in_ok-bars.bars (sym (c.in_ok-bars.was) ∙ c.bars_length.ensures) in
    let star : c.if-has_default.star ≡ bit (list_any (same_text d) vs) =
    elim c.if-has_default.branch [
      | then-has_default w ↦ w.star-is ∙ ap bit (sym w.if-has_default.true ∙ c.has_default.ensures)
      | else-has_default w ↦ w.star-is ∙ ap bit (sym w.if-has_default.false ∙ c.has_default.ensures)
    ] in
    c.within.ensures ∙ ap (λ n. if_within c.args.most n) (ap (λ (b : ℕ). b - 5 + c.if-has_default.star) bars
    ∙ sized (bars_length vs) (length (choices_text (with_star d vs))) c.if-has_default.star (list_any (same_text d) vs) (starred_length d vs c.requires.good) (some_bars vs c.requires.good) star)
