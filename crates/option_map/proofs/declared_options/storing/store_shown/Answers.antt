use Rattle.std.proofs.Common.{◌≡◌, ◌||◌, ap, sym, ◌∙◌, false, List, ℕ, length}
use Rattle.uci_lines.specs.declared.messages.OptionKind.{OptionKind}
use Rattle.uci_lines.specs.Choices.{values}
use Rattle.uci_lines.specs.Messages.{option_kind_of}
use Rattle.line_io.specs.Out.{Text}
use Rattle.option_map.specs.DeclaredOptions.Names.{holds}
use Rattle.option_map.specs.DeclaredOptions.Choices.{with_quotes, with_star, choices_in, are_bad_values}
use Rattle.option_map.specs.DeclaredOptions.Settings.{Combo, shown_kind, is_bad_shape}
use Rattle.option_map.proofs.DeclaredOptions.Pieces.{combo_back}
use Rattle.option_map.proofs.WaitingOrders.Kept.{text_back}
use Rattle.option_map.proofs.declared_options.storing.store_shown.Goals as goal

pub returns-in-Combo-clause-kind : goal.returns-in-Combo-clause-kind
returns-in-Combo-clause-kind c =
    let d = c.in-Combo.default.now in
    let vs = values c.in-Combo.values.now in
    let good : (holds 34 d || are_bad_values vs) ≡ false = sym (ap (λ (k : OptionKind). is_bad_shape (option_kind_of k)) c.in-Combo.is) ∙ c.requires.good in
    let back = text_back c.args.out.now.text (with_quotes (with_star d vs)) c.put_choices.new.out.text c.span_from.result (ap (λ (t : Text). t.text) c.put_choices.ensures)
    (c.span_from.ensures.at ∙ ap (λ (t : List ℕ). length t) c.bytes-at.ensures.text) c.span_from.ensures.end in
    ap (λ (t : List ℕ). Combo (choices_in t)) back ∙ ap (λ (cs : List (List ℕ)). Combo cs) (combo_back d vs good) ∙ sym (ap (λ (k : OptionKind). shown_kind (option_kind_of k)) c.in-Combo.is)
