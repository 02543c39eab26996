use Rattle.std.proofs.Common.{◌≡◌, ap, sym, ◌∙◌, List, ℕ, length, Some, None}
use Rattle.std.specs.Option.{option_map}
use Rattle.std.specs.Map.{lookup}
use Rattle.option_map.specs.DeclaredOptions.Stored.{setting_in}
use Rattle.option_map.proofs.WaitingOrders.Kept.{looked, looked_within, no_long, is_key, seen_none, copied_none, copied_some}
use Rattle.option_map.proofs.declared_options.options.find.Goals as goal

pub returns-then-name-gt-MOST_OPTION_NAME-clause-setting : goal.returns-then-name-gt-MOST_OPTION_NAME-clause-setting
returns-then-name-gt-MOST_OPTION_NAME-clause-setting c = sym (no_long (length c.args.texts.now) c.args.texts.now c.args.name.now c.args.table.now.entries c.if-name-gt-MOST_OPTION_NAME.true c.requires)

pub returns-in_err-stored-clause-setting : goal.returns-in_err-stored-clause-setting
returns-in_err-stored-clause-setting c =
    let es = c.args.table.now.entries in
    let none : lookup (is_key c.folded.result.items) es ≡ None = sym c.get.ensures.value ∙ copied_none c.get.result c.in_err-stored.was in
    seen_none c.from_residual.result c.from_residual.ensures
    ∙ sym (ap (option_map (setting_in c.args.texts.now)) (sym (ap (λ (k : List ℕ). lookup (is_key k) es) c.folded.ensures) ∙ none))
    ∙ looked (length c.args.texts.now) c.args.texts.now c.args.name.now es c.requires

pub setting_in-requires : goal.setting_in-requires
setting_in-requires c =
    looked_within (length c.args.texts.now) (is_key c.folded.result.items) c.args.table.now.entries c.in_ok-stored.stored.now c.requires (sym c.get.ensures.value ∙ copied_some c.get.result c.in_ok-stored.stored c.in_ok-stored.was)

pub returns-clause-setting : goal.returns-clause-setting
returns-clause-setting c =
    let es = c.args.table.now.entries in
    let some : lookup (is_key c.folded.result.items) es ≡ Some c.in_ok-stored.stored.now = sym c.get.ensures.value ∙ copied_some c.get.result c.in_ok-stored.stored c.in_ok-stored.was in
    ap (λ o. Some o) c.setting_in.ensures.setting
    ∙ sym (ap (option_map (setting_in c.args.texts.now)) (sym (ap (λ (k : List ℕ). lookup (is_key k) es) c.folded.ensures) ∙ some))
    ∙ looked (length c.args.texts.now) c.args.texts.now c.args.name.now es c.requires
