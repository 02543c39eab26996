-- The features that the interface is offered have no control bytes, if texts are to be plain.
use Rattle.std.specs.Prelude.{◌≡◌, true, false, List}
use Rattle.std.specs.List.{AllByRecursion}
use Rattle.cecp_lines.specs.Replies.{Reply, Feature}
use Rattle.option_map.specs.DeclaredOptions.Styles.{has_control}
use Rattle.policy_rules.specs.declared.setting_rules.settings.Settings.{Settings}
use Rattle.adapter_core.specs.Trace.{Step, LawfulTrace}

-- a feature without a control byte in its value; other replies may have any
abbrev pub IsPlainFeature : Reply → Type 0
IsPlainFeature (Feature name value) = has_control value ≡ false
IsPlainFeature reply = Unit {0}

-- With PlainTexts on no feature has a control byte, whatever the options and the name of the
-- engine are.
abbrev pub FeaturesArePlain : Settings → Type 0
FeaturesArePlain o =
    o.plain_texts ≡ true → (trace : List Step) → LawfulTrace o trace
    → AllByRecursion (λ (step : Step). AllByRecursion IsPlainFeature step.replies) trace
