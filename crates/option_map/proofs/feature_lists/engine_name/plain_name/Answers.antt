use Rattle.std.proofs.Common.{ap, ◌∙◌}
use Rattle.protocol_tokens.specs.Tokens.{trim_right}
use Rattle.option_map.specs.DeclaredOptions.Styles.{blanked_text}
use Rattle.option_map.specs.FeatureLists.Features.{shown_name}
use Rattle.option_map.proofs.FeatureLists.EngineNames.{shown_blanked}
use Rattle.option_map.proofs.feature_lists.engine_name.plain_name.Goals as goal

pub returns : goal.returns
returns c =
    c.blanked_copy.ensures ∙ ap blanked_text c.shown_name.ensures.name
    ∙ shown_blanked c.cut_end.result.now
    ∙ ap shown_name (c.cut_end.ensures ∙ ap trim_right c.cut_start.ensures)
