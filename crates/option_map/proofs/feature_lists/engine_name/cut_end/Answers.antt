use Rattle.std.proofs.Common.{◌∙◌, ◌-◌, ap, arith, sym, length}
use Rattle.protocol_tokens.specs.Tokens.{is_white}
use Rattle.option_map.proofs.FeatureLists.EngineNames.{last_white_blanked, last_black_blanked}
use Rattle.option_map.proofs.feature_lists.engine_name.cut_end.Goals as goal

pub loop-rest-preserved : goal.loop-rest-preserved
loop-rest-preserved c =
    last_white_blanked c.loop-rest.rest.now (length c.loop-rest.rest.now - 1) (omega arith) (ap is_white (sym c.blanked_byte.ensures) ∙ sym c.is_white.ensures ∙ c.if-not-is_white.false)
    ∙ c.loop-rest.invariant

pub returns-then-not-is_white : goal.returns-then-not-is_white
returns-then-not-is_white c =
    sym (last_black_blanked c.loop-rest.rest.now (length c.loop-rest.rest.now - 1) (omega arith) (ap is_white (sym c.blanked_byte.ensures) ∙ sym c.is_white.ensures ∙ c.if-not-is_white.true))
    ∙ c.loop-rest.invariant
