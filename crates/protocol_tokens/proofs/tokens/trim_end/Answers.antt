use Rattle.std.proofs.Common.{◌∙◌, ◌-◌, arith, sym, length}
use Rattle.protocol_tokens.proofs.Trims.{last_white, last_black}
use Rattle.protocol_tokens.proofs.tokens.trim_end.Goals as goal

pub loop-rest-preserved : goal.loop-rest-preserved
loop-rest-preserved c =
    last_white c.loop-rest.rest.now (length c.loop-rest.rest.now - 1) (omega arith) (sym c.is_white.ensures ∙ c.if-not-is_white.false)
    ∙ c.loop-rest.invariant

pub returns-then-not-is_white : goal.returns-then-not-is_white
returns-then-not-is_white c =
    sym (last_black c.loop-rest.rest.now (length c.loop-rest.rest.now - 1) (omega arith) (sym c.is_white.ensures ∙ c.if-not-is_white.true))
    ∙ c.loop-rest.invariant
