use Rattle.std.proofs.Common.{◌∙◌, sym, refl}
use Rattle.protocol_tokens.specs.Tokens.{tokens}
use Rattle.cecp_driver.proofs.Pushing.{push_none}
use Rattle.cecp_driver.proofs.ordered.push_all.Goals as goal

pub returns-then-not-push_text-clause-not : goal.returns-then-not-push_text-clause-not
returns-then-not-push_text-clause-not c =
    sym c.loop-token.invariant
    ∙ push_none (tokens c.loop-token.others.now) (tokens c.in-Some.after.now) c.in-Some.token.now c.loop-token.game _ c.in-Some.ensures.first refl c.if-not-push_text.ensures.not
