use Rattle.std.proofs.Common.{◌∙◌, sym}
use Rattle.protocol_tokens.proofs.Lengths.{none_first, some_first, some_shorter}
use Rattle.protocol_tokens.proofs.tokens.next_token.Goals as goal

pub returns-then-is_empty-clause-first : goal.returns-then-is_empty-clause-first
returns-then-is_empty-clause-first c = none_first c.args.text.now c.split_token.result.0.now c.split_token.ensures.token (sym c.is_empty.ensures ∙ c.if-is_empty.true)

pub returns-else-is_empty-clause-first : goal.returns-else-is_empty-clause-first
returns-else-is_empty-clause-first c = some_first c.args.text.now c.split_token.result.0.now c.split_token.result.1.now c.split_token.ensures.token c.split_token.ensures.rest (sym c.is_empty.ensures ∙ c.if-is_empty.false)

pub returns-else-is_empty-clause-shorter : goal.returns-else-is_empty-clause-shorter
returns-else-is_empty-clause-shorter c = some_shorter c.args.text.now c.split_token.result.0.now c.split_token.result.1.now c.split_token.ensures.token c.split_token.ensures.rest (sym c.is_empty.ensures ∙ c.if-is_empty.false)
