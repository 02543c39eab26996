-- The rest of the moves leads as far as all do.
use Rattle.std.proofs.Common.{◌≡◌, length, Some}
use Rattle.protocol_tokens.specs.Tokens.{tokens}
use Rattle.cecp_driver.specs.Ordered.{game_after_texts}
use Rattle.cecp_driver.proofs.ordered.push_all.Given as goal

abbrev pub invariant-loop-token : goal.invariant-loop-token
invariant-loop-token l = game_after_texts (tokens l.others) (Some l.game) ≡ game_after_texts (tokens l.fn.moves) (Some l.initial.game)

abbrev pub decreases-loop-token : goal.decreases-loop-token
decreases-loop-token l = length l.others
