use Rattle.std.proofs.Common.{sym, ◌∙◌, arith}
use Rattle.std.proofs.lemmas.Bool.{and_from}
use Rattle.chess_board.proofs.Below.{some_square-hit, some_square-none}
use Rattle.san_text.proofs.pieces.has_rival.Goals as goal

pub returns-then-is_rival : goal.returns-then-is_rival
returns-then-is_rival c = sym (some_square-hit _ c.loop-index.index (omega arith) (and_from _ _ (sym c.is_within.ensures ∙ c.if-is_within.true) (sym c.is_rival.ensures ∙ c.if-is_rival.true)))

pub returns : goal.returns
returns c = sym (some_square-none _ c.loop-index.index (omega arith) c.loop-index.invariant)
