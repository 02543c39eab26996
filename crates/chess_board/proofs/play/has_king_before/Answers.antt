use Rattle.std.proofs.Common.{sym, ◌∙◌, arith}
use Rattle.chess_board.specs.Play.{is_king_for}
use Rattle.chess_board.proofs.Below.{some_below-at, some_below-hit, some_below-none}
use Rattle.chess_board.proofs.play.has_king_before.Goals as goal

pub returns-then-is_king_before : goal.returns-then-is_king_before
returns-then-is_king_before c = sym (some_below-hit 8 c.loop-king.king (is_king_for c.args.variant c.args.board.now c.args.side c.args.wing c.args.rook) (omega arith) (sym c.is_king_before.ensures ∙ c.if-is_king_before.true))

pub returns : goal.returns
returns c = sym (some_below-none 8 (is_king_for c.args.variant c.args.board.now c.args.side c.args.wing c.args.rook) (λ k low. some_below-at c.loop-king.king k (is_king_for c.args.variant c.args.board.now c.args.side c.args.wing c.args.rook) c.loop-king.invariant (omega arith)))
