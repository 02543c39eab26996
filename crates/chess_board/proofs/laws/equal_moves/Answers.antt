use Rattle.std.proofs.Common.{sym, ◌∙◌}
use Rattle.chess_board.proofs.Equal.{moves-Decides}
use Rattle.chess_board.proofs.laws.equal_moves.Goals as goal

pub returns : goal.returns
returns c = let law = moves-Decides c.args.a c.args.b in (λ e. law.0 (sym c.eq.ensures ∙ e), λ e. c.eq.ensures ∙ law.1 e)
