use Rattle.std.proofs.Common.{not, ap, ◌∙◌}
use mathlib.Core.Bool.{not-not}
use Rattle.chess_board.specs.Board.{piece_at, is_vacant}
use Rattle.chess_board.proofs.pieces.Board.is_free.Goals as goal

pub returns : goal.returns
returns c = ap not (c.is_in.ensures ∙ c.pieces_set.ensures.set c.args.at.index c.args.at.on_board) ∙ not-not (is_vacant (piece_at c.args.self.now c.args.at.index))
