use Rattle.std.proofs.Common.{sym, ◌∙◌}
use Rattle.chess_board.proofs.LegalMoves.{legal_is}
use Rattle.chess_board.proofs.Plays.{position_kept, passed_low}
use Rattle.chess_board.proofs.Tried.{left_is}
use Rattle.chess_board.proofs.position.Position.try_play.Goals as goal

pub invariant_of-result : goal.invariant_of-result
invariant_of-result c =
    let p = c.self.inside.setup in
    let m = c.args.m in
    let left = left_is p m c.in-Some.setup (sym c.in-Some.is ∙ c.after_if_legal.ensures) in
    rw left.1 (position_kept p m.from.index m.to.index m.promotion c.self.invariant m.from.on_board m.to.on_board (passed_low p.side _ m.from.index m.to.index m.from.on_board m.to.on_board) (legal_is p m left.0))
