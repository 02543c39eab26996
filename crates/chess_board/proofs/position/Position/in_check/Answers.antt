use Rattle.chess_board.proofs.Legal.{checked_answer}
use Rattle.chess_board.proofs.position.Position.in_check.Goals as goal

pub returns-clause-value : goal.returns-clause-value
returns-clause-value c = checked_answer _ c.self.inside.setup c.args.self.now c.self.view_is c.in_check.ensures
