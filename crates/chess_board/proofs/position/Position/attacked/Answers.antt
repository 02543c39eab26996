use Rattle.chess_board.proofs.Legal.{attacked_answer}
use Rattle.chess_board.proofs.position.Position.attacked.Goals as goal

pub returns : goal.returns
returns c = attacked_answer _ c.self.inside.setup c.args.self.now _ _ c.self.view_is c.attacked.ensures
