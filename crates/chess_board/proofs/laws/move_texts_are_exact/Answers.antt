use Rattle.chess_board.proofs.Texts.{spells-one, reads-back, legal-written}
use Rattle.chess_board.proofs.laws.move_texts_are_exact.Goals as goal

pub returns-clause-one : goal.returns-clause-one
returns-clause-one c = spells-one

pub returns-clause-back : goal.returns-clause-back
returns-clause-back c = reads-back

pub returns-clause-written : goal.returns-clause-written
returns-clause-written c = legal-written
