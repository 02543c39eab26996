use Rattle.std.proofs.Common.{subst}
use Rattle.chess_board.specs.Play.{IsPosition}
use Rattle.chess_board.proofs.Facts.{built-same, en_passant_rank}
use Rattle.chess_board.proofs.Standing.{lawful-is}
use Rattle.chess_board.proofs.position.Position.facts.Goals as goal

pub returns-clause-lawful : goal.returns-clause-lawful
returns-clause-lawful c = lawful-is c.args.self.now (subst IsPosition c.self.view_is c.self.invariant)

pub returns-clause-rebuilt : goal.returns-clause-rebuilt
returns-clause-rebuilt c = built-same c.args.self.now (subst IsPosition c.self.view_is c.self.invariant)

pub returns-clause-passant : goal.returns-clause-passant
returns-clause-passant c = en_passant_rank c.args.self.now (subst IsPosition c.self.view_is c.self.invariant)
