-- The test for legal moves and the relation.
use Rattle.std.proofs.Common.{◌≡◌, true}
use Rattle.chess_board.specs.declared.board.Move.{Move}
use Rattle.chess_board.specs.Position.{Position}
use Rattle.chess_board.specs.Laws.{IsLegal}
use Rattle.chess_board.specs.Place.{legal}
use Rattle.chess_board.proofs.Legal.{legal-law}

pub is_legal : (p : Position) (m : Move) → legal p m ≡ true → IsLegal p m.from.index m.to.index m.promotion
is_legal p m e = (legal-law p m.from.index m.to.index m.promotion).0 e

pub legal_is : (p : Position) (m : Move) → IsLegal p m.from.index m.to.index m.promotion → legal p m ≡ true
legal_is p m h = (legal-law p m.from.index m.to.index m.promotion).1 h
