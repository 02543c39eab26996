-- The test for legal moves and the relation, at moves.
use Rattle.std.proofs.Common.{◌≡◌, Bool, true, false, cond, refl}
use Rattle.std.specs.Prelude.{IfSome, Option, Some, None}
use Rattle.chess_board.specs.declared.board.Move.{Move}
use Rattle.chess_board.specs.Position.{Position}
use Rattle.chess_board.specs.Place.{legal}
use Rattle.chess_board.proofs.Texts.{legal-written}
use Rattle.chess_board.proofs.LegalMoves.{is_legal}
use Rattle.cecp_lines.specs.Replies.{IsWritable}
use Rattle.think_text.specs.Kept.{newer_move, StaysWritable}

pub legal_writable : (p : Position) (m : Move) → legal p m ≡ true → IsWritable m
legal_writable p m e = legal-written p m (is_legal p m e)

newer_step : (p : Position) (m : Move) (b : Bool) (old : Option Move) → legal p m ≡ b → IfSome old IsWritable → IfSome (cond b (Some m) old) IsWritable
newer_step p m true old e h = legal_writable p m e
newer_step p m false old e h = h

newer_writable : (p : Position) (new old : Option Move) → IfSome old IsWritable → IfSome (newer_move p new old) IsWritable
newer_writable p None old h = h
newer_writable p (Some m) old h = newer_step p m (legal p m) old refl h

pub stays_writable : StaysWritable
stays_writable search_info facts p h = newer_writable p facts.current search_info.current h
