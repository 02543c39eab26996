-- A move that a message carries has a text.
use Rattle.std.proofs.Common.{◌≡◌, inl, inr, ℕ, List, subst}
use Rattle.chess_board.specs.declared.board.Move.{Move}
use Rattle.chess_board.specs.Text.{IsOfficer}
use Rattle.chess_board.proofs.Spelled.{spelled_officer}
use Rattle.cecp_lines.specs.declared.iface.IfaceMsg.{IfaceMsg}
use Rattle.cecp_lines.specs.declared.iface.IfaceMsg.TheVariants as says
use Rattle.cecp_lines.specs.Messages.{message_of}
use Rattle.cecp_lines.specs.Reading.{HasMove, CanBeRead}

pub move_writable : (line : List ℕ) (m : Move) → HasMove line m → IsOfficer m.promotion
move_writable line m (inl h) = spelled_officer h.0 m h.2
move_writable line m (inr h) = spelled_officer h.0 m h.2

pub read_writable : (msg : IfaceMsg) (m : Move) → msg ≡ says.UserMove m → CanBeRead (message_of msg) → IsOfficer m.promotion
read_writable msg m e h = let k : CanBeRead (message_of (says.UserMove m)) = subst (λ (x : IfaceMsg). CanBeRead (message_of x)) e h in move_writable k.0 m k.1
