-- The text of a move is a token.
use Rattle.std.proofs.Common.{◌≡◌, ◌<◌, true, length, arith}
use Rattle.chess_board.specs.declared.board.Move.{Move}
use Rattle.chess_board.specs.Text.{text_of_move}
use Rattle.chess_board.proofs.TextBytes.{text_high}
use Rattle.protocol_tokens.specs.Tokens.{is_token}
use Rattle.protocol_tokens.proofs.Runs.{high_token}

pub move_token : (m : Move) → is_token (text_of_move m) ≡ true
move_token m = let some : 0 < length (text_of_move m) = omega arith in high_token (text_of_move m) some (text_high m)
