-- The result of a game that the engine has lost, as it is written with its reason.
use Rattle.std.specs.Prelude.{◌≡◌, ℕ, List, [], ◌++◌, length, Bool, true, not, ◌&&◌, ◌==◌}
use Rattle.std.specs.Prelude.{if◌then◌else◌, nat_lt, nat_le, codes, Option, Some, None, IfSome}
use Rattle.std.specs.Option.{option_map}
use Rattle.std.specs.List.{list_all}
use Rattle.chess_board.specs.declared.board.Side.{Side}
use Rattle.chess_board.specs.declared.board.Side.TheVariants.{White, Black}
use Rattle.protocol_tokens.specs.Bytes.{exclamation_mark}
use Rattle.cecp_lines.specs.declared.losses.TheConstants.{MOST_QUOTED}
use Rattle.cecp_lines.specs.declared.reply.Loss.{Loss as CodeLoss}
use Rattle.cecp_lines.specs.declared.reply.Loss.TheVariants as losses

-- how the engine has lost a game, if not on the board and not by resigning
pub data Loss : Type 0 where
  IllegalMove : (answer : Option (List ℕ)) → Loss
  Ended : Loss

abbrev pub loss_of : CodeLoss → Loss
loss_of (losses.IllegalMove answer) = IllegalMove (option_map (λ a. a.now) answer)
loss_of losses.Ended = Ended

abbrev pub tilde : ℕ
tilde = 126

abbrev pub left_brace : ℕ
left_brace = 123

abbrev pub right_brace : ℕ
right_brace = 125

-- a byte that is shown, and no brace
abbrev pub is_quotable_byte : ℕ → Bool
is_quotable_byte b =
    (nat_le exclamation_mark b && nat_le b tilde) && not (b == left_brace) && not (b == right_brace)

-- A result can quote this answer.
abbrev pub is_quotable : List ℕ → Bool
is_quotable answer =
    nat_lt 0 (length answer) && nat_le (length answer) MOST_QUOTED && list_all is_quotable_byte answer

-- an answer of the engine as a result quotes it, if it can
abbrev pub quoted : List ℕ → Option (List ℕ)
quoted answer = if is_quotable answer then Some answer else None

-- what is quoted can be quoted
abbrev pub IsQuoted : Loss → Type 0
IsQuoted (IllegalMove answer) = IfSome answer (λ a. is_quotable a ≡ true)
IsQuoted Ended = Unit {0}

abbrev pub quoted_text : Option (List ℕ) → List ℕ
quoted_text None = []
quoted_text (Some answer) = codes ": " ++ answer

abbrev pub loss_text : Loss → List ℕ
loss_text (IllegalMove answer) = codes "Illegal move by engine" ++ quoted_text answer
loss_text Ended = codes "Engine ended"

-- the score of a game that this side has lost
abbrev pub score_text : Side → List ℕ
score_text White = codes "0-1"
score_text Black = codes "1-0"

-- the score of the game that this side has lost, and how in braces
abbrev pub lost_text : Side → Loss → List ℕ
lost_text side loss = score_text side ++ codes " {" ++ loss_text loss ++ codes "}"
