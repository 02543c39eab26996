-- No reply's text is longer than its borrowed bytes and 128 more.
use Rattle.std.proofs.Common.{◌≡◌, ℕ, ℤ, suc, ◌+◌, ◌^◌, ◌<◌, ◌≤◌, List, [], ◌∷◌, ◌++◌, length, Bool, true, ltb, leb, ◌&&◌, Option, Some, None, arith}
use Rattle.std.specs.Prelude.{codes}
use Rattle.std.specs.Fmt.{decimal, signed_decimal}
use Rattle.std.specs.List.{list_all}
use Rattle.std.proofs.lemmas.Bool.{and_parts}
use Rattle.std.proofs.lemmas.Bool.Decides.{nat_tests}
use Rattle.std.proofs.lemmas.List.{length-append}
use Rattle.std.proofs.lemmas.Fmt.{length-decimal-le}
use lib.IntN.{pos, negsuc}
use mir.Val.{SFits}
use mir.Syntax.{w64}
use Rattle.chess_board.specs.declared.board.Move.{Move as AnyMove}
use Rattle.chess_board.specs.declared.board.Side.{Side}
use Rattle.chess_board.specs.declared.board.Side.TheVariants.{White, Black}
use Rattle.chess_board.specs.Text.{text_of_move}
use Rattle.chess_board.proofs.TextLengths.{move_length}
use Rattle.cecp_lines.specs.declared.reply.Reason.{Reason}
use Rattle.cecp_lines.specs.declared.reply.Reason.TheVariants as reasons
use Rattle.cecp_lines.specs.declared.reply.UserError.{UserError}
use Rattle.cecp_lines.specs.declared.reply.UserError.TheVariants as user_errors
use Rattle.cecp_lines.specs.declared.reply.Outcome.{Outcome}
use Rattle.cecp_lines.specs.declared.reply.Outcome.TheVariants as outcomes
use Rattle.cecp_lines.specs.declared.reply.Spelling.{Spelling}
use Rattle.cecp_lines.specs.Losses.{Loss, IllegalMove, Ended, loss_text, quoted_text, score_text, lost_text, is_quotable, is_quotable_byte, IsQuoted}
use Rattle.cecp_lines.specs.Replies as cecp
use Rattle.cecp_lines.specs.Replies.{Reply, reply_text, reason_text, user_error_text, outcome_text, field, hint_in_parentheses, hint_size, current_text, HasFieldRanges, borrowed_length}

decimal_short : (n : ℕ) → n < 2 ^ 64 → length (decimal n) ≤ 20
decimal_short n h = length-decimal-le 20 n (omega arith) (omega arith) h

signed_short : (z : ℤ) → SFits w64 z → length (signed_decimal z) ≤ 21
signed_short (pos n) h = omega (arith, decimal_short n (omega (arith, h.sfits)))
signed_short (negsuc k) h = omega (arith, decimal_short (suc k) (omega (arith, h.sfits)))

reason_short : (r : Reason) → length (reason_text r) ≤ 17
reason_short reasons.UnknownCommand = omega arith
reason_short r = omega arith

report_short : (t : UserError) → length (user_error_text t) ≤ 128
report_short user_errors.Position = omega arith
report_short user_errors.Move = omega arith
report_short user_errors.Ended = omega arith

outcome_short : (o : Outcome) → length (outcome_text o) ≤ 128
outcome_short outcomes.WhiteMates = omega arith
outcome_short outcomes.BlackMates = omega arith
outcome_short outcomes.Stalemate = omega arith
outcome_short outcomes.Dead = omega arith
outcome_short outcomes.Repetition = omega arith
outcome_short outcomes.Fifty = omega arith

hint_short : (h : Option (List ℕ)) → length (hint_in_parentheses h) ≤ 3 + hint_size h
hint_short None = omega arith
hint_short (Some text) = omega (arith, length-append text (41 ∷ 32 ∷ []))

current_short : (c : Option AnyMove) → length (current_text c) ≤ 6
current_short None = omega arith
current_short (Some m) = omega (arith, move_length m)

two_parts : (a b : List ℕ) → length (a ++ b) ≡ length a + length b
two_parts a b = length-append a b

four_parts : (a b c d : List ℕ) → length (a ++ b ++ c ++ d) ≡ length a + length b + length c + length d
four_parts a b c d = simp length-append (omega arith)

thinking_parts : (a b c d e f : List ℕ) → length (field a ++ field b ++ field c ++ field d ++ e ++ f) ≡ length a + length b + length c + length d + 4 + length e + length f
thinking_parts a b c d e f = simp length-append (omega arith)

stat_parts : (prefix a b c d e f : List ℕ) → length (prefix ++ field a ++ field b ++ field c ++ field d ++ e ++ f) ≡ length prefix + length a + length b + length c + length d + 4 + length e + length f
stat_parts prefix a b c d e f = simp length-append (omega arith)

-- a thinking line has at most 88 bytes besides its moves
pub thinking_short : (depth : ℕ) (score : ℤ) (time nodes : ℕ) (spelling : Spelling) (hint : Option (List ℕ)) (pv : List ℕ)
    → HasFieldRanges (cecp.Thinking depth score time nodes spelling hint pv)
    → length (reply_text (cecp.Thinking depth score time nodes spelling hint pv)) ≤ 88 + (hint_size hint + length pv)
thinking_short depth score time nodes spelling hint pv f =
    let a = decimal_short depth f.0 in
    let b = signed_short score f.1 in
    let c = decimal_short time f.2 in
    let d = decimal_short nodes f.3 in
    let e = hint_short hint in
    omega (arith, thinking_parts (decimal depth) (signed_decimal score) (decimal time) (decimal nodes) (hint_in_parentheses hint) pv)

quoted_short : (answer : Option (List ℕ)) → IsQuoted (IllegalMove answer) → length (quoted_text answer) ≤ 18
quoted_short None f = omega arith
quoted_short (Some answer) f =
    let both = and_parts (ltb 0 (length answer) && leb (length answer) 16) (list_all is_quotable_byte answer) f in
    let few = and_parts (ltb 0 (length answer)) (leb (length answer) 16) both.0 in
    let short : length answer ≤ 16 = grind (arith, nat_tests, few.1) in
    omega (arith, two_parts (codes ": ") answer, short)

loss_short : (loss : Loss) → IsQuoted loss → length (loss_text loss) ≤ 40
loss_short (IllegalMove answer) f = omega (arith, two_parts (codes "Illegal move by engine") (quoted_text answer), quoted_short answer f)
loss_short Ended f = omega arith

score_short : (side : Side) → length (score_text side) ≤ 3
score_short White = omega arith
score_short Black = omega arith

lost_short : (side : Side) (loss : Loss) → IsQuoted loss → length (lost_text side loss) ≤ 46
lost_short side loss f = omega (arith, four_parts (score_text side) (codes " {") (loss_text loss) (codes "}"), score_short side, loss_short loss f)

pub reported_short : (t : Reply) → HasFieldRanges t → length (reply_text t) ≤ 128 + borrowed_length t
reported_short (cecp.Feature name value) f = omega (arith, four_parts (codes "feature ") name (codes "=") value)
reported_short (cecp.Move m) f = omega (arith, two_parts (codes "move ") (text_of_move m), move_length m)
reported_short (cecp.Illegal m) f = omega (arith, two_parts (codes "Illegal move: ") (text_of_move m), move_length m)
reported_short (cecp.IllegalLong m) f = omega (arith, two_parts (codes "Illegal move (game too long): ") (text_of_move m), move_length m)
reported_short (cecp.Error r line) f = omega (arith, four_parts (codes "Error (") (reason_text r) (codes "): ") line, reason_short r)
reported_short (cecp.TellError user_error) f = omega (arith, report_short user_error)
reported_short (cecp.Pong n) f = omega (arith, two_parts (codes "pong ") (decimal n), decimal_short n (omega arith))
reported_short (cecp.Lost side loss) f = omega (arith, lost_short side loss f)
reported_short (cecp.Hint m) f = omega (arith, two_parts (codes "Hint: ") (text_of_move m), move_length m)
reported_short (cecp.Result outcome) f = omega (arith, outcome_short outcome)
reported_short (cecp.Thinking depth score time nodes spelling hint pv) f = omega (arith, thinking_short depth score time nodes spelling hint pv f)
reported_short (cecp.Stat01 time nodes depth left all current) f =
    let a = decimal_short time f.0 in
    let b = decimal_short nodes f.1 in
    let c = decimal_short depth f.2 in
    let d = decimal_short left f.3 in
    let e = decimal_short all f.4 in
    let g = current_short current in
    omega (arith, stat_parts (codes "stat01: ") (decimal time) (decimal nodes) (decimal depth) (decimal left) (decimal all) (current_text current))
reported_short t f = omega arith
