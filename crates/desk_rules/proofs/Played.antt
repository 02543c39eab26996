-- The lines for an accepted move are few.
use Rattle.std.proofs.Common.{◌≡◌, ◌≤◌, [], length, Bool, true, false, cond, Option, Some, None, refl, arith}
use Rattle.chess_board.specs.declared.board.Move.{Move}
use Rattle.chess_board.specs.declared.board.Side.{Side}
use Rattle.cecp_lines.specs.Messages as says
use Rattle.cecp_lines.specs.Replies as cecp
use Rattle.game_record.specs.declared.ending.GameEnd.{GameEnd}
use Rattle.game_record.specs.Game.{Game}
use Rattle.game_record.specs.Ending.{ended_of}
use Rattle.option_map.specs.FeatureLists.Features.{reply_lines}
use Rattle.search_epochs.specs.Dialogue.{played_of}
use Rattle.desk_rules.specs.Desk.{Situation, on_move, plays}
use Rattle.desk_rules.specs.Lines.{change}
use Rattle.desk_rules.specs.Steps.{Effect, Accepts, what_of}
use Rattle.desk_rules.specs.Replies.{outcome_of, result_reply_by, result_reply_of, reply_row, row_accepted}
use Rattle.desk_rules.proofs.Rooms.{brief_le, one_le}

result_le : (side : Side) (end : Option GameEnd) → length (reply_lines (result_reply_by side end)) ≤ 129
result_le side None = omega arith
result_le side (Some end) = one_le 129 (cecp.Result (outcome_of side end)) (brief_le (cecp.Result (outcome_of side end)) tt refl)

shown_le : (b : Bool) (g : Game) → length (reply_lines (cond b (result_reply_of g) [])) ≤ 129
shown_le true g = result_le (on_move g) (ended_of g)
shown_le false g = omega arith

pub move_row_short : (h : Situation) (d : Effect) (m : Move) → played_of (what_of d) ≡ Some m → length (reply_lines (reply_row h d)) ≤ 129
unfolding reply_row row_accepted
move_row_short h (Accepts (says.UserMove n)) m e = shown_le (plays (change false h.desk (says.UserMove n)).mode) (change false h.desk (says.UserMove n)).game
move_row_short h (Accepts message) m e = absurd (cc)
move_row_short h d m e = absurd (cc)
