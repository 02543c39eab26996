-- The lengths of the lines about a search, the sizes of the numbers that are kept, and
-- that the lines are replies.
use Rattle.std.specs.Prelude.{◌≡◌, ℕ, ◌+◌, ◌*◌, ◌/◌, ◌^◌, ◌<◌, ◌≤◌}
use Rattle.std.specs.Prelude.{List, length, Option, Some, IfSome}
use Rattle.chess_board.specs.Play.{IsPosition}
use Rattle.chess_board.specs.Position.{Position}
use Rattle.cecp_lines.specs.declared.reply.Spelling.{Spelling}
use Rattle.cecp_lines.specs.declared.reply.Spelling.TheVariants.{Coordinates, San}
use Rattle.cecp_lines.specs.Replies.{Reply, SpellsReply, reply_text}
use Rattle.uci_lines.specs.Info.{Info as AnyInfo}
use Rattle.uci_lines.specs.Messages.{Info}
use Rattle.uci_lines.specs.Engine.{engine_message}
use Rattle.think_text.specs.declared.line.Pondered.{Pondered}
use Rattle.think_text.specs.declared.search_info.SearchInfo.{SearchInfo}
use Rattle.think_text.specs.Line.{InfoIsHeard, IsPlayableAsHint, thinking_line}
use Rattle.think_text.specs.Kept.{nothing_seen, after_info, stat01_of}

-- The greatest length of a thinking line, by the engine's line that it tells: a move by its squares
-- has at most as many bytes as the engine wrote, and one in standard algebraic notation at most
-- three more, where the engine wrote four or more.
abbrev pub most_bytes : Spelling → ℕ → ℕ
most_bytes Coordinates n = 128 + n
most_bytes San n = 128 + 8 * n / 5

-- No thinking line is longer.
abbrev pub LinesAreShort : Type 0
LinesAreShort =
    (s : Spelling) (line : List ℕ) (facts : AnyInfo) (p : Position) (hint : Option Pondered)
    (t : Reply)
    → IsPlayableAsHint hint → engine_message line ≡ Info facts → thinking_line s facts p hint ≡ Some t
    → length (reply_text t) ≤ most_bytes s (length line)

-- the position before the hint is one
abbrev pub IsBefore : Pondered → Type 0
IsBefore hint = IsPosition hint.before

-- Its text is read as this line and as no other.
abbrev pub LinesAreReplies : Type 0
LinesAreReplies =
    (s : Spelling) (facts : AnyInfo) (p : Position) (hint : Option Pondered) (t : Reply)
    → IsPosition p → IfSome hint IsBefore → IsPlayableAsHint hint → InfoIsHeard facts
    → thinking_line s facts p hint ≡ Some t
    → SpellsReply (reply_text t) t

-- the numbers that are kept have at most 64 bits
pub record IsBounded (search_info : SearchInfo) : Type 0 where
  pub depth : search_info.depth < 2 ^ 64
  pub time : search_info.time < 2 ^ 64
  pub nodes : search_info.nodes < 2 ^ 64
  pub number : search_info.number < 2 ^ 64

-- They have from the start, and once more was reported by a line of the engine.
abbrev pub StaysBounded : Type 0
StaysBounded =
    IsBounded nothing_seen
    × ((search_info : SearchInfo) (facts : AnyInfo) (p : Position) → IsBounded search_info → InfoIsHeard facts
    → IsBounded (after_info search_info facts p))

-- The answer to `.` has at most 128 bytes.
abbrev pub StatIsShort : Type 0
StatIsShort =
    (search_info : SearchInfo) (p : Position) → IsBounded search_info
    → length (reply_text (stat01_of search_info p)) ≤ 128
