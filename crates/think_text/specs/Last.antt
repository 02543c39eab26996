-- The last thinking line that was written of a search.
use Rattle.std.specs.Prelude.{◌≡◌, ℕ, ◌≤◌, ℤ, List, length, Option, Some, None, IfSome}
use Rattle.std.specs.Option.{option_map}
use Rattle.line_io.specs.Out.{Text}
use Rattle.chess_board.specs.Position.{Position}
use Rattle.cecp_lines.specs.declared.reply.Spelling.{Spelling}
use Rattle.cecp_lines.specs.Replies.{Reply, Thinking, reply_text}
use Rattle.uci_lines.specs.Info.{Info as AnyInfo}
use Rattle.think_text.specs.declared.line.Pondered.{Pondered}
use Rattle.think_text.specs.declared.last_thinking.TheConstants.{BARE_LINE}
use Rattle.think_text.specs.declared.last_thinking.LineStart.{LineStart}
use Rattle.think_text.specs.Line.{hint_text, thinking_line}

-- a thinking line without its hint
pub record ThinkingLine : Type 0 where
  pub depth : ℕ
  pub score : ℤ
  pub time : ℕ
  pub nodes : ℕ
  pub spelling : Spelling
  pub moves : List ℕ

abbrev pub without_hint : Reply → Option ThinkingLine
without_hint (Thinking depth score time nodes spelling hint pv) = Some (record {
  depth = depth;
  score = score;
  time = time;
  nodes = nodes;
  spelling = spelling;
  moves = pv;
})
without_hint reply = None

-- the reply that it is with this hint
abbrev pub with_hint : Option Pondered → ThinkingLine → Reply
with_hint hint line =
    Thinking line.depth line.score line.time line.nodes line.spelling (hint_text line.spelling hint) line.moves

-- the last line that was written, once this one was, if there is one
abbrev pub last_after : Option ThinkingLine → Option Reply → Option ThinkingLine
last_after old None = old
last_after old (Some reply) = without_hint reply

-- the line of this start, with these moves
abbrev pub thinking_line_from : List ℕ → LineStart → ThinkingLine
thinking_line_from moves start = record {
  depth = start.depth;
  score = start.score;
  time = start.time;
  nodes = start.nodes;
  spelling = start.spelling;
  moves = moves;
}

abbrev pub last_line : Option LineStart → List ℕ → Option ThinkingLine
last_line start moves = option_map (thinking_line_from moves) start

-- there is room for the moves of a line, and the line is short
pub record LastIsKept (start : Option LineStart) (moves : Text) : Type 0 where
  pub room : moves.room ≡ BARE_LINE
  pub short : IfSome (last_line start moves.text) (λ line. length (reply_text (with_hint None line)) ≤ BARE_LINE)

-- The hint is all that the lines of a report differ in: the moves that are shown again are those
-- that were shown behind it.
abbrev pub LinesDifferByHint : Type 0
LinesDifferByHint =
    (s : Spelling) (facts : AnyInfo) (p : Position) (hint : Option Pondered) (old : Option ThinkingLine)
    → (thinking_line s facts p hint
    ≡ option_map (with_hint hint) (last_after None (thinking_line s facts p None)))
    × (last_after old (thinking_line s facts p hint) ≡ last_after old (thinking_line s facts p None))
