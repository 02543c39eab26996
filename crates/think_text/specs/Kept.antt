-- The values kept of a search.
use Rattle.std.specs.Prelude.{ℕ, ◌-◌, ◌/◌, ◌==◌, ◌&&◌, ℤ, Bool, true, not}
use Rattle.std.specs.Prelude.{if◌then◌else◌, Option, Some, None, IfSome}
use Rattle.std.specs.Option.{unwrap_or, option_map, option_or}
use Rattle.chess_board.specs.declared.board.Move.{Move}
use Rattle.chess_board.specs.Position.{Position}
use Rattle.chess_board.specs.Place.{legal, legal_count}
use Rattle.cecp_lines.specs.Replies.{Reply, Stat01, IsWritable}
use Rattle.uci_lines.specs.Info.{Info}
use Rattle.think_text.specs.declared.search_info.SearchInfo.{SearchInfo}
use Rattle.think_text.specs.Line.{value_of}

abbrev pub nothing_seen : SearchInfo
nothing_seen = record { depth = 0; time = 0; nodes = 0; current = None; number = 0; score = None }

-- a current move counts only if it is legal in the searched position
abbrev pub newer_move : Position → Option Move → Option Move → Option Move
newer_move p None old = old
newer_move p (Some m) old = if legal p m then Some m else old

-- the first variation, or the only one
abbrev pub is_first : Option ℕ → Bool
is_first None = true
is_first (Some n) = n == 1

-- a score counts only if it is no bound, and that of the first variation
abbrev pub newer_score : Info → Option ℤ → Option ℤ
newer_score facts old =
    if not facts.bound && is_first facts.multipv
    then option_or (option_map value_of facts.score) old
    else old

-- Each value is that of the last message that gave it.
abbrev pub after_info : SearchInfo → Info → Position → SearchInfo
after_info search_info facts p = record {
  depth = unwrap_or facts.depth search_info.depth;
  time = unwrap_or facts.time search_info.time;
  nodes = unwrap_or facts.nodes search_info.nodes;
  current = newer_move p facts.current search_info.current;
  number = unwrap_or facts.number search_info.number;
  score = newer_score facts search_info.score;
}

-- The report of `stat01`: the time in hundredths of a second, and how many of the legal
-- moves are not yet searched.
abbrev pub stat01_of : SearchInfo → Position → Reply
stat01_of search_info p =
    Stat01 (search_info.time / 10) search_info.nodes search_info.depth (legal_count p - search_info.number) (legal_count p)
    search_info.current

-- A current move that is kept has a text.
abbrev pub StaysWritable : Type 0
StaysWritable =
    (search_info : SearchInfo) (facts : Info) (p : Position) → IfSome search_info.current IsWritable
    → IfSome (after_info search_info facts p).current IsWritable
