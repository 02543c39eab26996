-- Whole logs: lists of marks with the numbers of their lines, the newest first.
use Rattle.std.specs.Prelude.{ℕ, List, [], ◌∷◌, Bool, true, false, if◌then◌else◌, Option, Some, None}
use Rattle.line_io.specs.Event as events
use Rattle.script_lines.specs.Marks.{Mark, Happens, ToEngine}
use Rattle.chess_board.specs.declared.board.Move.{Move}
use Rattle.chess_board.specs.Position.{Position}
use Rattle.protocol_tokens.specs.Tokens.{tokens}
use Rattle.session_judge.specs.Clean.{Entry}
use Rattle.session_judge.specs.declared.listener.Listener.{Listener}
use Rattle.session_judge.specs.declared.listener.Listener.TheVariants as listeners
use Rattle.engine_conduct.specs.declared.known.Hearing.{Hearing}
use Rattle.engine_conduct.specs.declared.known.Hearing.TheVariants as hearings
use Rattle.engine_conduct.specs.declared.known.Known.{Known}
use Rattle.engine_conduct.specs.declared.known.LongLines.TheVariants as long_lines
use Rattle.engine_conduct.specs.declared.orders.AskedWord.TheVariants as words
use Rattle.engine_conduct.specs.declared.orders.HeardOrder.{HeardOrder}
use Rattle.engine_conduct.specs.declared.orders.HeardOrder.TheVariants as orders
use Rattle.engine_conduct.specs.declared.rule.ConductFault.{ConductFault}
use Rattle.engine_conduct.specs.declared.rule.ConductRule.{ConductRule}
use Rattle.engine_conduct.specs.declared.rule.ConductRule.TheVariants as rules
use Rattle.engine_conduct.specs.declared.words.EngineWord.{EngineWord}
use Rattle.engine_conduct.specs.Broken.{line_breaks}
use Rattle.engine_conduct.specs.Known.{after_line, known_after_order, leaves_early, nothing_known}
use Rattle.engine_conduct.specs.Listed.{listed_in}
use Rattle.engine_conduct.specs.Orders.{order_heard}
use Rattle.engine_conduct.specs.Words.{engine_word_in}

-- what is known, and the moves to which the search is restricted
pub record Conduct : Type 0 where
  pub known : Known
  pub listed : List Move

abbrev pub is_hearing : Hearing → Bool
is_hearing hearings.Judged = true
is_hearing hearing = false

abbrev pub unjudged_from : Hearing → Option ℕ
unjudged_from (hearings.NotFrom line) = Some line
unjudged_from hearing = None

-- THE RULES

abbrev pub line_broken : Known → List Move → Option EngineWord → List ℕ → Option ConductRule
line_broken k listed None line = None
line_broken k listed (Some word) line = line_breaks k listed word line

abbrev pub end_broken : Known → Option ConductRule
end_broken k = if leaves_early k then Some rules.Gone else None

-- the rule that a mark breaks, of an engine that is judged
abbrev pub broken_by_mark : Known → List Move → Mark → Option ConductRule
broken_by_mark k listed (Happens (events.Engine line)) = line_broken k listed (engine_word_in line) line
broken_by_mark k listed (Happens events.EngineEnd) = end_broken k
broken_by_mark k listed (Happens events.EngineLost) = end_broken k
broken_by_mark k listed mark = None

-- the first rule that a mark breaks
abbrev pub first_broken : Conduct → Mark → Option ConductRule
first_broken c mark = if is_hearing c.known.hearing then broken_by_mark c.known c.listed mark else None

abbrev pub fault_at_line : ℕ → Option ConductRule → Option ConductFault
fault_at_line line None = None
fault_at_line line (Some rule) = Some (record { line = line; rule = rule })

-- the fault that a mark is, in the line with this number
abbrev pub fault_of_mark : Conduct → ℕ → Mark → Option ConductFault
fault_of_mark c line mark = fault_at_line line (first_broken c mark)

-- AFTER A MARK

-- a `go` begins a list, which is empty without a position
abbrev pub list_by : HeardOrder → Option Position → List ℕ → Option (List Move)
list_by (orders.Word words.Go) (Some p) line = Some (listed_in p (tokens line))
list_by (orders.Word words.Go) None line = Some []
list_by order placed line = None

abbrev pub opens_list : Known → List ℕ → Option (List Move)
opens_list k line = list_by (order_heard line) k.placed line

abbrev pub list_or : Option (List Move) → List Move → List Move
list_or None listed = listed
list_or (Some opened) listed = opened

abbrev pub listed_after : Known → List Move → Mark → List Move
listed_after k listed (ToEngine line) = list_or (opens_list k line) listed
listed_after k listed mark = listed

-- A line of the interface that is too long for the log of a tap may have been any order.
abbrev pub after_long_by : Listener → Known → ℕ → Known
after_long_by listeners.Tap k number = record k { hearing = hearings.NotFrom number }
after_long_by listeners.Bridge k number = k

abbrev pub after_long : Known → ℕ → Known
after_long k number = after_long_by k.listener k number

abbrev pub judging_over : Known → Known
judging_over k = record k { hearing = hearings.Over }

abbrev pub known_after : Known → ℕ → Mark → Known
known_after k number (ToEngine line) = known_after_order k number line
known_after k number (Happens (events.Engine line)) = after_line k (engine_word_in line) line
known_after k number (Happens events.EngineLong) = record k { long = long_lines.Some }
known_after k number (Happens events.IfaceLong) = after_long k number
known_after k number (Happens events.EngineEnd) = judging_over k
known_after k number (Happens events.EngineLost) = judging_over k
known_after k number (Happens events.IfaceEnd) = judging_over k
known_after k number (Happens events.IfaceLost) = judging_over k
known_after k number mark = k

abbrev pub heard : Known → List Move → ℕ → Mark → Conduct
heard k listed number mark =
    record { known = known_after k number mark; listed = listed_after k listed mark }

-- after a mark in the line with this number
abbrev pub conduct_after : Conduct → ℕ → Mark → Conduct
conduct_after c number mark = if is_hearing c.known.hearing then heard c.known c.listed number mark else c

-- what the marks of a log show of an engine, if this one wrote it
abbrev pub conduct : Listener → List Entry → Conduct
conduct listener [] = record { known = nothing_known listener; listed = [] }
conduct listener (entry ∷ log) = conduct_after (conduct listener log) entry.line entry.mark
