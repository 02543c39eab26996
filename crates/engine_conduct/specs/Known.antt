-- What is known of an engine, by the orders that were written to it and by its answers.
use Rattle.std.specs.Prelude.{ℕ, ◌-◌, List, Bool, false, ◌||◌, ◌==◌, nat_lt}
use Rattle.std.specs.Prelude.{if◌then◌else◌, is_some, Option, Some, None}
use Rattle.protocol_tokens.specs.Tokens.{tokens}
use Rattle.chess_board.specs.Position.{Position}
use Rattle.uci_lines.specs.Engine.{engine_message}
use Rattle.session_judge.specs.Crossings.{next_search_number}
use Rattle.session_judge.specs.declared.listener.Listener.{Listener}
use Rattle.session_judge.specs.declared.listener.Listener.TheVariants as listeners
use Rattle.engine_conduct.specs.declared.known.Due.{Due}
use Rattle.engine_conduct.specs.declared.known.Hearing.TheVariants as hearings
use Rattle.engine_conduct.specs.declared.known.LongLines.{LongLines}
use Rattle.engine_conduct.specs.declared.known.LongLines.TheVariants as long_lines
use Rattle.engine_conduct.specs.declared.known.Known.{Known}
use Rattle.engine_conduct.specs.declared.orders.AskedWord.{AskedWord}
use Rattle.engine_conduct.specs.declared.orders.AskedWord.TheVariants as words
use Rattle.engine_conduct.specs.declared.orders.HeardOrder.{HeardOrder}
use Rattle.engine_conduct.specs.declared.orders.HeardOrder.TheVariants as orders
use Rattle.engine_conduct.specs.declared.orders.Castling.{Castling}
use Rattle.engine_conduct.specs.declared.orders.Castling.TheVariants as castlings
use Rattle.engine_conduct.specs.declared.orders.PlayedGame.TheVariants as games
use Rattle.engine_conduct.specs.declared.orders.GameChoice.{GameChoice}
use Rattle.engine_conduct.specs.declared.orders.GameChoice.TheVariants as choices
use Rattle.engine_conduct.specs.declared.search.OpenSearch.{OpenSearch}
use Rattle.engine_conduct.specs.declared.search.OpenSearch.TheVariants as searches
use Rattle.engine_conduct.specs.declared.words.EngineWord.{EngineWord}
use Rattle.engine_conduct.specs.declared.words.EngineWord.TheVariants as engines
use Rattle.engine_conduct.specs.Orders.{declared_set, order_heard, position_placed, variant_played, variant_set}
use Rattle.engine_conduct.specs.Searches.{began_search, lost_place, search_hit, search_place, search_stopped}

-- one more, up to the last number
abbrev pub more : ℕ → ℕ
more n = next_search_number n

abbrev pub fewer : ℕ → ℕ
fewer n = n - 1

-- An order asks for an answer.
abbrev pub asked_boot : Due → Due
asked_boot due = record { boots = more due.boots; readies = due.readies; answers = due.answers }

abbrev pub asked_ready : Due → Due
asked_ready due = record { boots = due.boots; readies = more due.readies; answers = due.answers }

abbrev pub asked_search : Due → Due
asked_search due = record { boots = due.boots; readies = due.readies; answers = more due.answers }

-- An answer is one less that is due.
abbrev pub told_boot : Due → Due
told_boot due = record { boots = fewer due.boots; readies = due.readies; answers = due.answers }

abbrev pub told_ready : Due → Due
told_ready due = record { boots = due.boots; readies = fewer due.readies; answers = due.answers }

abbrev pub told_search : Due → Due
told_search due = record { boots = due.boots; readies = due.readies; answers = fewer due.answers }

-- before the first mark
abbrev pub nothing_known : Listener → Known
nothing_known listener = record {
  listener = listener;
  hearing = hearings.Judged;
  long = long_lines.None;
  due = record { boots = 0; readies = 0; answers = 0 };
  castling = castlings.Usual;
  game = games.Chess;
  placed = None;
  search = searches.None;
  unplaced = 0;
}

-- ORDERS

-- Chess960 is on by the default of an option. Behind an order that set the option it is not known
-- which of both holds.
abbrev pub castling_declared : Castling → Castling
castling_declared castlings.Usual = castlings.Declared
castling_declared castlings.Declared = castlings.Declared
castling_declared castling = castlings.Unclear

abbrev pub game_chosen : Known → GameChoice → Known
game_chosen k (choices.Castling castling) = record k { castling = castling }
game_chosen k choices.Declared = record k { castling = castling_declared k.castling }
game_chosen k (choices.Game game) = record k { game = game }

-- A choice of the game leaves no position, and none to a search.
abbrev pub replaced : Known → GameChoice → Known
replaced k choice = record (game_chosen k choice) { placed = None; search = lost_place k.search }

abbrev pub after_choice : Known → Option GameChoice → Known
after_choice k None = k
after_choice k (Some choice) = replaced k choice

-- An engine that is searching may pass over a `position`.
abbrev pub placed_in : Known → List ℕ → Option Position
placed_in k line =
    if k.due.answers == 0 then position_placed (variant_played k.castling k.game) line else None

-- A `go` begins a search at the last position. Where an answer to another is due it is not known
-- which one the engine is in.
abbrev pub search_begun : Known → List ℕ → OpenSearch
search_begun k line = if k.due.answers == 0 then began_search k.placed (tokens line) else searches.Mixed

-- how many searches had no position
abbrev pub unplaced_after : Bool → ℕ → ℕ
unplaced_after has_place n = if has_place then n else more n

abbrev pub known_after_go : Known → List ℕ → Known
known_after_go k line = record k {
  search = search_begun k line;
  unplaced = unplaced_after (is_some (search_place (search_begun k line))) k.unplaced;
  due = asked_search k.due;
}

abbrev pub after_word : Known → AskedWord → List ℕ → Known
after_word k words.Uci line = record k { due = asked_boot k.due }
after_word k words.IsReady line = record k { due = asked_ready k.due }
after_word k words.SetOption line = after_choice k (variant_set line)
after_word k words.NewGame line = record k { placed = None }
after_word k words.Position line = record k { placed = placed_in k line }
after_word k words.Go line = known_after_go k line
after_word k words.Stop line = record k { search = search_stopped k.search }
after_word k words.PonderHit line = record k { search = search_hit k.search }
after_word k words.Quit line = record k { hearing = hearings.Over }
after_word k words.Passing line = k

abbrev pub after_heard_order : Known → ℕ → HeardOrder → List ℕ → Known
after_heard_order k number (orders.Word word) line = after_word k word line
after_heard_order k number orders.Foreign line = record k { hearing = hearings.NotFrom number }
after_heard_order k number orders.Blank line = k

-- after an order, in the line with this number
abbrev pub known_after_order : Known → ℕ → List ℕ → Known
known_after_order k number line = after_heard_order k number (order_heard line) line

-- ANSWERS

-- The default of an option chooses the game too, while options are declared.
abbrev pub known_after_declared : Known → Option GameChoice → Known
known_after_declared k choice = if nat_lt 0 k.due.boots then after_choice k choice else k

-- No search is left where no answer is due.
abbrev pub search_left : ℕ → OpenSearch → OpenSearch
search_left answers search = if answers == 0 then searches.None else search

abbrev pub after_best : Known → Known
after_best k = record k {
  search = search_left (fewer k.due.answers) k.search;
  due = told_search k.due;
}

abbrev pub after_engine_word : Known → EngineWord → List ℕ → Known
after_engine_word k engines.UciOk line = record k { due = told_boot k.due }
after_engine_word k engines.ReadyOk line = record k { due = told_ready k.due }
after_engine_word k engines.Best line = after_best k
after_engine_word k engines.Option line = known_after_declared k (declared_set (engine_message line))
after_engine_word k word line = k

abbrev pub after_line : Known → Option EngineWord → List ℕ → Known
after_line k None line = k
after_line k (Some word) line = after_engine_word k word line

-- THE END

abbrev pub is_any_due : Due → Bool
is_any_due due = nat_lt 0 due.boots || nat_lt 0 due.readies || nat_lt 0 due.answers

abbrev pub gone_by : Listener → LongLines → Due → Bool
gone_by listeners.Bridge long_lines.None due = is_any_due due
gone_by listener long due = false

-- Gone: the engine ends while an answer is due. Behind a tap it may have been cut off, and a long line
-- may have been the answer.
abbrev pub leaves_early : Known → Bool
leaves_early k = gone_by k.listener k.long k.due
