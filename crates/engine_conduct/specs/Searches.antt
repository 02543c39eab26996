-- The search whose answer is due (UCI, April 2006, "go").
use Rattle.std.specs.Prelude.{ℕ, List, Bool, true, false, ◌||◌, if◌then◌else◌, Option, Some, None}
use Rattle.chess_board.specs.Position.{Position}
use Rattle.engine_conduct.specs.declared.search.Pondering.{Pondering}
use Rattle.engine_conduct.specs.declared.search.Pondering.TheVariants as ponderings
use Rattle.engine_conduct.specs.declared.search.SearchEnd.{SearchEnd}
use Rattle.engine_conduct.specs.declared.search.SearchEnd.TheVariants as search_ends
use Rattle.engine_conduct.specs.declared.search.OpenSearch.{OpenSearch}
use Rattle.engine_conduct.specs.declared.search.OpenSearch.TheVariants as searches
use Rattle.engine_conduct.specs.Orders.{is_unlimited, begins_pondering}

abbrev pub pondering_of : List (List ℕ) → Pondering
pondering_of ts = if begins_pondering ts then ponderings.Open else ponderings.No

abbrev pub search_end_of : List (List ℕ) → SearchEnd
search_end_of ts = if is_unlimited ts then search_ends.Stop else search_ends.Own

-- a search at a position, if there is one, by the tokens of its `go`
abbrev pub began_search : Option Position → List (List ℕ) → OpenSearch
began_search at ts =
    searches.Alone (record { at = at; pondering = pondering_of ts; end = search_end_of ts })

-- `stop`: "stop calculating as soon as possible"
abbrev pub stopped_in : Pondering → Pondering
stopped_in ponderings.Open = ponderings.Stopped
stopped_in p = p

abbrev pub search_stopped : OpenSearch → OpenSearch
search_stopped (searches.Alone s) =
    searches.Alone (record { at = s.at; pondering = stopped_in s.pondering; end = search_ends.Own })
search_stopped s = s

-- `ponderhit`: "the user has played the expected move"; of a search that was stopped before it counts
-- for nothing
abbrev pub pondering_hit : Pondering → Pondering
pondering_hit ponderings.Open = ponderings.Hit
pondering_hit p = p

abbrev pub search_hit : OpenSearch → OpenSearch
search_hit (searches.Alone s) =
    searches.Alone (record { at = s.at; pondering = pondering_hit s.pondering; end = s.end })
search_hit s = s

-- another game may have been chosen
abbrev pub lost_place : OpenSearch → OpenSearch
lost_place (searches.Alone s) =
    searches.Alone (record { at = None; pondering = s.pondering; end = s.end })
lost_place s = s

abbrev pub is_open_pondering : Pondering → Bool
is_open_pondering ponderings.Open = true
is_open_pondering p = false

abbrev pub goes_to_stop : SearchEnd → Bool
goes_to_stop search_ends.Stop = true
goes_to_stop end = false

-- A search that ponders goes on until `stop` or `ponderhit`, an infinite one until `stop`.
abbrev pub is_bound : OpenSearch → Bool
is_bound (searches.Alone s) = is_open_pondering s.pondering || goes_to_stop s.end
is_bound s = false

-- A search that does not ponder is judged by its moves, and one that does only after `ponderhit`.
abbrev pub is_judged : Pondering → Bool
is_judged ponderings.No = true
is_judged ponderings.Hit = true
is_judged p = false

abbrev pub place_by : Option Position → Pondering → Option (Position × Pondering)
place_by None p = None
place_by (Some at) p = Some (at, p)

abbrev pub search_place : OpenSearch → Option (Position × Pondering)
search_place (searches.Alone s) = place_by s.at s.pondering
search_place s = None
