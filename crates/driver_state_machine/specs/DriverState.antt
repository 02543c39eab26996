-- The effect of each call.
use Rattle.std.specs.Prelude.{ℕ, ◌+◌, nat_lt, nat_le, ◌==◌, if◌then◌else◌, Bool}
use Rattle.std.specs.Prelude.{true, false, not, ◌&&◌, Option, Some, None}
use Rattle.chess_board.specs.declared.board.Move.{Move}
use Rattle.protocol_tokens.specs.declared.kinds.GoKind.{GoKind}
use Rattle.protocol_tokens.specs.declared.kinds.GoKind.TheVariants as kinds
use Rattle.driver_state_machine.specs.declared.words.GoClocks.{GoClocks}
use Rattle.driver_state_machine.specs.declared.words.Thought.{Thought}
use Rattle.driver_state_machine.specs.declared.words.OpenSearch.{OpenSearch}
use Rattle.driver_state_machine.specs.declared.words.AfterAnalysis.{AfterAnalysis}
use Rattle.driver_state_machine.specs.declared.words.AfterAnalysis.TheVariants.{Answer, Play}
use Rattle.driver_state_machine.specs.declared.words.Phase.{Phase}
use Rattle.driver_state_machine.specs.declared.words.Phase.TheVariants.{Thinks, Analyses, Rests, Leaves}
use Rattle.driver_state_machine.specs.declared.words.Phase.TheVariants.{WaitsToThink, WaitsToAnalyse}
use Rattle.driver_state_machine.specs.declared.words.ToIface.{ToIface}
use Rattle.driver_state_machine.specs.declared.words.ToIface.TheVariants as ups
use Rattle.driver_state_machine.specs.declared.words.ToEngine.{ToEngine}
use Rattle.driver_state_machine.specs.declared.words.ToEngine.TheVariants as downs
use Rattle.driver_state_machine.specs.declared.words.BoardChange.{BoardChange}
use Rattle.driver_state_machine.specs.declared.words.BoardChange.TheVariants as boards
use Rattle.driver_state_machine.specs.declared.words.DriverAction.{DriverAction}
use Rattle.driver_state_machine.specs.declared.driver_state.DriverStage.{DriverStage}
use Rattle.driver_state_machine.specs.declared.driver_state.DriverStage.TheVariants as stages
use Rattle.driver_state_machine.specs.declared.driver_state.DriverState.{DriverState}
use Rattle.driver_state_machine.specs.declared.driver_state.DriverTurn.{DriverTurn}
use Rattle.driver_state_machine.specs.declared.driver_state.Reach.{Reach}
use Rattle.driver_state_machine.specs.declared.driver_state.Reach.TheVariants as reaches
use Rattle.driver_state_machine.specs.declared.driver_state.WantedSearch.{WantedSearch}
use Rattle.driver_state_machine.specs.declared.driver_state.DriverCall.{DriverCall}
use Rattle.driver_state_machine.specs.declared.driver_state.DriverCall.TheVariants as calls
use Rattle.driver_state_machine.specs.declared.driver_state.TheConstants.{LAST_PING}

-- TURNS

abbrev pub first_talk : DriverState
first_talk = record { stage = stages.Fresh; gone = false; awaited = None; pings = 0; search = None }

-- the knowledge of the engine's game stays, except for a position that is set up
abbrev pub give : DriverState → ToIface → ToEngine → DriverTurn
give t up down = record { talk = t; action = record { up = up; down = down; board = boards.Same } }

-- nothing is given
abbrev pub quiet : DriverState → DriverTurn
quiet t = give t ups.Nothing downs.Nothing

-- pings count from 1, and from 1 again after the last number
abbrev pub next_ping : ℕ → ℕ
next_ping last = if nat_lt last LAST_PING then last + 1 else 1

abbrev pub pinged : DriverState → DriverState
pinged t = record {
  stage = t.stage;
  gone = t.gone;
  awaited = Some (next_ping t.pings);
  pings = next_ping t.pings;
  search = t.search;
}

abbrev pub with_search : DriverState → Option OpenSearch → DriverState
with_search t search = record {
  stage = t.stage;
  gone = t.gone;
  awaited = t.awaited;
  pings = t.pings;
  search = search;
}

abbrev pub at_phase : DriverState → OpenSearch → Phase → DriverState
at_phase t s phase =
    with_search t (Some (record { kind = s.kind; clocks = s.clocks; kept = s.kept; phase = phase }))

abbrev pub closed : DriverState → DriverState
closed t = with_search t None

-- the open search, while the interface may order
abbrev pub search_at : DriverStage → Option OpenSearch → Option OpenSearch
search_at stages.Open search = search
search_at stages.Fresh search = None
search_at stages.Over search = None

abbrev pub open_search : DriverState → Option OpenSearch
open_search t = search_at t.stage t.search

-- a `go` and a `position` are accepted after `uci`, before `quit`, if no search is open
abbrev pub is_free_at : DriverStage → Option OpenSearch → Bool
is_free_at stages.Open None = true
is_free_at stages.Open (Some s) = false
is_free_at stages.Fresh search = false
is_free_at stages.Over search = false

abbrev pub is_free : DriverState → Bool
is_free t = is_free_at t.stage t.search

-- ORDERS

-- nothing is written to an engine that has ended
abbrev pub unless_gone : Bool → ToEngine → ToEngine
unless_gone gone down = if gone then downs.Nothing else down

abbrev pub at_stage : DriverState → DriverStage → DriverState
at_stage t stage = record {
  stage = stage;
  gone = t.gone;
  awaited = t.awaited;
  pings = t.pings;
  search = t.search;
}

abbrev pub quit_at : DriverState → DriverStage → DriverTurn
quit_at t stages.Over = quiet t
quit_at t stage = give (at_stage t stages.Over) ups.Nothing (unless_gone t.gone downs.Quit)

-- `quit` is accepted once
abbrev pub driver_after_quit : DriverState → DriverTurn
driver_after_quit t = quit_at t t.stage

abbrev pub uci_at : DriverState → DriverStage → DriverTurn
uci_at t stages.Fresh =
    give (at_stage t stages.Open) ups.Nothing (unless_gone t.gone downs.Greeting)
uci_at t stage = quiet t

-- `uci` is accepted once
abbrev pub after_uci : DriverState → DriverTurn
after_uci t = uci_at t t.stage

abbrev pub ready_at : DriverState → DriverStage → DriverTurn
ready_at t stages.Open = give t ups.Ready downs.Nothing
ready_at t stage = quiet t

abbrev pub after_ready : DriverState → DriverTurn
after_ready t = ready_at t t.stage

-- BEGIN

abbrev pub begun : WantedSearch → Option Move → Phase → OpenSearch
begun w kept phase = record { kind = w.kind; clocks = w.clocks; kept = kept; phase = phase }

-- The engine is set to think, or will be once it has answered the ping that is awaited.
abbrev pub played_by : Option ℕ → DriverState → OpenSearch → GoClocks → DriverTurn
played_by None t s clocks = give (at_phase t s (Thinks false)) ups.Nothing (downs.Play clocks false)
played_by (Some n) t s clocks = quiet (at_phase t s (WaitsToThink false))

abbrev pub played : DriverState → OpenSearch → GoClocks → DriverTurn
played t s clocks = played_by t.awaited t s clocks

-- The engine is set to analyse, or will be once it has answered the ping that is awaited.
abbrev pub opened_by : Option ℕ → DriverState → OpenSearch → GoClocks → DriverTurn
opened_by None t s clocks = give (at_phase t s Analyses) ups.Nothing (downs.Analyse clocks None)
opened_by (Some n) t s clocks = quiet (at_phase t s (WaitsToAnalyse None))

abbrev pub opened : DriverState → OpenSearch → GoClocks → DriverTurn
opened t s clocks = opened_by t.awaited t s clocks

-- the `go` is answered at once
abbrev pub turn_without_move : DriverState → DriverTurn
turn_without_move t = give t (ups.Best None) downs.Nothing

abbrev pub begin_by : Reach → GoKind → DriverState → OpenSearch → GoClocks → DriverTurn
begin_by reaches.Nothing kind t s clocks = turn_without_move t
begin_by reaches.Play kinds.Move t s clocks = played t s clocks
begin_by reaches.Play kind t s clocks = quiet (at_phase t s Rests)
begin_by reaches.Analyse kinds.Move t s clocks = played t s clocks
begin_by reaches.Analyse kind t s clocks = opened t s clocks

-- A `go` without a legal move is answered at once, but an analysis once the interface ends it.
abbrev pub begin_moveless : GoKind → DriverState → WantedSearch → DriverTurn
begin_moveless kinds.Move t w = turn_without_move t
begin_moveless kind t w = quiet (at_phase t (begun w None Rests) Rests)

abbrev pub begin_from : Option Move → Bool → DriverState → WantedSearch → DriverTurn
begin_from None true t w = turn_without_move t
begin_from None false t w = begin_moveless w.kind t w
begin_from (Some kept) true t w = turn_without_move t
begin_from (Some kept) false t w = begin_by w.reach w.kind t (begun w (Some kept) Rests) w.clocks

abbrev pub after_begin : DriverState → WantedSearch → DriverTurn
after_begin t w = begin_from w.first t.gone t w

abbrev pub after_go : DriverState → WantedSearch → DriverTurn
after_go t w = if is_free t then after_begin t w else quiet t

-- STOP, PONDERHIT

-- `exit` and a ping are written
abbrev pub left : DriverState → OpenSearch → AfterAnalysis → DriverTurn
left t s next =
    give (at_phase (pinged t) s (Leaves next)) ups.Nothing (downs.Leave (next_ping t.pings))

abbrev pub stopped : DriverState → OpenSearch → Phase → DriverTurn
stopped t s (Thinks false) = give (at_phase t s (Thinks true)) ups.Nothing downs.OrderMoveNow
stopped t s (Thinks true) = quiet t
stopped t s Analyses = left t s Answer
stopped t s Rests = give (closed t) (ups.Best s.kept) downs.Nothing
stopped t s (Leaves Play) = quiet (at_phase t s (Leaves Answer))
stopped t s (Leaves Answer) = quiet t
stopped t s (WaitsToThink false) = quiet (at_phase t s (WaitsToThink true))
stopped t s (WaitsToThink true) = quiet t
stopped t s (WaitsToAnalyse None) = quiet (at_phase t s (WaitsToAnalyse (Some Answer)))
stopped t s (WaitsToAnalyse (Some Play)) = quiet (at_phase t s (WaitsToAnalyse (Some Answer)))
stopped t s (WaitsToAnalyse (Some Answer)) = quiet t

abbrev pub stop_in : Option OpenSearch → DriverState → DriverTurn
stop_in None t = quiet t
stop_in (Some s) t = stopped t s s.phase

abbrev pub driver_after_stop : DriverState → DriverTurn
driver_after_stop t = stop_in (open_search t) t

-- An analysis of which the engine knows nothing gets its `ponderhit`.
abbrev pub hit_resting : Option Move → DriverState → OpenSearch → DriverTurn
hit_resting None t s = give (closed t) (ups.Best None) downs.Nothing
hit_resting (Some kept) t s = played t s s.clocks

abbrev pub hit : DriverState → OpenSearch → Phase → DriverTurn
hit t s Analyses = left t s Play
hit t s Rests = hit_resting s.kept t s
hit t s (WaitsToAnalyse None) = quiet (at_phase t s (WaitsToAnalyse (Some Play)))
hit t s phase = quiet t

abbrev pub hit_by : GoKind → DriverState → OpenSearch → DriverTurn
hit_by kinds.Ponder t s = hit t s s.phase
hit_by kind t s = quiet t

abbrev pub hit_in : Option OpenSearch → DriverState → DriverTurn
hit_in None t = quiet t
hit_in (Some s) t = hit_by s.kind t s

abbrev pub after_ponderhit : DriverState → DriverTurn
after_ponderhit t = hit_in (open_search t) t

-- WHAT THE ENGINE SAYS

abbrev pub board_of : Option Move → BoardChange
board_of None = boards.Lost
board_of (Some m) = boards.Moved m

-- true if the engine thinks on its move
abbrev pub engine_thinks : Phase → Bool
engine_thinks (Thinks at_once) = true
engine_thinks phase = false

abbrev pub thinks_in : Option OpenSearch → Bool
thinks_in None = false
thinks_in (Some s) = engine_thinks s.phase

abbrev pub is_thinking : DriverState → Bool
is_thinking t = thinks_in (open_search t)

abbrev pub after_moved : DriverState → Option Move → DriverTurn
after_moved t shown =
    if is_thinking t
    then record {
      talk = closed t;
      action = record { up = ups.Best shown; down = downs.Nothing; board = board_of shown };
    }
    else quiet t

abbrev pub after_resigned : DriverState → DriverTurn
after_resigned t =
    if is_thinking t
    then record {
      talk = pinged (closed t);
      action = record {
        up = ups.Best None;
        down = downs.Retreat (next_ping t.pings);
        board = boards.Lost;
      };
    }
    else quiet t

abbrev pub resumed : DriverState → OpenSearch → Phase → DriverTurn
resumed t s (Leaves Answer) = give (closed t) (ups.Best s.kept) downs.Nothing
resumed t s (Leaves Play) = give (at_phase t s (Thinks false)) ups.Nothing (downs.Resume s.clocks)
resumed t s (WaitsToThink at_once) =
    give (at_phase t s (Thinks at_once)) ups.Nothing (downs.Play s.clocks at_once)
resumed t s (WaitsToAnalyse None) =
    give (at_phase t s Analyses) ups.Nothing (downs.Analyse s.clocks None)
resumed t s (WaitsToAnalyse (Some next)) =
    give (at_phase (pinged t) s (Leaves next)) ups.Nothing
    (downs.Analyse s.clocks (Some (next_ping t.pings)))
resumed t s phase = quiet t

abbrev pub resume_in : Option OpenSearch → DriverState → DriverTurn
resume_in None t = quiet t
resume_in (Some s) t = resumed t s s.phase

abbrev pub is_awaited : Option ℕ → ℕ → Bool
is_awaited None n = false
is_awaited (Some ping) n = ping == n

abbrev pub without_awaited : DriverState → DriverState
without_awaited t = record {
  stage = t.stage;
  gone = t.gone;
  awaited = None;
  pings = t.pings;
  search = t.search;
}

abbrev pub is_open_stage : DriverStage → Bool
is_open_stage stages.Open = true
is_open_stage stages.Fresh = false
is_open_stage stages.Over = false

abbrev pub after_pong : DriverState → ℕ → DriverTurn
after_pong t n =
    if is_open_stage t.stage && is_awaited t.awaited n then resume_in t.search (without_awaited t)
    else quiet t

abbrev pub better : OpenSearch → Move → OpenSearch
better s m = record { kind = s.kind; clocks = s.clocks; kept = Some m; phase = s.phase }

-- true if a thinking line has the depth that a `go` asks for, or more
abbrev pub reaches_depth : GoClocks → Thought → Bool
reaches_depth clocks thought = not (clocks.depth == 0) && nat_le clocks.depth thought.depth

-- The engine thinks on, and is to move now if it has reached the depth of its `go`.
abbrev pub thinking_on : Bool → DriverState → OpenSearch → Thought → DriverTurn
thinking_on true t s thought = give (at_phase t s (Thinks true)) (ups.Info thought) downs.OrderMoveNow
thinking_on false t s thought = give (at_phase t s (Thinks false)) (ups.Info thought) downs.Nothing

abbrev pub kept : DriverState → OpenSearch → Phase → Thought → DriverTurn
kept t s (Thinks false) thought =
    thinking_on (reaches_depth s.clocks thought) t (better s thought.best) thought
kept t s (Thinks true) thought =
    give (at_phase t (better s thought.best) (Thinks true)) (ups.Info thought) downs.Nothing
kept t s Analyses thought =
    give (at_phase t (better s thought.best) Analyses) (ups.Info thought) downs.Nothing
kept t s Rests thought =
    give (at_phase t (better s thought.best) Rests) (ups.Info thought) downs.Nothing
kept t s phase thought = quiet t

abbrev pub thought_in : Option OpenSearch → DriverState → Thought → DriverTurn
thought_in None t thought = quiet t
thought_in (Some s) t thought = kept t s s.phase thought

abbrev pub after_thought : DriverState → Thought → DriverTurn
after_thought t thought = thought_in (open_search t) t thought

abbrev pub without_engine : DriverState → DriverState
without_engine t = record {
  stage = t.stage;
  gone = true;
  awaited = t.awaited;
  pings = t.pings;
  search = t.search;
}

abbrev pub ended_in : Option OpenSearch → DriverState → DriverTurn
ended_in None t = quiet t
ended_in (Some s) t = give (closed t) (ups.Best None) downs.Nothing

abbrev pub after_ended : DriverState → DriverTurn
after_ended t = ended_in (open_search t) (without_engine t)

-- the outcome of a call
unfoldable pub driver_turn_of : DriverState → DriverCall → DriverTurn
driver_turn_of t calls.Other = quiet t
driver_turn_of t calls.Quit = driver_after_quit t
driver_turn_of t calls.Uci = after_uci t
driver_turn_of t calls.IsReady = after_ready t
driver_turn_of t (calls.Go wanted) = after_go t wanted
driver_turn_of t calls.Stop = driver_after_stop t
driver_turn_of t calls.PonderHit = after_ponderhit t
driver_turn_of t (calls.Moved shown) = after_moved t shown
driver_turn_of t calls.Resigned = after_resigned t
driver_turn_of t (calls.Pong n) = after_pong t n
driver_turn_of t (calls.Thought thought) = after_thought t thought
driver_turn_of t calls.Ended = after_ended t
