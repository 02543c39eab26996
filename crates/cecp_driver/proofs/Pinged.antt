-- The number of each ping that is written has nine digits at most.
use Rattle.std.proofs.Common.{◌≡◌, ℕ, ◌+◌, ◌<◌, ◌^◌, Bool, true, false, cond, ltb, ◌&&◌, Option, Some, None, refl, arith}
use Rattle.std.proofs.lemmas.Bool.Decides.{nat_tests}
use Rattle.chess_board.specs.declared.board.Move.{Move}
use Rattle.protocol_tokens.specs.declared.kinds.GoKind.{GoKind}
use Rattle.protocol_tokens.specs.declared.kinds.GoKind.TheVariants as kinds
use Rattle.driver_state_machine.specs.declared.words.GoClocks.{GoClocks}
use Rattle.driver_state_machine.specs.declared.words.Thought.{Thought}
use Rattle.driver_state_machine.specs.declared.words.OpenSearch.{OpenSearch}
use Rattle.driver_state_machine.specs.declared.words.AfterAnalysis.{AfterAnalysis}
use Rattle.driver_state_machine.specs.declared.words.AfterAnalysis.TheVariants.{Answer, Play}
use Rattle.driver_state_machine.specs.declared.words.Phase.{Phase}
use Rattle.driver_state_machine.specs.declared.words.Phase.TheVariants.{Thinks, Analyses, Rests, Leaves, WaitsToThink, WaitsToAnalyse}
use Rattle.driver_state_machine.specs.declared.words.ToIface.TheVariants as ups
use Rattle.driver_state_machine.specs.declared.words.ToEngine.{ToEngine}
use Rattle.driver_state_machine.specs.declared.words.ToEngine.TheVariants as downs
use Rattle.driver_state_machine.specs.declared.words.BoardChange.TheVariants as boards
use Rattle.driver_state_machine.specs.declared.driver_state.DriverStage.{DriverStage}
use Rattle.driver_state_machine.specs.declared.driver_state.DriverStage.TheVariants as stages
use Rattle.driver_state_machine.specs.declared.driver_state.DriverState.{DriverState}
use Rattle.driver_state_machine.specs.declared.driver_state.DriverTurn.{DriverTurn}
use Rattle.driver_state_machine.specs.declared.driver_state.Reach.{Reach}
use Rattle.driver_state_machine.specs.declared.driver_state.Reach.TheVariants as reaches
use Rattle.driver_state_machine.specs.declared.driver_state.WantedSearch.{WantedSearch}
use Rattle.driver_state_machine.specs.declared.driver_state.DriverCall.{DriverCall}
use Rattle.driver_state_machine.specs.declared.driver_state.DriverCall.TheVariants as calls
use Rattle.driver_state_machine.specs.DriverState.{begin_moveless, hit_resting, thinking_on, reaches_depth, better}
use Rattle.driver_state_machine.specs.DriverState.{driver_turn_of, quiet, next_ping, board_of, closed, pinged, resume_in, without_awaited, is_free, is_open_stage, is_awaited, is_thinking, open_search, stopped, stop_in, hit, hit_by, hit_in, resumed, kept, thought_in, ended_in, without_engine, played_by, opened_by, begin_by, begin_from, begun, quit_at, uci_at, ready_at, after_begin, unless_gone}

-- the number of a ping that is written
abbrev pub PingFits : ToEngine → Type 0
PingFits (downs.Analyse clocks (Some n)) = n < 10 ^ 9
PingFits (downs.Leave n) = n < 10 ^ 9
PingFits (downs.Retreat n) = n < 10 ^ 9
PingFits down = Unit {0}

abbrev Fits : DriverTurn → Type 0
Fits r = PingFits r.action.down

small_by : (b : Bool) (last : ℕ) → ltb last 999999999 ≡ b → cond b (last + 1) 1 < 10 ^ 9
small_by true last e = let low : last < 999999999 = grind (arith, nat_tests) in omega (arith, low)
small_by false last e = omega arith

small : (last : ℕ) → next_ping last < 10 ^ 9
small last = small_by (ltb last 999999999) last refl

stop_phase : (t : DriverState) (s : OpenSearch) (p : Phase) → Fits (stopped t s p)
stop_phase t s (Thinks false) = tt
stop_phase t s (Thinks true) = tt
stop_phase t s Analyses = small t.pings
stop_phase t s Rests = tt
stop_phase t s (Leaves Play) = tt
stop_phase t s (Leaves Answer) = tt
stop_phase t s (WaitsToThink false) = tt
stop_phase t s (WaitsToThink true) = tt
stop_phase t s (WaitsToAnalyse None) = tt
stop_phase t s (WaitsToAnalyse (Some Play)) = tt
stop_phase t s (WaitsToAnalyse (Some Answer)) = tt

stop_fits : (t : DriverState) (o : Option OpenSearch) → Fits (stop_in o t)
stop_fits t None = tt
stop_fits t (Some s) = stop_phase t s s.phase

play_fits : (o : Option ℕ) (t : DriverState) (s : OpenSearch) (c : GoClocks) → Fits (played_by o t s c)
play_fits None t s c = tt
play_fits (Some n) t s c = tt

open_fits : (o : Option ℕ) (t : DriverState) (s : OpenSearch) (c : GoClocks) → Fits (opened_by o t s c)
open_fits None t s c = tt
open_fits (Some n) t s c = tt

rest_fits : (best : Option Move) (t : DriverState) (s : OpenSearch) → Fits (hit_resting best t s)
rest_fits None t s = tt
rest_fits (Some m) t s = play_fits t.awaited t s s.clocks

hit_phase : (t : DriverState) (s : OpenSearch) (p : Phase) → Fits (hit t s p)
hit_phase t s Analyses = small t.pings
hit_phase t s Rests = rest_fits s.kept t s
hit_phase t s (WaitsToAnalyse None) = tt
hit_phase t s (WaitsToAnalyse (Some next)) = tt
hit_phase t s (Thinks at_once) = tt
hit_phase t s (Leaves next) = tt
hit_phase t s (WaitsToThink at_once) = tt

hit_kind : (t : DriverState) (s : OpenSearch) (kind : GoKind) → Fits (hit_by kind t s)
hit_kind t s kinds.Ponder = hit_phase t s s.phase
hit_kind t s kinds.Move = tt
hit_kind t s kinds.Analyse = tt

hit_fits : (t : DriverState) (o : Option OpenSearch) → Fits (hit_in o t)
hit_fits t None = tt
hit_fits t (Some s) = hit_kind t s s.kind

begin_fits : (reach : Reach) (kind : GoKind) (t : DriverState) (s : OpenSearch) (c : GoClocks) → Fits (begin_by reach kind t s c)
begin_fits reaches.Nothing kind t s c = tt
begin_fits reaches.Play kinds.Move t s c = play_fits t.awaited t s c
begin_fits reaches.Play kinds.Ponder t s c = tt
begin_fits reaches.Play kinds.Analyse t s c = tt
begin_fits reaches.Analyse kinds.Move t s c = play_fits t.awaited t s c
begin_fits reaches.Analyse kinds.Ponder t s c = open_fits t.awaited t s c
begin_fits reaches.Analyse kinds.Analyse t s c = open_fits t.awaited t s c

moveless_fits : (kind : GoKind) (t : DriverState) (w : WantedSearch) → Fits (begin_moveless kind t w)
moveless_fits kinds.Move t w = tt
moveless_fits kinds.Ponder t w = tt
moveless_fits kinds.Analyse t w = tt

first_fits : (first : Option Move) (ended : Bool) (t : DriverState) (w : WantedSearch) → Fits (begin_from first ended t w)
first_fits None true t w = tt
first_fits None false t w = moveless_fits w.kind t w
first_fits (Some m) true t w = tt
first_fits (Some m) false t w = begin_fits w.reach w.kind t (begun w (Some m) Rests) w.clocks

go_fits : (free : Bool) (t : DriverState) (w : WantedSearch) → Fits (cond free (after_begin t w) (quiet t))
go_fits true t w = first_fits w.first t.gone t w
go_fits false t w = tt

resume_phase : (t : DriverState) (s : OpenSearch) (p : Phase) → Fits (resumed t s p)
resume_phase t s (Leaves Answer) = tt
resume_phase t s (Leaves Play) = tt
resume_phase t s (WaitsToThink at_once) = tt
resume_phase t s (WaitsToAnalyse None) = tt
resume_phase t s (WaitsToAnalyse (Some next)) = small t.pings
resume_phase t s (Thinks at_once) = tt
resume_phase t s Analyses = tt
resume_phase t s Rests = tt

resume_fits : (t : DriverState) (o : Option OpenSearch) → Fits (resume_in o t)
resume_fits t None = tt
resume_fits t (Some s) = resume_phase t s s.phase

pong_fits : (b : Bool) (t u : DriverState) (o : Option OpenSearch) → Fits (cond b (resume_in o u) (quiet t))
pong_fits true t u o = resume_fits u o
pong_fits false t u o = tt

think_fits : (b : Bool) (t : DriverState) (s : OpenSearch) (thought : Thought) → Fits (thinking_on b t s thought)
think_fits true t s thought = tt
think_fits false t s thought = tt

keep_phase : (t : DriverState) (s : OpenSearch) (p : Phase) (thought : Thought) → Fits (kept t s p thought)
keep_phase t s (Thinks false) thought = think_fits (reaches_depth s.clocks thought) t (better s thought.best) thought
keep_phase t s (Thinks true) thought = tt
keep_phase t s Analyses thought = tt
keep_phase t s Rests thought = tt
keep_phase t s (Leaves next) thought = tt
keep_phase t s (WaitsToThink at_once) thought = tt
keep_phase t s (WaitsToAnalyse later) thought = tt

thought_fits : (t : DriverState) (o : Option OpenSearch) (thought : Thought) → Fits (thought_in o t thought)
thought_fits t None thought = tt
thought_fits t (Some s) thought = keep_phase t s s.phase thought

ended_fits : (t : DriverState) (o : Option OpenSearch) → Fits (ended_in o t)
ended_fits t None = tt
ended_fits t (Some s) = tt

gone_fits : (b : Bool) (down : ToEngine) → PingFits down → PingFits (unless_gone b down)
gone_fits true down h = tt
gone_fits false down h = h

quit_fits : (t : DriverState) (stage : DriverStage) → Fits (quit_at t stage)
quit_fits t stages.Fresh = gone_fits t.gone downs.Quit tt
quit_fits t stages.Open = gone_fits t.gone downs.Quit tt
quit_fits t stages.Over = tt

uci_fits : (t : DriverState) (stage : DriverStage) → Fits (uci_at t stage)
uci_fits t stages.Fresh = gone_fits t.gone downs.Greeting tt
uci_fits t stages.Open = tt
uci_fits t stages.Over = tt

ready_fits : (t : DriverState) (stage : DriverStage) → Fits (ready_at t stage)
ready_fits t stages.Fresh = tt
ready_fits t stages.Open = tt
ready_fits t stages.Over = tt

moved_fits : (b : Bool) (t : DriverState) (shown : Option Move) → Fits (cond b (record { talk = closed t; action = record { up = ups.Best shown; down = downs.Nothing; board = board_of shown } }) (quiet t))
moved_fits true t shown = tt
moved_fits false t shown = tt

resigned_fits : (b : Bool) (t : DriverState) → Fits (cond b (record { talk = pinged (closed t); action = record { up = ups.Best None; down = downs.Retreat (next_ping t.pings); board = boards.Lost } }) (quiet t))
resigned_fits true t = small t.pings
resigned_fits false t = tt

pub ping_fits : (t : DriverState) (c : DriverCall) → Fits (driver_turn_of t c)
unfolding driver_turn_of
ping_fits t calls.Other = tt
ping_fits t calls.Quit = quit_fits t t.stage
ping_fits t calls.Uci = uci_fits t t.stage
ping_fits t calls.IsReady = ready_fits t t.stage
ping_fits t (calls.Go w) = go_fits (is_free t) t w
ping_fits t calls.Stop = stop_fits t (open_search t)
ping_fits t calls.PonderHit = hit_fits t (open_search t)
ping_fits t (calls.Moved shown) = moved_fits (is_thinking t) t shown
ping_fits t calls.Resigned = resigned_fits (is_thinking t) t
ping_fits t (calls.Pong n) = pong_fits (is_open_stage t.stage && is_awaited t.awaited n) t (without_awaited t) t.search
ping_fits t (calls.Thought thought) = thought_fits t (open_search t) thought
ping_fits t calls.Ended = ended_fits (without_engine t) (open_search t)
