-- Each accepted `go` has its one answer.
use Rattle.std.proofs.Common.{◌≡◌, ℕ, ◌+◌, Bool, true, false, cond, ◌&&◌, List, [], ◌∷◌, Option, Some, None, refl, sym, ap, arith}
use Rattle.chess_board.specs.declared.board.Move.{Move}
use Rattle.protocol_tokens.specs.declared.kinds.GoKind.{GoKind}
use Rattle.protocol_tokens.specs.declared.kinds.GoKind.TheVariants as kinds
use Rattle.driver_state_machine.specs.declared.words.GoClocks.{GoClocks}
use Rattle.driver_state_machine.specs.declared.words.Thought.{Thought}
use Rattle.driver_state_machine.specs.declared.words.OpenSearch.{OpenSearch}
use Rattle.driver_state_machine.specs.declared.words.AfterAnalysis.{AfterAnalysis}
use Rattle.driver_state_machine.specs.declared.words.AfterAnalysis.TheVariants.{Answer, Play}
use Rattle.driver_state_machine.specs.declared.words.Phase.{Phase}
use Rattle.driver_state_machine.specs.declared.words.Phase.TheVariants.{Thinks, Analyses, Rests, Leaves, WaitsToThink, WaitsToAnalyse}
use Rattle.driver_state_machine.specs.declared.words.ToIface.TheVariants as ups
use Rattle.driver_state_machine.specs.declared.words.ToEngine.TheVariants as downs
use Rattle.driver_state_machine.specs.declared.words.BoardChange.TheVariants as boards
use Rattle.driver_state_machine.specs.declared.driver_state.DriverStage.{DriverStage}
use Rattle.driver_state_machine.specs.declared.driver_state.DriverStage.TheVariants as stages
use Rattle.driver_state_machine.specs.declared.driver_state.DriverState.{DriverState}
use Rattle.driver_state_machine.specs.declared.driver_state.DriverTurn.{DriverTurn}
use Rattle.driver_state_machine.specs.declared.driver_state.Reach.{Reach}
use Rattle.driver_state_machine.specs.declared.driver_state.Reach.TheVariants as reaches
use Rattle.driver_state_machine.specs.declared.driver_state.WantedSearch.{WantedSearch}
use Rattle.driver_state_machine.specs.declared.driver_state.DriverCall.{DriverCall}
use Rattle.driver_state_machine.specs.declared.driver_state.DriverCall.TheVariants as calls
use Rattle.driver_state_machine.specs.DriverState.{driver_turn_of, quiet, engine_thinks, closed, board_of, pinged, next_ping, resume_in, is_free_at, is_awaited, without_awaited, stopped, hit, hit_by, resumed, kept, played, opened, played_by, opened_by, begin_by, begin_from, begun, after_begin, after_go, driver_after_stop, after_ponderhit, after_pong, after_thought, after_moved, after_resigned, after_ended, driver_after_quit, after_uci, after_ready, is_open_stage, begin_moveless, hit_resting, thinking_on, reaches_depth, better}
use Rattle.driver_state_machine.specs.Laws.{state_after_calls, gos, bestmoves_given, one_if, is_accepted, is_bestmove, open_count, AnsweredOnce}

-- so many were accepted, and what was open is answered or still open
abbrev pub Counted : ℕ → Option OpenSearch → DriverTurn → Type 0
Counted n before r = n + open_count before ≡ one_if (is_bestmove r.action.up) + open_count r.talk.search

abbrev pub talk_of : DriverStage → Bool → Option ℕ → ℕ → Option OpenSearch → DriverState
talk_of stage gone awaited pings search = record { stage = stage; gone = gone; awaited = awaited; pings = pings; search = search }

same_open : (s : OpenSearch) (search : Option OpenSearch) → Some s ≡ search → 0 + open_count (Some s) ≡ 0 + open_count search
same_open s search e = ap (λ (x : Option OpenSearch). 0 + open_count x) e

stop_phase : (t : DriverState) (s : OpenSearch) (p : Phase) → t.search ≡ Some s → Counted 0 (Some s) (stopped t s p)
stop_phase t s (Thinks false) e = refl
stop_phase t s (Thinks true) e = same_open s t.search (sym e)
stop_phase t s Analyses e = refl
stop_phase t s Rests e = refl
stop_phase t s (Leaves Play) e = refl
stop_phase t s (Leaves Answer) e = same_open s t.search (sym e)
stop_phase t s (WaitsToThink false) e = refl
stop_phase t s (WaitsToThink true) e = same_open s t.search (sym e)
stop_phase t s (WaitsToAnalyse None) e = refl
stop_phase t s (WaitsToAnalyse (Some Play)) e = refl
stop_phase t s (WaitsToAnalyse (Some Answer)) e = same_open s t.search (sym e)

stop_counts : (stage : DriverStage) (gone : Bool) (awaited : Option ℕ) (pings : ℕ) (search : Option OpenSearch) → Counted 0 search (driver_after_stop (talk_of stage gone awaited pings search))
stop_counts stages.Open gone awaited pings None = refl
stop_counts stages.Open gone awaited pings (Some s) = stop_phase (talk_of stages.Open gone awaited pings (Some s)) s s.phase refl
stop_counts stages.Fresh gone awaited pings search = refl
stop_counts stages.Over gone awaited pings search = refl

play_counts : (n : ℕ) (awaited : Option ℕ) (t : DriverState) (s : OpenSearch) (clocks : GoClocks) (before : Option OpenSearch) → n + open_count before ≡ 1 → Counted n before (played_by awaited t s clocks)
play_counts n None t s clocks before e = e
play_counts n (Some ping) t s clocks before e = e

open_counts : (n : ℕ) (awaited : Option ℕ) (t : DriverState) (s : OpenSearch) (clocks : GoClocks) (before : Option OpenSearch) → n + open_count before ≡ 1 → Counted n before (opened_by awaited t s clocks)
open_counts n None t s clocks before e = e
open_counts n (Some ping) t s clocks before e = e

rest_counts : (best : Option Move) (t : DriverState) (s : OpenSearch) → Counted 0 (Some s) (hit_resting best t s)
rest_counts None t s = refl
rest_counts (Some m) t s = play_counts 0 t.awaited t s s.clocks (Some s) refl

hit_phase : (t : DriverState) (s : OpenSearch) (p : Phase) → t.search ≡ Some s → Counted 0 (Some s) (hit t s p)
hit_phase t s Analyses e = refl
hit_phase t s Rests e = rest_counts s.kept t s
hit_phase t s (WaitsToAnalyse None) e = refl
hit_phase t s p e = same_open s t.search (sym e)

hit_kind : (t : DriverState) (s : OpenSearch) (kind : GoKind) → t.search ≡ Some s → Counted 0 (Some s) (hit_by kind t s)
hit_kind t s kinds.Ponder e = hit_phase t s s.phase e
hit_kind t s kinds.Move e = same_open s t.search (sym e)
hit_kind t s kinds.Analyse e = same_open s t.search (sym e)

hit_counts : (stage : DriverStage) (gone : Bool) (awaited : Option ℕ) (pings : ℕ) (search : Option OpenSearch) → Counted 0 search (after_ponderhit (talk_of stage gone awaited pings search))
hit_counts stages.Open gone awaited pings None = refl
hit_counts stages.Open gone awaited pings (Some s) = hit_kind (talk_of stages.Open gone awaited pings (Some s)) s s.kind refl
hit_counts stages.Fresh gone awaited pings search = refl
hit_counts stages.Over gone awaited pings search = refl

resume_phase : (t : DriverState) (s : OpenSearch) (p : Phase) → t.search ≡ Some s → Counted 0 (Some s) (resumed t s p)
resume_phase t s (Leaves Answer) e = refl
resume_phase t s (Leaves Play) e = refl
resume_phase t s (WaitsToThink at_once) e = refl
resume_phase t s (WaitsToAnalyse None) e = refl
resume_phase t s (WaitsToAnalyse (Some next)) e = refl
resume_phase t s p e = same_open s t.search (sym e)

pong_search : (t : DriverState) (search : Option OpenSearch) (b : Bool) (n : ℕ) → t.search ≡ search → Counted 0 search (cond b (resume_in search (without_awaited t)) (quiet t))
pong_search t None true n e = ap (λ (x : Option OpenSearch). 0 + open_count x) (sym e)
pong_search t (Some s) true n e = resume_phase (without_awaited t) s s.phase e
pong_search t search false n e = ap (λ (x : Option OpenSearch). 0 + open_count x) (sym e)

think_counts : (b : Bool) (t : DriverState) (s better : OpenSearch) (thought : Thought) → Counted 0 (Some s) (thinking_on b t better thought)
think_counts true t s better thought = refl
think_counts false t s better thought = refl

keep_phase : (t : DriverState) (s : OpenSearch) (p : Phase) (thought : Thought) → t.search ≡ Some s → Counted 0 (Some s) (kept t s p thought)
keep_phase t s (Thinks false) thought e = think_counts (reaches_depth s.clocks thought) t s (better s thought.best) thought
keep_phase t s (Thinks true) thought e = refl
keep_phase t s Analyses thought e = refl
keep_phase t s Rests thought e = refl
keep_phase t s p thought e = same_open s t.search (sym e)

thought_counts : (stage : DriverStage) (gone : Bool) (awaited : Option ℕ) (pings : ℕ) (search : Option OpenSearch) (thought : Thought) → Counted 0 search (after_thought (talk_of stage gone awaited pings search) thought)
thought_counts stages.Open gone awaited pings None thought = refl
thought_counts stages.Open gone awaited pings (Some s) thought = keep_phase (talk_of stages.Open gone awaited pings (Some s)) s s.phase thought refl
thought_counts stages.Fresh gone awaited pings search thought = refl
thought_counts stages.Over gone awaited pings search thought = refl

moved_phase : (t : DriverState) (s : OpenSearch) (p : Phase) (shown : Option Move) → t.search ≡ Some s → Counted 0 (Some s) (cond (engine_thinks p) (record { talk = closed t; action = record { up = ups.Best shown; down = downs.Nothing; board = board_of shown } }) (quiet t))
moved_phase t s (Thinks at_once) shown e = refl
moved_phase t s p shown e = same_open s t.search (sym e)

moved_counts : (stage : DriverStage) (gone : Bool) (awaited : Option ℕ) (pings : ℕ) (search : Option OpenSearch) (shown : Option Move) → Counted 0 search (after_moved (talk_of stage gone awaited pings search) shown)
moved_counts stages.Open gone awaited pings None shown = refl
moved_counts stages.Open gone awaited pings (Some s) shown = moved_phase (talk_of stages.Open gone awaited pings (Some s)) s s.phase shown refl
moved_counts stages.Fresh gone awaited pings search shown = refl
moved_counts stages.Over gone awaited pings search shown = refl

resigned_phase : (t : DriverState) (s : OpenSearch) (p : Phase) → t.search ≡ Some s → Counted 0 (Some s) (cond (engine_thinks p) (record { talk = pinged (closed t); action = record { up = ups.Best None; down = downs.Retreat (next_ping t.pings); board = boards.Lost } }) (quiet t))
resigned_phase t s (Thinks at_once) e = refl
resigned_phase t s p e = same_open s t.search (sym e)

resigned_counts : (stage : DriverStage) (gone : Bool) (awaited : Option ℕ) (pings : ℕ) (search : Option OpenSearch) → Counted 0 search (after_resigned (talk_of stage gone awaited pings search))
resigned_counts stages.Open gone awaited pings None = refl
resigned_counts stages.Open gone awaited pings (Some s) = resigned_phase (talk_of stages.Open gone awaited pings (Some s)) s s.phase refl
resigned_counts stages.Fresh gone awaited pings search = refl
resigned_counts stages.Over gone awaited pings search = refl

ended_counts : (stage : DriverStage) (gone : Bool) (awaited : Option ℕ) (pings : ℕ) (search : Option OpenSearch) → Counted 0 search (after_ended (talk_of stage gone awaited pings search))
ended_counts stages.Open gone awaited pings None = refl
ended_counts stages.Open gone awaited pings (Some s) = refl
ended_counts stages.Fresh gone awaited pings search = refl
ended_counts stages.Over gone awaited pings search = refl

uci_counts : (stage : DriverStage) (gone : Bool) (awaited : Option ℕ) (pings : ℕ) (search : Option OpenSearch) → Counted 0 search (after_uci (talk_of stage gone awaited pings search))
uci_counts stages.Open gone awaited pings search = refl
uci_counts stages.Fresh gone awaited pings search = refl
uci_counts stages.Over gone awaited pings search = refl

quit_counts : (stage : DriverStage) (gone : Bool) (awaited : Option ℕ) (pings : ℕ) (search : Option OpenSearch) → Counted 0 search (driver_after_quit (talk_of stage gone awaited pings search))
quit_counts stages.Open gone awaited pings search = refl
quit_counts stages.Fresh gone awaited pings search = refl
quit_counts stages.Over gone awaited pings search = refl

ready_counts : (stage : DriverStage) (gone : Bool) (awaited : Option ℕ) (pings : ℕ) (search : Option OpenSearch) → Counted 0 search (after_ready (talk_of stage gone awaited pings search))
ready_counts stages.Open gone awaited pings search = refl
ready_counts stages.Fresh gone awaited pings search = refl
ready_counts stages.Over gone awaited pings search = refl

begin_counts : (reach : Reach) (kind : GoKind) (t : DriverState) (s : OpenSearch) (clocks : GoClocks) → t.search ≡ None → Counted 1 None (begin_by reach kind t s clocks)
begin_counts reaches.Nothing kind t s clocks e = ap (λ (x : Option OpenSearch). 1 + open_count x) (sym e)
begin_counts reaches.Play kinds.Move t s clocks e = play_counts 1 t.awaited t s clocks None refl
begin_counts reaches.Play kinds.Ponder t s clocks e = refl
begin_counts reaches.Play kinds.Analyse t s clocks e = refl
begin_counts reaches.Analyse kinds.Move t s clocks e = play_counts 1 t.awaited t s clocks None refl
begin_counts reaches.Analyse kinds.Ponder t s clocks e = open_counts 1 t.awaited t s clocks None refl
begin_counts reaches.Analyse kinds.Analyse t s clocks e = open_counts 1 t.awaited t s clocks None refl

moveless_counts : (kind : GoKind) (t : DriverState) (w : WantedSearch) → t.search ≡ None → Counted 1 None (begin_moveless kind t w)
moveless_counts kinds.Move t w e = ap (λ (x : Option OpenSearch). 1 + open_count x) (sym e)
moveless_counts kinds.Ponder t w e = refl
moveless_counts kinds.Analyse t w e = refl

first_counts : (first : Option Move) (gone : Bool) (t : DriverState) (w : WantedSearch) → t.search ≡ None → Counted 1 None (begin_from first gone t w)
first_counts None true t w e = ap (λ (x : Option OpenSearch). 1 + open_count x) (sym e)
first_counts None false t w e = moveless_counts w.kind t w e
first_counts (Some kept) true t w e = ap (λ (x : Option OpenSearch). 1 + open_count x) (sym e)
first_counts (Some kept) false t w e = begin_counts w.reach w.kind t (begun w (Some kept) Rests) w.clocks e

go_counts : (stage : DriverStage) (gone : Bool) (awaited : Option ℕ) (pings : ℕ) (search : Option OpenSearch) (w : WantedSearch) → Counted (one_if (is_free_at stage search)) search (after_go (talk_of stage gone awaited pings search) w)
go_counts stages.Open gone awaited pings None w = first_counts w.first gone (talk_of stages.Open gone awaited pings None) w refl
go_counts stages.Open gone awaited pings (Some s) w = refl
go_counts stages.Fresh gone awaited pings search w = refl
go_counts stages.Over gone awaited pings search w = refl

pub call_counts : (t : DriverState) (c : DriverCall) → Counted (one_if (is_accepted t c)) t.search (driver_turn_of t c)
unfolding driver_turn_of
call_counts t calls.Other = refl
call_counts t calls.Quit = quit_counts t.stage t.gone t.awaited t.pings t.search
call_counts t calls.Uci = uci_counts t.stage t.gone t.awaited t.pings t.search
call_counts t calls.IsReady = ready_counts t.stage t.gone t.awaited t.pings t.search
call_counts t (calls.Go w) = go_counts t.stage t.gone t.awaited t.pings t.search w
call_counts t calls.Stop = stop_counts t.stage t.gone t.awaited t.pings t.search
call_counts t calls.PonderHit = hit_counts t.stage t.gone t.awaited t.pings t.search
call_counts t (calls.Moved shown) = moved_counts t.stage t.gone t.awaited t.pings t.search shown
call_counts t calls.Resigned = resigned_counts t.stage t.gone t.awaited t.pings t.search
call_counts t (calls.Pong n) = pong_search t t.search (is_open_stage t.stage && is_awaited t.awaited n) n refl
call_counts t (calls.Thought thought) = thought_counts t.stage t.gone t.awaited t.pings t.search thought
call_counts t calls.Ended = ended_counts t.stage t.gone t.awaited t.pings t.search

pub answered_once : AnsweredOnce
answered_once [] = refl
answered_once (c ∷ cs) = let earlier = answered_once cs in let one = call_counts (state_after_calls cs) c in omega (arith, earlier, one)
