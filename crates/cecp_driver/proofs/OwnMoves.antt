-- The engine's own moves: which calls give one.
use Rattle.std.proofs.Common.{◌≡◌, ℕ, Bool, true, false, cond, List, Option, Some, None, refl, sym, ap, subst, ◌∙◌, ◌&&◌}
use Rattle.chess_board.specs.declared.board.Move.{Move}
use Rattle.chess_board.specs.Position.{Position}
use Rattle.protocol_tokens.specs.declared.kinds.GoKind.{GoKind}
use Rattle.protocol_tokens.specs.declared.kinds.GoKind.TheVariants as kinds
use Rattle.driver_state_machine.specs.declared.words.GoClocks.{GoClocks}
use Rattle.driver_state_machine.specs.declared.words.Thought.{Thought}
use Rattle.driver_state_machine.specs.declared.words.OpenSearch.{OpenSearch}
use Rattle.driver_state_machine.specs.declared.words.AfterAnalysis.{AfterAnalysis}
use Rattle.driver_state_machine.specs.declared.words.AfterAnalysis.TheVariants.{Answer, Play}
use Rattle.driver_state_machine.specs.declared.words.Phase.{Phase}
use Rattle.driver_state_machine.specs.declared.words.Phase.TheVariants.{Thinks, Analyses, Rests, Leaves, WaitsToThink, WaitsToAnalyse}
use Rattle.driver_state_machine.specs.declared.words.BoardChange.{BoardChange}
use Rattle.driver_state_machine.specs.declared.words.BoardChange.TheVariants as boards
use Rattle.driver_state_machine.specs.declared.driver_state.DriverStage.{DriverStage}
use Rattle.driver_state_machine.specs.declared.driver_state.DriverStage.TheVariants as stages
use Rattle.driver_state_machine.specs.declared.driver_state.DriverState.{DriverState}
use Rattle.driver_state_machine.specs.declared.driver_state.DriverTurn.{DriverTurn}
use Rattle.driver_state_machine.specs.declared.driver_state.Reach.{Reach}
use Rattle.driver_state_machine.specs.declared.driver_state.Reach.TheVariants as reaches
use Rattle.driver_state_machine.specs.declared.driver_state.WantedSearch.{WantedSearch}
use Rattle.driver_state_machine.specs.declared.driver_state.DriverCall.{DriverCall}
use Rattle.driver_state_machine.specs.declared.driver_state.DriverCall.TheVariants as calls
use Rattle.driver_state_machine.specs.DriverState.{begin_moveless, hit_resting, thinking_on, reaches_depth, better}
use Rattle.driver_state_machine.specs.DriverState.{driver_turn_of, quiet, board_of, closed, pinged, next_ping, resume_in, without_awaited, is_free, is_open_stage, is_awaited, is_thinking, open_search, stopped, stop_in, hit, hit_by, hit_in, resumed, kept, thought_in, ended_in, without_engine, played_by, opened_by, begin_by, begin_from, begun, quit_at, uci_at, ready_at, after_begin, after_moved, after_resigned}

-- the move that an action adds to the engine's game
abbrev pub own_of : BoardChange → Option Move
own_of boards.Same = None
own_of (boards.Moved m) = Some m
own_of boards.Lost = None

abbrev Adds : DriverTurn → Option Move → Type 0
Adds r own = own_of r.action.board ≡ own

stopped_none : (t : DriverState) (s : OpenSearch) (p : Phase) → Adds (stopped t s p) None
stopped_none t s (Thinks false) = refl
stopped_none t s (Thinks true) = refl
stopped_none t s Analyses = refl
stopped_none t s Rests = refl
stopped_none t s (Leaves Play) = refl
stopped_none t s (Leaves Answer) = refl
stopped_none t s (WaitsToThink false) = refl
stopped_none t s (WaitsToThink true) = refl
stopped_none t s (WaitsToAnalyse None) = refl
stopped_none t s (WaitsToAnalyse (Some Play)) = refl
stopped_none t s (WaitsToAnalyse (Some Answer)) = refl

stop_none : (t : DriverState) (o : Option OpenSearch) → Adds (stop_in o t) None
stop_none t None = refl
stop_none t (Some s) = stopped_none t s s.phase

played_none : (o : Option ℕ) (t : DriverState) (s : OpenSearch) (c : GoClocks) → Adds (played_by o t s c) None
played_none None t s c = refl
played_none (Some n) t s c = refl

opened_none : (o : Option ℕ) (t : DriverState) (s : OpenSearch) (c : GoClocks) → Adds (opened_by o t s c) None
opened_none None t s c = refl
opened_none (Some n) t s c = refl

rest_none : (best : Option Move) (t : DriverState) (s : OpenSearch) → Adds (hit_resting best t s) None
rest_none None t s = refl
rest_none (Some m) t s = played_none t.awaited t s s.clocks

hit_none : (t : DriverState) (s : OpenSearch) (p : Phase) → Adds (hit t s p) None
hit_none t s Analyses = refl
hit_none t s Rests = rest_none s.kept t s
hit_none t s (WaitsToAnalyse None) = refl
hit_none t s (WaitsToAnalyse (Some next)) = refl
hit_none t s (Thinks at_once) = refl
hit_none t s (Leaves next) = refl
hit_none t s (WaitsToThink at_once) = refl

hit_kind_none : (t : DriverState) (s : OpenSearch) (kind : GoKind) → Adds (hit_by kind t s) None
hit_kind_none t s kinds.Ponder = hit_none t s s.phase
hit_kind_none t s kinds.Move = refl
hit_kind_none t s kinds.Analyse = refl

hit_in_none : (t : DriverState) (o : Option OpenSearch) → Adds (hit_in o t) None
hit_in_none t None = refl
hit_in_none t (Some s) = hit_kind_none t s s.kind

begin_none : (reach : Reach) (kind : GoKind) (t : DriverState) (s : OpenSearch) (c : GoClocks) → Adds (begin_by reach kind t s c) None
begin_none reaches.Nothing kind t s c = refl
begin_none reaches.Play kinds.Move t s c = played_none t.awaited t s c
begin_none reaches.Play kinds.Ponder t s c = refl
begin_none reaches.Play kinds.Analyse t s c = refl
begin_none reaches.Analyse kinds.Move t s c = played_none t.awaited t s c
begin_none reaches.Analyse kinds.Ponder t s c = opened_none t.awaited t s c
begin_none reaches.Analyse kinds.Analyse t s c = opened_none t.awaited t s c

moveless_none : (kind : GoKind) (t : DriverState) (w : WantedSearch) → Adds (begin_moveless kind t w) None
moveless_none kinds.Move t w = refl
moveless_none kinds.Ponder t w = refl
moveless_none kinds.Analyse t w = refl

first_none : (first : Option Move) (ended : Bool) (t : DriverState) (w : WantedSearch) → Adds (begin_from first ended t w) None
first_none None true t w = refl
first_none None false t w = moveless_none w.kind t w
first_none (Some m) true t w = refl
first_none (Some m) false t w = begin_none w.reach w.kind t (begun w (Some m) Rests) w.clocks

go_none : (free : Bool) (t : DriverState) (w : WantedSearch) → Adds (cond free (after_begin t w) (quiet t)) None
go_none true t w = first_none w.first t.gone t w
go_none false t w = refl

resumed_none : (t : DriverState) (s : OpenSearch) (p : Phase) → Adds (resumed t s p) None
resumed_none t s (Leaves Answer) = refl
resumed_none t s (WaitsToAnalyse None) = refl
resumed_none t s p = refl

resume_none : (t : DriverState) (o : Option OpenSearch) → Adds (resume_in o t) None
resume_none t None = refl
resume_none t (Some s) = resumed_none t s s.phase

pong_none : (b : Bool) (t u : DriverState) (o : Option OpenSearch) → Adds (cond b (resume_in o u) (quiet t)) None
pong_none true t u o = resume_none u o
pong_none false t u o = refl

think_none : (b : Bool) (t : DriverState) (s : OpenSearch) (thought : Thought) → Adds (thinking_on b t s thought) None
think_none true t s thought = refl
think_none false t s thought = refl

kept_none : (t : DriverState) (s : OpenSearch) (p : Phase) (thought : Thought) → Adds (kept t s p thought) None
kept_none t s (Thinks false) thought = think_none (reaches_depth s.clocks thought) t (better s thought.best) thought
kept_none t s (Thinks true) thought = refl
kept_none t s Analyses thought = refl
kept_none t s Rests thought = refl
kept_none t s (Leaves next) thought = refl
kept_none t s (WaitsToThink at_once) thought = refl
kept_none t s (WaitsToAnalyse later) thought = refl

thought_none : (t : DriverState) (o : Option OpenSearch) (thought : Thought) → Adds (thought_in o t thought) None
thought_none t None thought = refl
thought_none t (Some s) thought = kept_none t s s.phase thought

ended_none : (t : DriverState) (o : Option OpenSearch) → Adds (ended_in o t) None
ended_none t None = refl
ended_none t (Some s) = refl

quit_none : (t : DriverState) (stage : DriverStage) → Adds (quit_at t stage) None
quit_none t stages.Fresh = refl
quit_none t stages.Open = refl
quit_none t stages.Over = refl

uci_none : (t : DriverState) (stage : DriverStage) → Adds (uci_at t stage) None
uci_none t stages.Fresh = refl
uci_none t stages.Open = refl
uci_none t stages.Over = refl

ready_none : (t : DriverState) (stage : DriverStage) → Adds (ready_at t stage) None
ready_none t stages.Fresh = refl
ready_none t stages.Open = refl
ready_none t stages.Over = refl

resigned_none : (b : Bool) (t : DriverState) (r : DriverTurn) → r.action.board ≡ boards.Lost → Adds (cond b r (quiet t)) None
resigned_none true t r e = ap own_of e
resigned_none false t r e = refl

shown_own : (shown : Option Move) → own_of (board_of shown) ≡ shown
shown_own None = refl
shown_own (Some m) = refl

moved_by : (b : Bool) (t : DriverState) (r : DriverTurn) (shown : Option Move) → r.action.board ≡ board_of shown → Adds (cond b r (quiet t)) (cond b shown None)
moved_by true t r shown e = ap own_of e ∙ shown_own shown
moved_by false t r shown e = refl

-- a legal move that is heard while the engine thinks
pub moved_own : (t : DriverState) (shown : Option Move) → Adds (driver_turn_of t (calls.Moved shown)) (cond (is_thinking t) shown None)
unfolding driver_turn_of
moved_own t shown = moved_by (is_thinking t) t _ shown refl

-- all other calls
abbrev pub IsOther : DriverCall → Type 0
IsOther (calls.Moved shown) = ⊥
IsOther c = Unit {0}

pub others_none : (t : DriverState) (c : DriverCall) → IsOther c → Adds (driver_turn_of t c) None
unfolding driver_turn_of
others_none t calls.Other i = refl
others_none t calls.Quit i = quit_none t t.stage
others_none t calls.Uci i = uci_none t t.stage
others_none t calls.IsReady i = ready_none t t.stage
others_none t (calls.Go w) i = go_none (is_free t) t w
others_none t calls.Stop i = stop_none t (open_search t)
others_none t calls.PonderHit i = hit_in_none t (open_search t)
others_none t (calls.Moved shown) i = absurd i
others_none t calls.Resigned i = resigned_none (is_thinking t) t _ refl
others_none t (calls.Pong n) i = pong_none (is_open_stage t.stage && is_awaited t.awaited n) t (without_awaited t) t.search
others_none t (calls.Thought thought) i = thought_none t (open_search t) thought
others_none t calls.Ended i = ended_none (without_engine t) (open_search t)
