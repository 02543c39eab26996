-- When nothing is given, and why there is no move.
use Rattle.std.proofs.Common.{◌≡◌, ℕ, ◌⊎◌, inl, inr, Bool, true, false, cond, ◌&&◌, List, [], ◌∷◌, Option, Some, None, refl}
use Rattle.chess_board.specs.declared.board.Move.{Move}
use Rattle.protocol_tokens.specs.declared.kinds.GoKind.{GoKind}
use Rattle.protocol_tokens.specs.declared.kinds.GoKind.TheVariants as kinds
use Rattle.driver_state_machine.specs.declared.words.GoClocks.{GoClocks}
use Rattle.driver_state_machine.specs.declared.words.Thought.{Thought}
use Rattle.driver_state_machine.specs.declared.words.OpenSearch.{OpenSearch}
use Rattle.driver_state_machine.specs.declared.words.AfterAnalysis.{AfterAnalysis}
use Rattle.driver_state_machine.specs.declared.words.AfterAnalysis.TheVariants.{Answer, Play}
use Rattle.driver_state_machine.specs.declared.words.Phase.{Phase}
use Rattle.driver_state_machine.specs.declared.words.Phase.TheVariants.{Thinks, Analyses, Rests, Leaves, WaitsToThink, WaitsToAnalyse}
use Rattle.driver_state_machine.specs.declared.words.ToIface.TheVariants as ups
use Rattle.driver_state_machine.specs.declared.words.ToEngine.TheVariants as downs
use Rattle.driver_state_machine.specs.declared.words.BoardChange.TheVariants as boards
use Rattle.driver_state_machine.specs.declared.driver_state.DriverStage.{DriverStage}
use Rattle.driver_state_machine.specs.declared.driver_state.DriverStage.TheVariants as stages
use Rattle.driver_state_machine.specs.declared.driver_state.DriverState.{DriverState}
use Rattle.driver_state_machine.specs.declared.driver_state.DriverTurn.{DriverTurn}
use Rattle.driver_state_machine.specs.declared.driver_state.Reach.{Reach}
use Rattle.driver_state_machine.specs.declared.driver_state.Reach.TheVariants as reaches
use Rattle.driver_state_machine.specs.declared.driver_state.WantedSearch.{WantedSearch}
use Rattle.driver_state_machine.specs.declared.driver_state.DriverCall.{DriverCall}
use Rattle.driver_state_machine.specs.declared.driver_state.DriverCall.TheVariants as calls
use Rattle.driver_state_machine.specs.DriverState.{driver_turn_of, quiet, is_free_at, is_awaited, without_awaited, stopped, hit, hit_by, resumed, resume_in, kept, played_by, opened_by, begin_by, begin_from, begun, after_go, driver_after_stop, after_ponderhit, after_thought, after_moved, after_resigned, after_ended, driver_after_quit, after_uci, after_ready, is_open_stage, is_thinking, is_free, open_search, stop_in, hit_in, thought_in, quit_at, uci_at, ready_at, ended_in, without_engine, closed, board_of, pinged, next_ping}
use Rattle.driver_state_machine.specs.DriverState.{begin_moveless, hit_resting, thinking_on, reaches_depth, better}
use Rattle.driver_state_machine.specs.Laws.{is_search_open, SearchHasNoMove, KeepsNoneIn, MovesAreIgnored, NoMoveHasCause}
use Rattle.driver_state_machine.proofs.Counts.{talk_of}

pub moves_are_ignored : MovesAreIgnored
unfolding driver_turn_of
moves_are_ignored t shown e = rw e (refl, refl)

-- a turn that gives no `bestmove 0000`
abbrev Speaks : DriverTurn → Type 0
Speaks r = r.action.up ≡ ups.Best None → ⊥

silent : (t : DriverState) → Speaks (quiet t)
silent t e = absurd (cc)

best_none : (best : Option Move) → ups.Best best ≡ ups.Best None → best ≡ None
best_none None e = refl
best_none (Some m) e = absurd (cc)

-- a turn that gives it only where no move is kept, in this phase
abbrev Lacks : OpenSearch → Phase → Phase → DriverTurn → Type 0
Lacks s p phase r = r.action.up ≡ ups.Best None → (s.kept ≡ None) × (p ≡ phase)

stop_phase : (t : DriverState) (s : OpenSearch) (p : Phase) → Lacks s p Rests (stopped t s p)
stop_phase t s (Thinks false) e = absurd (cc)
stop_phase t s (Thinks true) e = absurd (cc)
stop_phase t s Analyses e = absurd (cc)
stop_phase t s Rests e = (best_none s.kept e, refl)
stop_phase t s (Leaves Play) e = absurd (cc)
stop_phase t s (Leaves Answer) e = absurd (cc)
stop_phase t s (WaitsToThink false) e = absurd (cc)
stop_phase t s (WaitsToThink true) e = absurd (cc)
stop_phase t s (WaitsToAnalyse None) e = absurd (cc)
stop_phase t s (WaitsToAnalyse (Some Play)) e = absurd (cc)
stop_phase t s (WaitsToAnalyse (Some Answer)) e = absurd (cc)

stop_cause : (t : DriverState) (search : Option OpenSearch) → (stop_in search t).action.up ≡ ups.Best None → KeepsNoneIn Rests search
stop_cause t None e = absurd (silent t e)
stop_cause t (Some s) e = stop_phase t s s.phase e

play_speaks : (awaited : Option ℕ) (t : DriverState) (s : OpenSearch) (clocks : GoClocks) → Speaks (played_by awaited t s clocks)
play_speaks None t s clocks e = absurd (cc)
play_speaks (Some n) t s clocks e = absurd (cc)

analyse_speaks : (awaited : Option ℕ) (t : DriverState) (s : OpenSearch) (clocks : GoClocks) → Speaks (opened_by awaited t s clocks)
analyse_speaks None t s clocks e = absurd (cc)
analyse_speaks (Some n) t s clocks e = absurd (cc)

rest_cause : (best : Option Move) (t : DriverState) (s : OpenSearch) → (hit_resting best t s).action.up ≡ ups.Best None → best ≡ None
rest_cause None t s e = refl
rest_cause (Some m) t s e = absurd (play_speaks t.awaited t s s.clocks e)

hit_phase : (t : DriverState) (s : OpenSearch) (p : Phase) → Lacks s p Rests (hit t s p)
hit_phase t s Rests e = (rest_cause s.kept t s e, refl)
hit_phase t s Analyses e = absurd (cc)
hit_phase t s (WaitsToAnalyse None) e = absurd (cc)
hit_phase t s p e = absurd (silent t e)

hit_kind : (t : DriverState) (s : OpenSearch) (kind : GoKind) → Lacks s s.phase Rests (hit_by kind t s)
hit_kind t s kinds.Ponder e = hit_phase t s s.phase e
hit_kind t s kinds.Move e = absurd (silent t e)
hit_kind t s kinds.Analyse e = absurd (silent t e)

hit_cause : (t : DriverState) (search : Option OpenSearch) → (hit_in search t).action.up ≡ ups.Best None → KeepsNoneIn Rests search
hit_cause t None e = absurd (silent t e)
hit_cause t (Some s) e = hit_kind t s s.kind e

resume_phase : (t : DriverState) (s : OpenSearch) (p : Phase) → Lacks s p (Leaves Answer) (resumed t s p)
resume_phase t s (Leaves Answer) e = (best_none s.kept e, refl)
resume_phase t s (Leaves Play) e = absurd (cc)
resume_phase t s (WaitsToThink at_once) e = absurd (cc)
resume_phase t s (WaitsToAnalyse None) e = absurd (cc)
resume_phase t s (WaitsToAnalyse (Some next)) e = absurd (cc)
resume_phase t s Analyses e = absurd (cc)
resume_phase t s Rests e = absurd (cc)
resume_phase t s (Thinks at_once) e = absurd (cc)

resume_cause : (t : DriverState) (search : Option OpenSearch) → (resume_in search t).action.up ≡ ups.Best None → KeepsNoneIn (Leaves Answer) search
resume_cause t None e = absurd (silent t e)
resume_cause t (Some s) e = resume_phase t s s.phase e

pong_cause : (t : DriverState) (b : Bool) → (cond b (resume_in t.search (without_awaited t)) (quiet t)).action.up ≡ ups.Best None → KeepsNoneIn (Leaves Answer) t.search
pong_cause t true e = resume_cause (without_awaited t) t.search e
pong_cause t false e = absurd (silent t e)

think_speaks : (b : Bool) (t : DriverState) (s : OpenSearch) (thought : Thought) → Speaks (thinking_on b t s thought)
think_speaks true t s thought e = absurd (cc)
think_speaks false t s thought e = absurd (cc)

keep_phase : (t : DriverState) (s : OpenSearch) (p : Phase) (thought : Thought) → Speaks (kept t s p thought)
keep_phase t s (Thinks false) thought e = think_speaks (reaches_depth s.clocks thought) t (better s thought.best) thought e
keep_phase t s (Thinks true) thought e = absurd (cc)
keep_phase t s Analyses thought e = absurd (cc)
keep_phase t s Rests thought e = absurd (cc)
keep_phase t s p thought e = silent t e

thought_speaks : (t : DriverState) (search : Option OpenSearch) (thought : Thought) → Speaks (thought_in search t thought)
thought_speaks t None thought = silent t
thought_speaks t (Some s) thought = keep_phase t s s.phase thought

quit_speaks : (t : DriverState) (stage : DriverStage) → Speaks (quit_at t stage)
quit_speaks t stages.Over e = absurd (cc)
quit_speaks t stages.Open e = absurd (cc)
quit_speaks t stages.Fresh e = absurd (cc)

uci_speaks : (t : DriverState) (stage : DriverStage) → Speaks (uci_at t stage)
uci_speaks t stages.Over e = absurd (cc)
uci_speaks t stages.Open e = absurd (cc)
uci_speaks t stages.Fresh e = absurd (cc)

ready_speaks : (t : DriverState) (stage : DriverStage) → Speaks (ready_at t stage)
ready_speaks t stages.Over e = absurd (cc)
ready_speaks t stages.Open e = absurd (cc)
ready_speaks t stages.Fresh e = absurd (cc)

abbrev Cause : Option Move → GoKind → Bool → Reach → Type 0
Cause first kind gone reach = ((first ≡ None) × (kind ≡ kinds.Move)) ⊎ ((gone ≡ true) ⊎ (reach ≡ reaches.Nothing))

moveless_cause : (t : DriverState) (kind : GoKind) (w : WantedSearch) → (begin_moveless kind t w).action.up ≡ ups.Best None → kind ≡ kinds.Move
moveless_cause t kinds.Move w e = refl
moveless_cause t kinds.Ponder w e = absurd (cc)
moveless_cause t kinds.Analyse w e = absurd (cc)

begin_cause : (t : DriverState) (reach : Reach) (kind : GoKind) (s : OpenSearch) (clocks : GoClocks) → (begin_by reach kind t s clocks).action.up ≡ ups.Best None → reach ≡ reaches.Nothing
begin_cause t reaches.Nothing kind s clocks e = refl
begin_cause t reaches.Play kinds.Move s clocks e = absurd (play_speaks t.awaited t s clocks e)
begin_cause t reaches.Play kinds.Ponder s clocks e = absurd (cc)
begin_cause t reaches.Play kinds.Analyse s clocks e = absurd (cc)
begin_cause t reaches.Analyse kinds.Move s clocks e = absurd (play_speaks t.awaited t s clocks e)
begin_cause t reaches.Analyse kinds.Ponder s clocks e = absurd (analyse_speaks t.awaited t s clocks e)
begin_cause t reaches.Analyse kinds.Analyse s clocks e = absurd (analyse_speaks t.awaited t s clocks e)

first_cause : (t : DriverState) (first : Option Move) (gone : Bool) (w : WantedSearch) → (begin_from first gone t w).action.up ≡ ups.Best None → Cause first w.kind gone w.reach
first_cause t None true w e = inr (inl refl)
first_cause t None false w e = inl (refl, moveless_cause t w.kind w e)
first_cause t (Some best) true w e = inr (inl refl)
first_cause t (Some best) false w e = inr (inr (begin_cause t w.reach w.kind (begun w (Some best) Rests) w.clocks e))

free_cause : (t : DriverState) (w : WantedSearch) (free : Bool) → (cond free (begin_from w.first t.gone t w) (quiet t)).action.up ≡ ups.Best None → (free ≡ true) × Cause w.first w.kind t.gone w.reach
free_cause t w true e = (refl, first_cause t w.first t.gone w e)
free_cause t w false e = absurd (silent t e)

moved_cause : (t : DriverState) (shown : Option Move) (b : Bool) → (cond b (record { talk = closed t; action = record { up = ups.Best shown; down = downs.Nothing; board = board_of shown } }) (quiet t)).action.up ≡ ups.Best None → (b ≡ true) × (shown ≡ None)
moved_cause t None true e = (refl, refl)
moved_cause t (Some m) true e = absurd (cc)
moved_cause t shown false e = absurd (silent t e)

shown_cause : (t : DriverState) (shown : Option Move) → is_thinking t ≡ true → shown ≡ None → SearchHasNoMove t (calls.Moved shown)
shown_cause t None e n = e
shown_cause t (Some m) e n = absurd (cc)

resigned_cause : (t : DriverState) (b : Bool) → (cond b (record { talk = pinged (closed t); action = record { up = ups.Best None; down = downs.Retreat (next_ping t.pings); board = boards.Lost } }) (quiet t)).action.up ≡ ups.Best None → b ≡ true
resigned_cause t true e = refl
resigned_cause t false e = absurd (silent t e)

ended_cause : (t : DriverState) (search : Option OpenSearch) → (ended_in search t).action.up ≡ ups.Best None → is_search_open search ≡ true
ended_cause t None e = absurd (silent t e)
ended_cause t (Some s) e = refl

pub no_move_has_cause : NoMoveHasCause
unfolding driver_turn_of
no_move_has_cause t calls.Other e = absurd (silent t e)
no_move_has_cause t calls.Quit e = absurd (quit_speaks t t.stage e)
no_move_has_cause t calls.Uci e = absurd (uci_speaks t t.stage e)
no_move_has_cause t calls.IsReady e = absurd (ready_speaks t t.stage e)
no_move_has_cause t (calls.Go w) e = free_cause t w (is_free t) e
no_move_has_cause t calls.Stop e = stop_cause t (open_search t) e
no_move_has_cause t calls.PonderHit e = hit_cause t (open_search t) e
no_move_has_cause t (calls.Moved shown) e = let both = moved_cause t shown (is_thinking t) e in shown_cause t shown both.0 both.1
no_move_has_cause t calls.Resigned e = resigned_cause t (is_thinking t) e
no_move_has_cause t (calls.Pong n) e = pong_cause t (is_open_stage t.stage && is_awaited t.awaited n) e
no_move_has_cause t (calls.Thought thought) e = absurd (thought_speaks t (open_search t) thought e)
no_move_has_cause t calls.Ended e = ended_cause (without_engine t) (open_search t) e
