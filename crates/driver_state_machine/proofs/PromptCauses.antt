-- The causes of a `?`: a `stop`, or the depth of the `go`.
use Rattle.std.proofs.Common.{◌≡◌, ℕ, ◌⊎◌, inl, inr, Bool, true, false, cond, ◌&&◌, Option, Some, None, refl}
use Rattle.chess_board.specs.declared.board.Move.{Move}
use Rattle.protocol_tokens.specs.declared.kinds.GoKind.{GoKind}
use Rattle.protocol_tokens.specs.declared.kinds.GoKind.TheVariants as kinds
use Rattle.driver_state_machine.specs.declared.words.GoClocks.{GoClocks}
use Rattle.driver_state_machine.specs.declared.words.Thought.{Thought}
use Rattle.driver_state_machine.specs.declared.words.OpenSearch.{OpenSearch}
use Rattle.driver_state_machine.specs.declared.words.AfterAnalysis.TheVariants.{Answer, Play}
use Rattle.driver_state_machine.specs.declared.words.Phase.{Phase}
use Rattle.driver_state_machine.specs.declared.words.Phase.TheVariants.{Thinks, Analyses, Rests, Leaves, WaitsToThink, WaitsToAnalyse}
use Rattle.driver_state_machine.specs.declared.words.ToIface.TheVariants as ups
use Rattle.driver_state_machine.specs.declared.words.ToEngine.{ToEngine}
use Rattle.driver_state_machine.specs.declared.words.ToEngine.TheVariants as downs
use Rattle.driver_state_machine.specs.declared.words.BoardChange.TheVariants as boards
use Rattle.driver_state_machine.specs.declared.driver_state.DriverStage.{DriverStage}
use Rattle.driver_state_machine.specs.declared.driver_state.DriverStage.TheVariants as stages
use Rattle.driver_state_machine.specs.declared.driver_state.DriverState.{DriverState}
use Rattle.driver_state_machine.specs.declared.driver_state.DriverTurn.{DriverTurn}
use Rattle.driver_state_machine.specs.declared.driver_state.Reach.{Reach}
use Rattle.driver_state_machine.specs.declared.driver_state.Reach.TheVariants as reaches
use Rattle.driver_state_machine.specs.declared.driver_state.WantedSearch.{WantedSearch}
use Rattle.driver_state_machine.specs.declared.driver_state.DriverCall.{DriverCall}
use Rattle.driver_state_machine.specs.declared.driver_state.DriverCall.TheVariants as calls
use Rattle.driver_state_machine.specs.DriverState.{driver_turn_of, quiet, engine_thinks, is_thinking, closed, board_of, next_ping, pinged, resume_in, search_at, open_search, is_free, is_awaited, without_awaited, without_engine, stop_in, hit, hit_by, hit_in, resumed, kept, thought_in, played_by, opened_by, begin_by, begin_from, begun, quit_at, uci_at, ready_at, ended_in, unless_gone, is_open_stage, begin_moveless, hit_resting, thinking_on, reaches_depth, better}
use Rattle.driver_state_machine.specs.Laws as laws
use Rattle.driver_state_machine.specs.Laws.{state_after_calls, is_search_open, is_stop_reaching, orders_thinking, writes_prompt, prompts, reaches_in, is_deep, was_deep, PromptsHaveCause}
use Rattle.driver_state_machine.proofs.Prompts.{Fits, FitsIn, run_fits}

-- a turn that does not write it
abbrev Calm : DriverTurn → Type 0
Calm r = writes_prompt r.action.down ≡ true → ⊥

calm : (t : DriverState) → Calm (quiet t)
calm t e = absurd (cc)

play_calm : (awaited : Option ℕ) (t : DriverState) (s : OpenSearch) (clocks : GoClocks) → Calm (played_by awaited t s clocks)
play_calm None t s clocks e = absurd (cc)
play_calm (Some n) t s clocks e = absurd (cc)

open_calm : (awaited : Option ℕ) (t : DriverState) (s : OpenSearch) (clocks : GoClocks) → Calm (opened_by awaited t s clocks)
open_calm None t s clocks e = absurd (cc)
open_calm (Some n) t s clocks e = absurd (cc)

begin_calm : (t : DriverState) (reach : Reach) (kind : GoKind) (s : OpenSearch) (clocks : GoClocks) → Calm (begin_by reach kind t s clocks)
begin_calm t reaches.Nothing kind s clocks e = absurd (cc)
begin_calm t reaches.Play kinds.Move s clocks e = play_calm t.awaited t s clocks e
begin_calm t reaches.Play kinds.Ponder s clocks e = absurd (cc)
begin_calm t reaches.Play kinds.Analyse s clocks e = absurd (cc)
begin_calm t reaches.Analyse kinds.Move s clocks e = play_calm t.awaited t s clocks e
begin_calm t reaches.Analyse kinds.Ponder s clocks e = open_calm t.awaited t s clocks e
begin_calm t reaches.Analyse kinds.Analyse s clocks e = open_calm t.awaited t s clocks e

moveless_calm : (t : DriverState) (kind : GoKind) (w : WantedSearch) → Calm (begin_moveless kind t w)
moveless_calm t kinds.Move w e = absurd (cc)
moveless_calm t kinds.Ponder w e = absurd (cc)
moveless_calm t kinds.Analyse w e = absurd (cc)

first_calm : (t : DriverState) (first : Option Move) (gone : Bool) (w : WantedSearch) → Calm (begin_from first gone t w)
first_calm t None true w e = absurd (cc)
first_calm t None false w e = moveless_calm t w.kind w e
first_calm t (Some best) true w e = absurd (cc)
first_calm t (Some best) false w e = begin_calm t w.reach w.kind (begun w (Some best) Rests) w.clocks e

go_calm : (t : DriverState) (w : WantedSearch) (free : Bool) → Calm (cond free (begin_from w.first t.gone t w) (quiet t))
go_calm t w true e = first_calm t w.first t.gone w e
go_calm t w false e = absurd (cc)

rest_calm : (best : Option Move) (t : DriverState) (s : OpenSearch) → Calm (hit_resting best t s)
rest_calm None t s e = absurd (cc)
rest_calm (Some m) t s e = play_calm t.awaited t s s.clocks e

hit_calm_in : (t : DriverState) (s : OpenSearch) (p : Phase) → Calm (hit t s p)
hit_calm_in t s Rests e = rest_calm s.kept t s e
hit_calm_in t s Analyses e = absurd (cc)
hit_calm_in t s (WaitsToAnalyse None) e = absurd (cc)
hit_calm_in t s p e = calm t e

hit_calm_by : (t : DriverState) (s : OpenSearch) (kind : GoKind) → Calm (hit_by kind t s)
hit_calm_by t s kinds.Ponder e = hit_calm_in t s s.phase e
hit_calm_by t s kinds.Move e = absurd (cc)
hit_calm_by t s kinds.Analyse e = absurd (cc)

hit_calm : (t : DriverState) (search : Option OpenSearch) → Calm (hit_in search t)
hit_calm t None e = absurd (cc)
hit_calm t (Some s) e = hit_calm_by t s s.kind e

moved_calm : (t : DriverState) (shown : Option Move) (b : Bool) → Calm (cond b (record { talk = closed t; action = record { up = ups.Best shown; down = downs.Nothing; board = board_of shown } }) (quiet t))
moved_calm t shown true e = absurd (cc)
moved_calm t shown false e = absurd (cc)

resigned_calm : (t : DriverState) (b : Bool) → Calm (cond b (record { talk = pinged (closed t); action = record { up = ups.Best None; down = downs.Retreat (next_ping t.pings); board = boards.Lost } }) (quiet t))
resigned_calm t true e = absurd (cc)
resigned_calm t false e = absurd (cc)

gone_calm : (b : Bool) (down : ToEngine) → (writes_prompt down ≡ true → ⊥) → writes_prompt (unless_gone b down) ≡ true → ⊥
gone_calm true down h e = absurd (cc)
gone_calm false down h e = h e

quit_calm : (t : DriverState) (stage : DriverStage) → Calm (quit_at t stage)
quit_calm t stages.Over e = absurd (cc)
quit_calm t stages.Open e = gone_calm t.gone downs.Quit (λ f. absurd (cc)) e
quit_calm t stages.Fresh e = gone_calm t.gone downs.Quit (λ f. absurd (cc)) e

uci_calm : (t : DriverState) (stage : DriverStage) → Calm (uci_at t stage)
uci_calm t stages.Over e = absurd (cc)
uci_calm t stages.Open e = absurd (cc)
uci_calm t stages.Fresh e = gone_calm t.gone downs.Greeting (λ f. absurd (cc)) e

ready_calm : (t : DriverState) (stage : DriverStage) → Calm (ready_at t stage)
ready_calm t stages.Over e = absurd (cc)
ready_calm t stages.Open e = absurd (cc)
ready_calm t stages.Fresh e = absurd (cc)

ended_calm : (t : DriverState) (search : Option OpenSearch) → Calm (ended_in search t)
ended_calm t None e = absurd (cc)
ended_calm t (Some s) e = absurd (cc)

stop_opens : (t : DriverState) (search : Option OpenSearch) → writes_prompt (stop_in search t).action.down ≡ true → is_search_open search ≡ true
stop_opens t None e = absurd (cc)
stop_opens t (Some s) e = refl

stop_reaches : (stage : DriverStage) (search : Option OpenSearch) → is_search_open (search_at stage search) ≡ true → (is_open_stage stage && is_search_open search) ≡ true
stop_reaches stages.Open search e = e
stop_reaches stages.Fresh search e = absurd (cc)
stop_reaches stages.Over search e = absurd (cc)

think_reached : (b : Bool) (t : DriverState) (s : OpenSearch) (thought : Thought) → writes_prompt (thinking_on b t s thought).action.down ≡ true → b ≡ true
think_reached true t s thought e = refl
think_reached false t s thought e = absurd (cc)

keep_reached : (t : DriverState) (s : OpenSearch) (p : Phase) (thought : Thought) → writes_prompt (kept t s p thought).action.down ≡ true → (engine_thinks p && reaches_depth s.clocks thought) ≡ true
keep_reached t s (Thinks false) thought e = think_reached (reaches_depth s.clocks thought) t (better s thought.best) thought e
keep_reached t s (Thinks true) thought e = absurd (cc)
keep_reached t s Analyses thought e = absurd (cc)
keep_reached t s Rests thought e = absurd (cc)
keep_reached t s p thought e = absurd (calm t e)

thought_reached : (t : DriverState) (search : Option OpenSearch) (thought : Thought) → writes_prompt (thought_in search t thought).action.down ≡ true → reaches_in search thought ≡ true
thought_reached t None thought e = absurd (cc)
thought_reached t (Some s) thought e = keep_reached t s s.phase thought e

-- a `stop` came, and the engine is set to think
abbrev Resumes : Bool → DriverTurn → Type 0
Resumes st r = writes_prompt r.action.down ≡ true → (st ≡ true) × (orders_thinking r.action.down ≡ true)

resume_prompts : (n : ℕ) (st deep : Bool) (t : DriverState) (s : OpenSearch) (p : Phase) → Fits n st deep p → Resumes st (resumed t s p)
resume_prompts n st deep t s (WaitsToThink true) h e = (h.1, refl)
resume_prompts n st deep t s (WaitsToThink false) h e = absurd (cc)
resume_prompts n st deep t s (Leaves Answer) h e = absurd (cc)
resume_prompts n st deep t s (Leaves Play) h e = absurd (cc)
resume_prompts n st deep t s (WaitsToAnalyse None) h e = absurd (cc)
resume_prompts n st deep t s (WaitsToAnalyse (Some next)) h e = absurd (cc)
resume_prompts n st deep t s Analyses h e = absurd (cc)
resume_prompts n st deep t s Rests h e = absurd (cc)
resume_prompts n st deep t s (Thinks at_once) h e = absurd (cc)

resume_in_prompts : (n : ℕ) (st deep : Bool) (t : DriverState) (search : Option OpenSearch) → FitsIn n st deep search → Resumes st (resume_in search t)
resume_in_prompts n st deep t None h e = absurd (cc)
resume_in_prompts n st deep t (Some s) h e = resume_prompts n st deep t s s.phase h e

pong_prompts : (n : ℕ) (st deep : Bool) (t : DriverState) (b : Bool) → FitsIn n st deep t.search → Resumes st (cond b (resume_in t.search (without_awaited t)) (quiet t))
pong_prompts n st deep t true h e = resume_in_prompts n st deep (without_awaited t) t.search h e
pong_prompts n st deep t false h e = absurd (cc)

cause_by : (n : ℕ) (st deep : Bool) (t : DriverState) (c : DriverCall) → FitsIn n st deep t.search → writes_prompt (driver_turn_of t c).action.down ≡ true
    → (is_stop_reaching t c ≡ true) ⊎ ((is_deep t c ≡ true) ⊎ ((st ≡ true) × (orders_thinking (driver_turn_of t c).action.down ≡ true)))
unfolding driver_turn_of
cause_by n st deep t calls.Other h e = absurd (cc)
cause_by n st deep t calls.Quit h e = absurd (quit_calm t t.stage e)
cause_by n st deep t calls.Uci h e = absurd (uci_calm t t.stage e)
cause_by n st deep t calls.IsReady h e = absurd (ready_calm t t.stage e)
cause_by n st deep t (calls.Go w) h e = absurd (go_calm t w (is_free t) e)
cause_by n st deep t calls.Stop h e = inl (stop_reaches t.stage t.search (stop_opens t (open_search t) e))
cause_by n st deep t calls.PonderHit h e = absurd (hit_calm t (open_search t) e)
cause_by n st deep t (calls.Moved shown) h e = absurd (moved_calm t shown (is_thinking t) e)
cause_by n st deep t calls.Resigned h e = absurd (resigned_calm t (is_thinking t) e)
cause_by n st deep t (calls.Pong number) h e = inr (inr (pong_prompts n st deep t (is_open_stage t.stage && is_awaited t.awaited number) h e))
cause_by n st deep t (calls.Thought thought) h e = inr (inl (thought_reached t (open_search t) thought e))
cause_by n st deep t calls.Ended h e = absurd (ended_calm (without_engine t) (open_search t) e)

pub prompts_have_cause : PromptsHaveCause
prompts_have_cause cs c e = cause_by (prompts cs) (laws.got_stop cs) (was_deep cs) (state_after_calls cs) c (run_fits cs) e
