-- `?` is written once a search at most, on a `stop` or at the depth of the `go`.
use Rattle.std.proofs.Common.{◌≡◌, ℕ, ◌+◌, ◌≤◌, Bool, true, false, cond, ◌&&◌, ◌||◌, List, [], ◌∷◌, Option, Some, None, ◌∙◌, refl, sym, ap, arith}
use Rattle.chess_board.specs.declared.board.Move.{Move}
use Rattle.protocol_tokens.specs.declared.kinds.GoKind.{GoKind}
use Rattle.protocol_tokens.specs.declared.kinds.GoKind.TheVariants as kinds
use Rattle.driver_state_machine.specs.declared.words.GoClocks.{GoClocks}
use Rattle.driver_state_machine.specs.declared.words.Thought.{Thought}
use Rattle.driver_state_machine.specs.declared.words.OpenSearch.{OpenSearch}
use Rattle.driver_state_machine.specs.declared.words.AfterAnalysis.{AfterAnalysis}
use Rattle.driver_state_machine.specs.declared.words.AfterAnalysis.TheVariants.{Answer, Play}
use Rattle.driver_state_machine.specs.declared.words.Phase.{Phase}
use Rattle.driver_state_machine.specs.declared.words.Phase.TheVariants.{Thinks, Analyses, Rests, Leaves, WaitsToThink, WaitsToAnalyse}
use Rattle.driver_state_machine.specs.declared.driver_state.DriverStage.{DriverStage}
use Rattle.driver_state_machine.specs.declared.driver_state.DriverStage.TheVariants as stages
use Rattle.driver_state_machine.specs.declared.driver_state.DriverState.{DriverState}
use Rattle.driver_state_machine.specs.declared.driver_state.DriverTurn.{DriverTurn}
use Rattle.driver_state_machine.specs.declared.driver_state.Reach.{Reach}
use Rattle.driver_state_machine.specs.declared.driver_state.Reach.TheVariants as reaches
use Rattle.driver_state_machine.specs.declared.driver_state.WantedSearch.{WantedSearch}
use Rattle.driver_state_machine.specs.declared.driver_state.DriverCall.{DriverCall}
use Rattle.driver_state_machine.specs.declared.driver_state.DriverCall.TheVariants as calls
use Rattle.driver_state_machine.specs.DriverState.{driver_turn_of, quiet, engine_thinks, thinks_in, resume_in, search_at, is_free_at, is_awaited, without_awaited, stopped, hit, hit_by, resumed, kept, played_by, opened_by, begin_by, begin_from, begun, after_go, driver_after_stop, after_ponderhit, after_pong, after_thought, after_moved, after_resigned, after_ended, driver_after_quit, after_uci, after_ready, is_open_stage, begin_moveless, hit_resting, thinking_on, reaches_depth}
use Rattle.driver_state_machine.specs.Laws as laws
use Rattle.driver_state_machine.specs.Laws.{state_after_calls, is_accepted, is_search_open, is_stop_reaching, one_if, orders_thinking, writes_prompt, one_more_if, prompts, reaches_in, is_deep, was_deep, PromptsAreDue, PromptsOnce}
use Rattle.driver_state_machine.proofs.Counts.{talk_of}
use Rattle.driver_state_machine.proofs.Busy.{search_of}

-- the facts of a phase: so often `?` was written, and whether a `stop` and a line of the depth came
abbrev pub Fits : ℕ → Bool → Bool → Phase → Type 0
Fits n st deep (Thinks false) = (n ≡ 0) × ((st || deep) ≡ false)
Fits n st deep (Thinks true) = (n ≡ 1) × ((st || deep) ≡ true)
Fits n st deep (WaitsToThink false) = (n ≡ 0) × (st ≡ false)
Fits n st deep (WaitsToThink true) = (n ≡ 0) × (st ≡ true)
Fits n st deep Analyses = (n ≡ 0) × (st ≡ false)
Fits n st deep Rests = (n ≡ 0) × (st ≡ false)
Fits n st deep (Leaves Play) = (n ≡ 0) × (st ≡ false)
Fits n st deep (Leaves Answer) = (n ≡ 0) × Unit {0}
Fits n st deep (WaitsToAnalyse None) = (n ≡ 0) × (st ≡ false)
Fits n st deep (WaitsToAnalyse (Some Play)) = (n ≡ 0) × (st ≡ false)
Fits n st deep (WaitsToAnalyse (Some Answer)) = (n ≡ 0) × Unit {0}

abbrev pub FitsIn : ℕ → Bool → Bool → Option OpenSearch → Type 0
FitsIn n st deep None = n ≤ 1
FitsIn n st deep (Some s) = Fits n st deep s.phase

-- the same after a turn
abbrev Keeps : ℕ → Bool → Bool → DriverTurn → Type 0
Keeps n st deep r =
    FitsIn (one_more_if (writes_prompt r.action.down) n) st (cond (orders_thinking r.action.down) false deep) r.talk.search

few : (n : ℕ) (st deep : Bool) (p : Phase) → Fits n st deep p → n ≤ 1
few n st deep (Thinks false) h = omega (arith, h.0)
few n st deep (Thinks true) h = omega (arith, h.0)
few n st deep (WaitsToThink false) h = omega (arith, h.0)
few n st deep (WaitsToThink true) h = omega (arith, h.0)
few n st deep Analyses h = omega (arith, h.0)
few n st deep Rests h = omega (arith, h.0)
few n st deep (Leaves Play) h = omega (arith, h.0)
few n st deep (Leaves Answer) h = omega (arith, h.0)
few n st deep (WaitsToAnalyse None) h = omega (arith, h.0)
few n st deep (WaitsToAnalyse (Some Play)) h = omega (arith, h.0)
few n st deep (WaitsToAnalyse (Some Answer)) h = omega (arith, h.0)

few_in : (n : ℕ) (st deep : Bool) (search : Option OpenSearch) → FitsIn n st deep search → n ≤ 1
few_in n st deep None h = h
few_in n st deep (Some s) h = few n st deep s.phase h

one : (n : ℕ) → n ≡ 0 → n + 1 ≡ 1
one n e = ap (λ (x : ℕ). x + 1) e

not_yet : (st : Bool) → st ≡ false → (st || false) ≡ false
not_yet true e = e
not_yet false e = refl

already : (st : Bool) → st ≡ true → (st || false) ≡ true
already true e = refl
already false e = e

or_true : (st deep : Bool) → (st || (true || deep)) ≡ true
or_true true deep = refl
or_true false deep = refl

or_more : (st b deep : Bool) → (st || deep) ≡ true → (st || (b || deep)) ≡ true
or_more true b deep e = refl
or_more false true deep e = refl
or_more false false deep e = e

-- CALLS

stop_phase : (n : ℕ) (st deep gone : Bool) (awaited : Option ℕ) (pings : ℕ) (kind : GoKind) (clocks : GoClocks) (best : Option Move) (p : Phase) → Fits n st deep p
    → Keeps n true deep (stopped (talk_of stages.Open gone awaited pings (Some (search_of kind clocks best p))) (search_of kind clocks best p) p)
stop_phase n st deep gone awaited pings kind clocks best (Thinks false) h = (one n h.0, refl)
stop_phase n st deep gone awaited pings kind clocks best (Thinks true) h = (h.0, refl)
stop_phase n st deep gone awaited pings kind clocks best Analyses h = (h.0, tt)
stop_phase n st deep gone awaited pings kind clocks best Rests h = few n st deep Rests h
stop_phase n st deep gone awaited pings kind clocks best (Leaves Play) h = (h.0, tt)
stop_phase n st deep gone awaited pings kind clocks best (Leaves Answer) h = h
stop_phase n st deep gone awaited pings kind clocks best (WaitsToThink false) h = (h.0, refl)
stop_phase n st deep gone awaited pings kind clocks best (WaitsToThink true) h = (h.0, refl)
stop_phase n st deep gone awaited pings kind clocks best (WaitsToAnalyse None) h = (h.0, tt)
stop_phase n st deep gone awaited pings kind clocks best (WaitsToAnalyse (Some Play)) h = (h.0, tt)
stop_phase n st deep gone awaited pings kind clocks best (WaitsToAnalyse (Some Answer)) h = h

stop_keeps : (n : ℕ) (st deep : Bool) (stage : DriverStage) (gone : Bool) (awaited : Option ℕ) (pings : ℕ) (search : Option OpenSearch) → FitsIn n st deep search
    → Keeps n ((is_open_stage stage && is_search_open search) || st) deep (driver_after_stop (talk_of stage gone awaited pings search))
stop_keeps n st deep stages.Open gone awaited pings None h = h
stop_keeps n st deep stages.Open gone awaited pings (Some s) h = stop_phase n st deep gone awaited pings s.kind s.clocks s.kept s.phase h
stop_keeps n st deep stages.Fresh gone awaited pings search h = h
stop_keeps n st deep stages.Over gone awaited pings search h = h

play_fits : (n : ℕ) (st deep : Bool) (awaited : Option ℕ) (t : DriverState) (s : OpenSearch) (clocks : GoClocks) → n ≡ 0 → st ≡ false → Keeps n st deep (played_by awaited t s clocks)
play_fits n st deep None t s clocks z unstopped = (z, not_yet st unstopped)
play_fits n st deep (Some ping) t s clocks z unstopped = (z, unstopped)

rest_fits : (n : ℕ) (st deep : Bool) (best : Option Move) (t : DriverState) (s : OpenSearch) → n ≡ 0 → st ≡ false → Keeps n st deep (hit_resting best t s)
rest_fits n st deep None t s z unstopped = omega (arith, z)
rest_fits n st deep (Some m) t s z unstopped = play_fits n st deep t.awaited t s s.clocks z unstopped

hit_phase : (n : ℕ) (st deep gone : Bool) (awaited : Option ℕ) (pings : ℕ) (kind : GoKind) (clocks : GoClocks) (best : Option Move) (p : Phase) → Fits n st deep p
    → Keeps n st deep (hit (talk_of stages.Open gone awaited pings (Some (search_of kind clocks best p))) (search_of kind clocks best p) p)
hit_phase n st deep gone awaited pings kind clocks best Analyses h = h
hit_phase n st deep gone awaited pings kind clocks best Rests h = rest_fits n st deep best (talk_of stages.Open gone awaited pings (Some (search_of kind clocks best Rests))) (search_of kind clocks best Rests) h.0 h.1
hit_phase n st deep gone awaited pings kind clocks best (WaitsToAnalyse None) h = h
hit_phase n st deep gone awaited pings kind clocks best (WaitsToAnalyse (Some next)) h = h
hit_phase n st deep gone awaited pings kind clocks best (Thinks at_once) h = h
hit_phase n st deep gone awaited pings kind clocks best (Leaves next) h = h
hit_phase n st deep gone awaited pings kind clocks best (WaitsToThink at_once) h = h

hit_kind : (n : ℕ) (st deep gone : Bool) (awaited : Option ℕ) (pings : ℕ) (s : OpenSearch) (kind : GoKind) → Fits n st deep s.phase
    → Keeps n st deep (hit_by kind (talk_of stages.Open gone awaited pings (Some s)) s)
hit_kind n st deep gone awaited pings s kinds.Ponder h = hit_phase n st deep gone awaited pings s.kind s.clocks s.kept s.phase h
hit_kind n st deep gone awaited pings s kinds.Move h = h
hit_kind n st deep gone awaited pings s kinds.Analyse h = h

hit_keeps : (n : ℕ) (st deep : Bool) (stage : DriverStage) (gone : Bool) (awaited : Option ℕ) (pings : ℕ) (search : Option OpenSearch) → FitsIn n st deep search
    → Keeps n st deep (after_ponderhit (talk_of stage gone awaited pings search))
hit_keeps n st deep stages.Open gone awaited pings None h = h
hit_keeps n st deep stages.Open gone awaited pings (Some s) h = hit_kind n st deep gone awaited pings s s.kind h
hit_keeps n st deep stages.Fresh gone awaited pings search h = h
hit_keeps n st deep stages.Over gone awaited pings search h = h

moved_phase : (n : ℕ) (st deep gone : Bool) (awaited : Option ℕ) (pings : ℕ) (kind : GoKind) (clocks : GoClocks) (best : Option Move) (p : Phase) (shown : Option Move) → Fits n st deep p
    → Keeps n st deep (after_moved (talk_of stages.Open gone awaited pings (Some (search_of kind clocks best p))) shown)
moved_phase n st deep gone awaited pings kind clocks best (Thinks at_once) shown h = few n st deep (Thinks at_once) h
moved_phase n st deep gone awaited pings kind clocks best p shown h = h

moved_keeps : (n : ℕ) (st deep : Bool) (stage : DriverStage) (gone : Bool) (awaited : Option ℕ) (pings : ℕ) (search : Option OpenSearch) (shown : Option Move) → FitsIn n st deep search
    → Keeps n st deep (after_moved (talk_of stage gone awaited pings search) shown)
moved_keeps n st deep stages.Open gone awaited pings None shown h = h
moved_keeps n st deep stages.Open gone awaited pings (Some s) shown h = moved_phase n st deep gone awaited pings s.kind s.clocks s.kept s.phase shown h
moved_keeps n st deep stages.Fresh gone awaited pings search shown h = h
moved_keeps n st deep stages.Over gone awaited pings search shown h = h

resigned_phase : (n : ℕ) (st deep gone : Bool) (awaited : Option ℕ) (pings : ℕ) (kind : GoKind) (clocks : GoClocks) (best : Option Move) (p : Phase) → Fits n st deep p
    → Keeps n st deep (after_resigned (talk_of stages.Open gone awaited pings (Some (search_of kind clocks best p))))
resigned_phase n st deep gone awaited pings kind clocks best (Thinks at_once) h = few n st deep (Thinks at_once) h
resigned_phase n st deep gone awaited pings kind clocks best p h = h

resigned_keeps : (n : ℕ) (st deep : Bool) (stage : DriverStage) (gone : Bool) (awaited : Option ℕ) (pings : ℕ) (search : Option OpenSearch) → FitsIn n st deep search
    → Keeps n st deep (after_resigned (talk_of stage gone awaited pings search))
resigned_keeps n st deep stages.Open gone awaited pings None h = h
resigned_keeps n st deep stages.Open gone awaited pings (Some s) h = resigned_phase n st deep gone awaited pings s.kind s.clocks s.kept s.phase h
resigned_keeps n st deep stages.Fresh gone awaited pings search h = h
resigned_keeps n st deep stages.Over gone awaited pings search h = h

later_fits : (n : ℕ) (st deep : Bool) (next : AfterAnalysis) → Fits n st deep (WaitsToAnalyse (Some next)) → Fits n st deep (Leaves next)
later_fits n st deep Play h = h
later_fits n st deep Answer h = h

resume_phase : (n : ℕ) (st deep gone : Bool) (awaited : Option ℕ) (pings : ℕ) (kind : GoKind) (clocks : GoClocks) (best : Option Move) (p : Phase) → Fits n st deep p
    → Keeps n st deep (resumed (talk_of stages.Open gone None pings (Some (search_of kind clocks best p))) (search_of kind clocks best p) p)
resume_phase n st deep gone awaited pings kind clocks best (Leaves Answer) h = few n st deep (Leaves Answer) h
resume_phase n st deep gone awaited pings kind clocks best (Leaves Play) h = (h.0, not_yet st h.1)
resume_phase n st deep gone awaited pings kind clocks best (WaitsToThink false) h = (h.0, not_yet st h.1)
resume_phase n st deep gone awaited pings kind clocks best (WaitsToThink true) h = (one n h.0, already st h.1)
resume_phase n st deep gone awaited pings kind clocks best (WaitsToAnalyse None) h = h
resume_phase n st deep gone awaited pings kind clocks best (WaitsToAnalyse (Some next)) h = later_fits n st deep next h
resume_phase n st deep gone awaited pings kind clocks best Analyses h = h
resume_phase n st deep gone awaited pings kind clocks best Rests h = h
resume_phase n st deep gone awaited pings kind clocks best (Thinks at_once) h = h

pong_search : (n : ℕ) (st deep gone : Bool) (awaited : Option ℕ) (pings : ℕ) (search : Option OpenSearch) (b : Bool) → FitsIn n st deep search
    → Keeps n st deep (cond b (resume_in search (without_awaited (talk_of stages.Open gone awaited pings search))) (quiet (talk_of stages.Open gone awaited pings search)))
pong_search n st deep gone awaited pings None true h = h
pong_search n st deep gone awaited pings (Some s) true h = resume_phase n st deep gone awaited pings s.kind s.clocks s.kept s.phase h
pong_search n st deep gone awaited pings search false h = h

pong_keeps : (n : ℕ) (st deep : Bool) (stage : DriverStage) (gone : Bool) (awaited : Option ℕ) (pings : ℕ) (search : Option OpenSearch) (number : ℕ) → FitsIn n st deep search
    → Keeps n st deep (after_pong (talk_of stage gone awaited pings search) number)
pong_keeps n st deep stages.Open gone awaited pings search number h = pong_search n st deep gone awaited pings search (is_awaited awaited number) h
pong_keeps n st deep stages.Fresh gone awaited pings search number h = h
pong_keeps n st deep stages.Over gone awaited pings search number h = h

think_fits : (b : Bool) (n : ℕ) (st deep : Bool) (t : DriverState) (s : OpenSearch) (thought : Thought) → n ≡ 0 → (st || deep) ≡ false → Keeps n st (b || deep) (thinking_on b t s thought)
think_fits true n st deep t s thought z unstopped = (one n z, or_true st deep)
think_fits false n st deep t s thought z unstopped = (z, unstopped)

keep_phase : (n : ℕ) (st deep gone : Bool) (awaited : Option ℕ) (pings : ℕ) (kind : GoKind) (clocks : GoClocks) (best : Option Move) (p : Phase) (thought : Thought) → Fits n st deep p
    → Keeps n st ((engine_thinks p && reaches_depth clocks thought) || deep) (kept (talk_of stages.Open gone awaited pings (Some (search_of kind clocks best p))) (search_of kind clocks best p) p thought)
keep_phase n st deep gone awaited pings kind clocks best (Thinks false) thought h =
    think_fits (reaches_depth clocks thought) n st deep (talk_of stages.Open gone awaited pings (Some (search_of kind clocks best (Thinks false)))) (search_of kind clocks (Some thought.best) (Thinks false)) thought h.0 h.1
keep_phase n st deep gone awaited pings kind clocks best (Thinks true) thought h = (h.0, or_more st (reaches_depth clocks thought) deep h.1)
keep_phase n st deep gone awaited pings kind clocks best Analyses thought h = h
keep_phase n st deep gone awaited pings kind clocks best Rests thought h = h
keep_phase n st deep gone awaited pings kind clocks best (Leaves next) thought h = h
keep_phase n st deep gone awaited pings kind clocks best (WaitsToThink at_once) thought h = h
keep_phase n st deep gone awaited pings kind clocks best (WaitsToAnalyse later) thought h = h

thought_keeps : (n : ℕ) (st deep : Bool) (stage : DriverStage) (gone : Bool) (awaited : Option ℕ) (pings : ℕ) (search : Option OpenSearch) (thought : Thought) → FitsIn n st deep search
    → Keeps n st (reaches_in (search_at stage search) thought || deep) (after_thought (talk_of stage gone awaited pings search) thought)
thought_keeps n st deep stages.Open gone awaited pings None thought h = h
thought_keeps n st deep stages.Open gone awaited pings (Some s) thought h = keep_phase n st deep gone awaited pings s.kind s.clocks s.kept s.phase thought h
thought_keeps n st deep stages.Fresh gone awaited pings search thought h = h
thought_keeps n st deep stages.Over gone awaited pings search thought h = h

ended_keeps : (n : ℕ) (st deep : Bool) (stage : DriverStage) (gone : Bool) (awaited : Option ℕ) (pings : ℕ) (search : Option OpenSearch) → FitsIn n st deep search
    → Keeps n st deep (after_ended (talk_of stage gone awaited pings search))
ended_keeps n st deep stages.Open gone awaited pings None h = h
ended_keeps n st deep stages.Open gone awaited pings (Some s) h = few n st deep s.phase h
ended_keeps n st deep stages.Fresh gone awaited pings search h = h
ended_keeps n st deep stages.Over gone awaited pings search h = h

quit_keeps : (n : ℕ) (st deep : Bool) (stage : DriverStage) (gone : Bool) (awaited : Option ℕ) (pings : ℕ) (search : Option OpenSearch) → FitsIn n st deep search
    → Keeps n st deep (driver_after_quit (talk_of stage gone awaited pings search))
quit_keeps n st deep stages.Open true awaited pings search h = h
quit_keeps n st deep stages.Open false awaited pings search h = h
quit_keeps n st deep stages.Fresh true awaited pings search h = h
quit_keeps n st deep stages.Fresh false awaited pings search h = h
quit_keeps n st deep stages.Over gone awaited pings search h = h

uci_keeps : (n : ℕ) (st deep : Bool) (stage : DriverStage) (gone : Bool) (awaited : Option ℕ) (pings : ℕ) (search : Option OpenSearch) → FitsIn n st deep search
    → Keeps n st deep (after_uci (talk_of stage gone awaited pings search))
uci_keeps n st deep stages.Open gone awaited pings search h = h
uci_keeps n st deep stages.Fresh true awaited pings search h = h
uci_keeps n st deep stages.Fresh false awaited pings search h = h
uci_keeps n st deep stages.Over gone awaited pings search h = h

ready_keeps : (n : ℕ) (st deep : Bool) (stage : DriverStage) (gone : Bool) (awaited : Option ℕ) (pings : ℕ) (search : Option OpenSearch) → FitsIn n st deep search
    → Keeps n st deep (after_ready (talk_of stage gone awaited pings search))
ready_keeps n st deep stages.Open gone awaited pings search h = h
ready_keeps n st deep stages.Fresh gone awaited pings search h = h
ready_keeps n st deep stages.Over gone awaited pings search h = h

open_fits : (deep : Bool) (awaited : Option ℕ) (t : DriverState) (s : OpenSearch) (clocks : GoClocks) → Keeps 0 false deep (opened_by awaited t s clocks)
open_fits deep None t s clocks = (refl, refl)
open_fits deep (Some ping) t s clocks = (refl, refl)

begin_fits : (deep gone : Bool) (awaited : Option ℕ) (pings : ℕ) (reach : Reach) (kind : GoKind) (s : OpenSearch) (clocks : GoClocks)
    → Keeps 0 false deep (begin_by reach kind (talk_of stages.Open gone awaited pings None) s clocks)
begin_fits deep gone awaited pings reaches.Nothing kind s clocks = omega arith
begin_fits deep gone awaited pings reaches.Play kinds.Move s clocks = play_fits 0 false deep awaited (talk_of stages.Open gone awaited pings None) s clocks refl refl
begin_fits deep gone awaited pings reaches.Play kinds.Ponder s clocks = (refl, refl)
begin_fits deep gone awaited pings reaches.Play kinds.Analyse s clocks = (refl, refl)
begin_fits deep gone awaited pings reaches.Analyse kinds.Move s clocks = play_fits 0 false deep awaited (talk_of stages.Open gone awaited pings None) s clocks refl refl
begin_fits deep gone awaited pings reaches.Analyse kinds.Ponder s clocks = open_fits deep awaited (talk_of stages.Open gone awaited pings None) s clocks
begin_fits deep gone awaited pings reaches.Analyse kinds.Analyse s clocks = open_fits deep awaited (talk_of stages.Open gone awaited pings None) s clocks

moveless_fits : (deep gone : Bool) (awaited : Option ℕ) (pings : ℕ) (kind : GoKind) (w : WantedSearch)
    → Keeps 0 false deep (begin_moveless kind (talk_of stages.Open gone awaited pings None) w)
moveless_fits deep gone awaited pings kinds.Move w = omega arith
moveless_fits deep gone awaited pings kinds.Ponder w = (refl, refl)
moveless_fits deep gone awaited pings kinds.Analyse w = (refl, refl)

first_fits : (deep : Bool) (first : Option Move) (gone : Bool) (awaited : Option ℕ) (pings : ℕ) (w : WantedSearch)
    → Keeps 0 false deep (begin_from first gone (talk_of stages.Open gone awaited pings None) w)
first_fits deep None true awaited pings w = omega arith
first_fits deep None false awaited pings w = moveless_fits deep false awaited pings w.kind w
first_fits deep (Some best) true awaited pings w = omega arith
first_fits deep (Some best) false awaited pings w = begin_fits deep false awaited pings w.reach w.kind (begun w (Some best) Rests) w.clocks

go_keeps : (n : ℕ) (st deep : Bool) (stage : DriverStage) (gone : Bool) (awaited : Option ℕ) (pings : ℕ) (search : Option OpenSearch) (w : WantedSearch) → FitsIn n st deep search
    → Keeps (cond (is_free_at stage search) 0 n) (cond (is_free_at stage search) false (false || st)) deep (after_go (talk_of stage gone awaited pings search) w)
go_keeps n st deep stages.Open gone awaited pings None w h = first_fits deep w.first gone awaited pings w
go_keeps n st deep stages.Open gone awaited pings (Some s) w h = h
go_keeps n st deep stages.Fresh gone awaited pings search w h = h
go_keeps n st deep stages.Over gone awaited pings search w h = h

call_keeps : (n : ℕ) (st deep : Bool) (t : DriverState) (c : DriverCall) → FitsIn n st deep t.search
    → Keeps (cond (is_accepted t c) 0 n) (cond (is_accepted t c) false (is_stop_reaching t c || st)) (is_deep t c || deep) (driver_turn_of t c)
unfolding driver_turn_of
call_keeps n st deep t calls.Other h = h
call_keeps n st deep t calls.Quit h = quit_keeps n st deep t.stage t.gone t.awaited t.pings t.search h
call_keeps n st deep t calls.Uci h = uci_keeps n st deep t.stage t.gone t.awaited t.pings t.search h
call_keeps n st deep t calls.IsReady h = ready_keeps n st deep t.stage t.gone t.awaited t.pings t.search h
call_keeps n st deep t (calls.Go w) h = go_keeps n st deep t.stage t.gone t.awaited t.pings t.search w h
call_keeps n st deep t calls.Stop h = stop_keeps n st deep t.stage t.gone t.awaited t.pings t.search h
call_keeps n st deep t calls.PonderHit h = hit_keeps n st deep t.stage t.gone t.awaited t.pings t.search h
call_keeps n st deep t (calls.Moved shown) h = moved_keeps n st deep t.stage t.gone t.awaited t.pings t.search shown h
call_keeps n st deep t calls.Resigned h = resigned_keeps n st deep t.stage t.gone t.awaited t.pings t.search h
call_keeps n st deep t (calls.Pong number) h = pong_keeps n st deep t.stage t.gone t.awaited t.pings t.search number h
call_keeps n st deep t (calls.Thought thought) h = thought_keeps n st deep t.stage t.gone t.awaited t.pings t.search thought h
call_keeps n st deep t calls.Ended h = ended_keeps n st deep t.stage t.gone t.awaited t.pings t.search h

pub run_fits : (cs : List DriverCall) → FitsIn (prompts cs) (laws.got_stop cs) (was_deep cs) (state_after_calls cs).search
run_fits [] = omega arith
run_fits (c ∷ cs) = call_keeps (prompts cs) (laws.got_stop cs) (was_deep cs) (state_after_calls cs) c (run_fits cs)

-- THE LAWS

pub prompts_once : PromptsOnce
prompts_once cs = few_in (prompts cs) (laws.got_stop cs) (was_deep cs) (state_after_calls cs).search (run_fits cs)

due_phase : (n : ℕ) (st deep : Bool) (p : Phase) → Fits n st deep p → engine_thinks p ≡ true → n ≡ one_if (st || deep)
due_phase n st deep (Thinks false) h e = h.0 ∙ sym (ap one_if h.1)
due_phase n st deep (Thinks true) h e = h.0 ∙ sym (ap one_if h.1)
due_phase n st deep p h e = absurd (cc)

due_in : (n : ℕ) (st deep : Bool) (stage : DriverStage) (search : Option OpenSearch) → FitsIn n st deep search → thinks_in (search_at stage search) ≡ true → n ≡ one_if (st || deep)
due_in n st deep stages.Open None h e = absurd (cc)
due_in n st deep stages.Open (Some s) h e = due_phase n st deep s.phase h e
due_in n st deep stages.Fresh search h e = absurd (cc)
due_in n st deep stages.Over search h e = absurd (cc)

pub prompts_are_due : PromptsAreDue
prompts_are_due cs e = due_in (prompts cs) (laws.got_stop cs) (was_deep cs) (state_after_calls cs).stage (state_after_calls cs).search (run_fits cs) e
