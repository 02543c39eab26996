-- The behaviour of an open search.
use Rattle.std.proofs.Common.{◌≡◌, ℕ, ◌⊎◌, inl, inr, Bool, true, false, cond, ◌&&◌, ◌||◌, List, [], ◌∷◌, Option, Some, None, IsSome, ◌∙◌, refl, ap, subst}
use Rattle.chess_board.specs.declared.board.Move.{Move}
use Rattle.protocol_tokens.specs.declared.kinds.GoKind.{GoKind}
use Rattle.protocol_tokens.specs.declared.kinds.GoKind.TheVariants as kinds
use Rattle.driver_state_machine.specs.declared.words.GoClocks.{GoClocks}
use Rattle.driver_state_machine.specs.declared.words.Thought.{Thought}
use Rattle.driver_state_machine.specs.declared.words.OpenSearch.{OpenSearch}
use Rattle.driver_state_machine.specs.declared.words.AfterAnalysis.{AfterAnalysis}
use Rattle.driver_state_machine.specs.declared.words.AfterAnalysis.TheVariants.{Answer, Play}
use Rattle.driver_state_machine.specs.declared.words.Phase.{Phase}
use Rattle.driver_state_machine.specs.declared.words.Phase.TheVariants.{Thinks, Analyses, Rests, Leaves, WaitsToThink, WaitsToAnalyse}
use Rattle.driver_state_machine.specs.declared.words.ToIface.TheVariants as ups
use Rattle.driver_state_machine.specs.declared.words.ToEngine.TheVariants as downs
use Rattle.driver_state_machine.specs.declared.words.BoardChange.TheVariants as boards
use Rattle.driver_state_machine.specs.declared.driver_state.DriverStage.{DriverStage}
use Rattle.driver_state_machine.specs.declared.driver_state.DriverStage.TheVariants as stages
use Rattle.driver_state_machine.specs.declared.driver_state.DriverState.{DriverState}
use Rattle.driver_state_machine.specs.declared.driver_state.DriverTurn.{DriverTurn}
use Rattle.driver_state_machine.specs.declared.driver_state.Reach.{Reach}
use Rattle.driver_state_machine.specs.declared.driver_state.Reach.TheVariants as reaches
use Rattle.driver_state_machine.specs.declared.driver_state.WantedSearch.{WantedSearch}
use Rattle.driver_state_machine.specs.declared.driver_state.DriverCall.{DriverCall}
use Rattle.driver_state_machine.specs.declared.driver_state.DriverCall.TheVariants as calls
use Rattle.driver_state_machine.specs.DriverState.{driver_turn_of, quiet, engine_thinks, closed, board_of, pinged, next_ping, resume_in, is_free_at, is_awaited, without_awaited, stopped, hit, hit_by, resumed, kept, played_by, opened_by, begin_by, begin_from, begun, after_go, driver_after_stop, after_ponderhit, after_thought, after_moved, after_resigned, after_ended, driver_after_quit, after_uci, after_ready, after_pong, is_open_stage, begin_moveless, thinking_on, reaches_depth}
use Rattle.driver_state_machine.specs.Laws as laws
use Rattle.driver_state_machine.specs.Laws.{state_after_calls, is_accepted, is_bestmove, orders_thinking, has_thinking_search, is_stop_reaching, is_ponderhit_reaching, search_goes_on, is_search_open, unanswered_ping, IsBusy, OpenIsBusy}
use Rattle.driver_state_machine.specs.declared.words.DriverAction.{DriverAction}
use Rattle.driver_state_machine.proofs.Counts.{talk_of}
use Rattle.driver_state_machine.proofs.Pings.{awaited_is_unanswered}

abbrev pub search_of : GoKind → GoClocks → Option Move → Phase → OpenSearch
search_of kind clocks best phase = record { kind = kind; clocks = clocks; kept = best; phase = phase }

-- true if a search of each kind goes on by itself
abbrev on_by : Bool → Bool → GoKind → Bool
on_by st ht kind = search_goes_on kind st ht

-- the facts of a phase
abbrev Fits : Bool → (GoKind → Bool) → Option ℕ → GoKind → Phase → Type 0
Fits th on awaited kind (Thinks at_once) = th ≡ true
Fits th on awaited kind Analyses = on kind ≡ true
Fits th on awaited kind Rests = on kind ≡ true
Fits th on awaited kind (Leaves next) = IsSome awaited
Fits th on awaited kind (WaitsToThink at_once) = IsSome awaited
Fits th on awaited kind (WaitsToAnalyse None) = (on kind ≡ true) × IsSome awaited
Fits th on awaited kind (WaitsToAnalyse (Some next)) = IsSome awaited

abbrev FitsIn : Bool → (GoKind → Bool) → Option ℕ → Option OpenSearch → Type 0
FitsIn th on awaited None = Unit {0}
FitsIn th on awaited (Some s) = Fits th on awaited s.kind s.phase

-- true if the engine was ordered to think, after this
abbrev later : Bool → DriverAction → Bool
later th d = cond (is_bestmove d.up) false (orders_thinking d.down || th)

abbrev Keeps : Bool → (GoKind → Bool) → DriverTurn → Type 0
Keeps th on r = FitsIn (later th r.action) on r.talk.awaited r.talk.search

stop_phase : (th : Bool) (on on' : GoKind → Bool) (gone : Bool) (awaited : Option ℕ) (pings : ℕ) (kind : GoKind) (clocks : GoClocks) (best : Option Move) (p : Phase) → Fits th on awaited kind p
    → Keeps th on' (stopped (talk_of stages.Open gone awaited pings (Some (search_of kind clocks best p))) (search_of kind clocks best p) p)
stop_phase th on on' gone awaited pings kind clocks best (Thinks false) h = h
stop_phase th on on' gone awaited pings kind clocks best (Thinks true) h = h
stop_phase th on on' gone awaited pings kind clocks best Analyses h = refl
stop_phase th on on' gone awaited pings kind clocks best Rests h = tt
stop_phase th on on' gone awaited pings kind clocks best (Leaves Play) h = h
stop_phase th on on' gone awaited pings kind clocks best (Leaves Answer) h = h
stop_phase th on on' gone awaited pings kind clocks best (WaitsToThink false) h = h
stop_phase th on on' gone awaited pings kind clocks best (WaitsToThink true) h = h
stop_phase th on on' gone awaited pings kind clocks best (WaitsToAnalyse None) h = h.1
stop_phase th on on' gone awaited pings kind clocks best (WaitsToAnalyse (Some Play)) h = h
stop_phase th on on' gone awaited pings kind clocks best (WaitsToAnalyse (Some Answer)) h = h

stop_keeps : (th st ht : Bool) (stage : DriverStage) (gone : Bool) (awaited : Option ℕ) (pings : ℕ) (search : Option OpenSearch) → FitsIn th (on_by st ht) awaited search
    → Keeps th (on_by ((is_open_stage stage && is_search_open search) || st) ht) (driver_after_stop (talk_of stage gone awaited pings search))
stop_keeps th st ht stages.Open gone awaited pings None h = tt
stop_keeps th st ht stages.Open gone awaited pings (Some s) h = stop_phase th (on_by st ht) (on_by true ht) gone awaited pings s.kind s.clocks s.kept s.phase h
stop_keeps th st ht stages.Fresh gone awaited pings search h = h
stop_keeps th st ht stages.Over gone awaited pings search h = h

play_fits : (th : Bool) (on : GoKind → Bool) (awaited : Option ℕ) (stage : DriverStage) (gone : Bool) (pings : ℕ) (search : Option OpenSearch) (s : OpenSearch) (clocks : GoClocks)
    → Keeps th on (played_by awaited (talk_of stage gone awaited pings search) s clocks)
play_fits th on None stage gone pings search s clocks = refl
play_fits th on (Some n) stage gone pings search s clocks = refl

analyse_fits : (th : Bool) (on : GoKind → Bool) (awaited : Option ℕ) (stage : DriverStage) (gone : Bool) (pings : ℕ) (search : Option OpenSearch) (s : OpenSearch) (clocks : GoClocks) → on s.kind ≡ true
    → Keeps th on (opened_by awaited (talk_of stage gone awaited pings search) s clocks)
analyse_fits th on None stage gone pings search s clocks h = h
analyse_fits th on (Some n) stage gone pings search s clocks h = (h, refl)

hit_phase : (th : Bool) (on on' : GoKind → Bool) (gone : Bool) (awaited : Option ℕ) (pings : ℕ) (kind : GoKind) (clocks : GoClocks) (best : Option Move) (p : Phase) → Fits th on awaited kind p
    → Keeps th on' (hit (talk_of stages.Open gone awaited pings (Some (search_of kind clocks best p))) (search_of kind clocks best p) p)
hit_phase th on on' gone awaited pings kind clocks best Analyses h = refl
hit_phase th on on' gone awaited pings kind clocks None Rests h = tt
hit_phase th on on' gone awaited pings kind clocks (Some m) Rests h = play_fits th on' awaited stages.Open gone pings (Some (search_of kind clocks (Some m) Rests)) (search_of kind clocks (Some m) Rests) clocks
hit_phase th on on' gone awaited pings kind clocks best (Thinks at_once) h = h
hit_phase th on on' gone awaited pings kind clocks best (Leaves next) h = h
hit_phase th on on' gone awaited pings kind clocks best (WaitsToThink at_once) h = h
hit_phase th on on' gone awaited pings kind clocks best (WaitsToAnalyse None) h = h.1
hit_phase th on on' gone awaited pings kind clocks best (WaitsToAnalyse (Some next)) h = h

-- a search that does not ponder goes on as it was
same_phase : (th : Bool) (on on' : GoKind → Bool) (awaited : Option ℕ) (kind : GoKind) (p : Phase) → on' kind ≡ on kind → Fits th on awaited kind p → Fits th on' awaited kind p
same_phase th on on' awaited kind (Thinks at_once) e h = h
same_phase th on on' awaited kind Analyses e h = e ∙ h
same_phase th on on' awaited kind Rests e h = e ∙ h
same_phase th on on' awaited kind (Leaves next) e h = h
same_phase th on on' awaited kind (WaitsToThink at_once) e h = h
same_phase th on on' awaited kind (WaitsToAnalyse None) e h = (e ∙ h.0, h.1)
same_phase th on on' awaited kind (WaitsToAnalyse (Some next)) e h = h

hit_kind : (th st ht gone : Bool) (awaited : Option ℕ) (pings : ℕ) (kind : GoKind) (clocks : GoClocks) (best : Option Move) (p : Phase) → Fits th (on_by st ht) awaited kind p
    → Keeps th (on_by st true) (hit_by kind (talk_of stages.Open gone awaited pings (Some (search_of kind clocks best p))) (search_of kind clocks best p))
hit_kind th st ht gone awaited pings kinds.Ponder clocks best p h = hit_phase th (on_by st ht) (on_by st true) gone awaited pings kinds.Ponder clocks best p h
hit_kind th st ht gone awaited pings kinds.Move clocks best p h = same_phase th (on_by st ht) (on_by st true) awaited kinds.Move p refl h
hit_kind th st ht gone awaited pings kinds.Analyse clocks best p h = same_phase th (on_by st ht) (on_by st true) awaited kinds.Analyse p refl h

hit_keeps : (th st ht : Bool) (stage : DriverStage) (gone : Bool) (awaited : Option ℕ) (pings : ℕ) (search : Option OpenSearch) → FitsIn th (on_by st ht) awaited search
    → Keeps th (on_by st ((is_open_stage stage && is_search_open search) || ht)) (after_ponderhit (talk_of stage gone awaited pings search))
hit_keeps th st ht stages.Open gone awaited pings None h = tt
hit_keeps th st ht stages.Open gone awaited pings (Some s) h = hit_kind th st ht gone awaited pings s.kind s.clocks s.kept s.phase h
hit_keeps th st ht stages.Fresh gone awaited pings search h = h
hit_keeps th st ht stages.Over gone awaited pings search h = h

moved_phase : (th : Bool) (on : GoKind → Bool) (gone : Bool) (awaited : Option ℕ) (pings : ℕ) (kind : GoKind) (clocks : GoClocks) (best : Option Move) (p : Phase) (shown : Option Move) → Fits th on awaited kind p
    → Keeps th on (after_moved (talk_of stages.Open gone awaited pings (Some (search_of kind clocks best p))) shown)
moved_phase th on gone awaited pings kind clocks best (Thinks at_once) shown h = tt
moved_phase th on gone awaited pings kind clocks best p shown h = h

moved_keeps : (th : Bool) (on : GoKind → Bool) (stage : DriverStage) (gone : Bool) (awaited : Option ℕ) (pings : ℕ) (search : Option OpenSearch) (shown : Option Move) → FitsIn th on awaited search
    → Keeps th on (after_moved (talk_of stage gone awaited pings search) shown)
moved_keeps th on stages.Open gone awaited pings None shown h = tt
moved_keeps th on stages.Open gone awaited pings (Some s) shown h = moved_phase th on gone awaited pings s.kind s.clocks s.kept s.phase shown h
moved_keeps th on stages.Fresh gone awaited pings search shown h = h
moved_keeps th on stages.Over gone awaited pings search shown h = h

resigned_phase : (th : Bool) (on : GoKind → Bool) (gone : Bool) (awaited : Option ℕ) (pings : ℕ) (kind : GoKind) (clocks : GoClocks) (best : Option Move) (p : Phase) → Fits th on awaited kind p
    → Keeps th on (after_resigned (talk_of stages.Open gone awaited pings (Some (search_of kind clocks best p))))
resigned_phase th on gone awaited pings kind clocks best (Thinks at_once) h = tt
resigned_phase th on gone awaited pings kind clocks best p h = h

resigned_keeps : (th : Bool) (on : GoKind → Bool) (stage : DriverStage) (gone : Bool) (awaited : Option ℕ) (pings : ℕ) (search : Option OpenSearch) → FitsIn th on awaited search
    → Keeps th on (after_resigned (talk_of stage gone awaited pings search))
resigned_keeps th on stages.Open gone awaited pings None h = tt
resigned_keeps th on stages.Open gone awaited pings (Some s) h = resigned_phase th on gone awaited pings s.kind s.clocks s.kept s.phase h
resigned_keeps th on stages.Fresh gone awaited pings search h = h
resigned_keeps th on stages.Over gone awaited pings search h = h

-- a phase that does not wait for the ping goes on as it was
resume_phase : (th : Bool) (on : GoKind → Bool) (gone : Bool) (awaited : Option ℕ) (pings : ℕ) (kind : GoKind) (clocks : GoClocks) (best : Option Move) (p : Phase) → Fits th on awaited kind p
    → Keeps th on (resumed (talk_of stages.Open gone None pings (Some (search_of kind clocks best p))) (search_of kind clocks best p) p)
resume_phase th on gone awaited pings kind clocks best (Leaves Answer) h = tt
resume_phase th on gone awaited pings kind clocks best (Leaves Play) h = refl
resume_phase th on gone awaited pings kind clocks best (WaitsToThink at_once) h = refl
resume_phase th on gone awaited pings kind clocks best (WaitsToAnalyse None) h = h.0
resume_phase th on gone awaited pings kind clocks best (WaitsToAnalyse (Some next)) h = refl
resume_phase th on gone awaited pings kind clocks best Analyses h = h
resume_phase th on gone awaited pings kind clocks best Rests h = h
resume_phase th on gone awaited pings kind clocks best (Thinks at_once) h = h

pong_search : (th : Bool) (on : GoKind → Bool) (gone : Bool) (awaited : Option ℕ) (pings : ℕ) (search : Option OpenSearch) (b : Bool) → FitsIn th on awaited search
    → Keeps th on (cond b (resume_in search (without_awaited (talk_of stages.Open gone awaited pings search))) (quiet (talk_of stages.Open gone awaited pings search)))
pong_search th on gone awaited pings None true h = tt
pong_search th on gone awaited pings (Some s) true h = resume_phase th on gone awaited pings s.kind s.clocks s.kept s.phase h
pong_search th on gone awaited pings search false h = h

pong_keeps : (th : Bool) (on : GoKind → Bool) (stage : DriverStage) (gone : Bool) (awaited : Option ℕ) (pings : ℕ) (search : Option OpenSearch) (n : ℕ) → FitsIn th on awaited search
    → Keeps th on (after_pong (talk_of stage gone awaited pings search) n)
pong_keeps th on stages.Open gone awaited pings search n h = pong_search th on gone awaited pings search (is_awaited awaited n) h
pong_keeps th on stages.Fresh gone awaited pings search n h = h
pong_keeps th on stages.Over gone awaited pings search n h = h

think_keeps : (b th : Bool) (on : GoKind → Bool) (t : DriverState) (s : OpenSearch) (thought : Thought) → th ≡ true → Keeps th on (thinking_on b t s thought)
think_keeps true th on t s thought h = h
think_keeps false th on t s thought h = h

keep_phase : (th : Bool) (on : GoKind → Bool) (gone : Bool) (awaited : Option ℕ) (pings : ℕ) (kind : GoKind) (clocks : GoClocks) (best : Option Move) (p : Phase) (thought : Thought) → Fits th on awaited kind p
    → Keeps th on (kept (talk_of stages.Open gone awaited pings (Some (search_of kind clocks best p))) (search_of kind clocks best p) p thought)
keep_phase th on gone awaited pings kind clocks best (Thinks false) thought h = think_keeps (reaches_depth clocks thought) th on (talk_of stages.Open gone awaited pings (Some (search_of kind clocks best (Thinks false)))) (search_of kind clocks (Some thought.best) (Thinks false)) thought h
keep_phase th on gone awaited pings kind clocks best (Thinks true) thought h = h
keep_phase th on gone awaited pings kind clocks best Analyses thought h = h
keep_phase th on gone awaited pings kind clocks best Rests thought h = h
keep_phase th on gone awaited pings kind clocks best p thought h = h

thought_keeps : (th : Bool) (on : GoKind → Bool) (stage : DriverStage) (gone : Bool) (awaited : Option ℕ) (pings : ℕ) (search : Option OpenSearch) (thought : Thought) → FitsIn th on awaited search
    → Keeps th on (after_thought (talk_of stage gone awaited pings search) thought)
thought_keeps th on stages.Open gone awaited pings None thought h = tt
thought_keeps th on stages.Open gone awaited pings (Some s) thought h = keep_phase th on gone awaited pings s.kind s.clocks s.kept s.phase thought h
thought_keeps th on stages.Fresh gone awaited pings search thought h = h
thought_keeps th on stages.Over gone awaited pings search thought h = h

ended_keeps : (th : Bool) (on : GoKind → Bool) (stage : DriverStage) (gone : Bool) (awaited : Option ℕ) (pings : ℕ) (search : Option OpenSearch) → FitsIn th on awaited search
    → Keeps th on (after_ended (talk_of stage gone awaited pings search))
ended_keeps th on stages.Open gone awaited pings None h = tt
ended_keeps th on stages.Open gone awaited pings (Some s) h = tt
ended_keeps th on stages.Fresh gone awaited pings search h = h
ended_keeps th on stages.Over gone awaited pings search h = h

quit_keeps : (th : Bool) (on : GoKind → Bool) (stage : DriverStage) (gone : Bool) (awaited : Option ℕ) (pings : ℕ) (search : Option OpenSearch) → FitsIn th on awaited search
    → Keeps th on (driver_after_quit (talk_of stage gone awaited pings search))
quit_keeps th on stages.Open true awaited pings search h = h
quit_keeps th on stages.Open false awaited pings search h = h
quit_keeps th on stages.Fresh true awaited pings search h = h
quit_keeps th on stages.Fresh false awaited pings search h = h
quit_keeps th on stages.Over gone awaited pings search h = h

uci_keeps : (th : Bool) (on : GoKind → Bool) (stage : DriverStage) (gone : Bool) (awaited : Option ℕ) (pings : ℕ) (search : Option OpenSearch) → FitsIn th on awaited search
    → Keeps th on (after_uci (talk_of stage gone awaited pings search))
uci_keeps th on stages.Open gone awaited pings search h = h
uci_keeps th on stages.Fresh true awaited pings search h = h
uci_keeps th on stages.Fresh false awaited pings search h = h
uci_keeps th on stages.Over gone awaited pings search h = h

ready_keeps : (th : Bool) (on : GoKind → Bool) (stage : DriverStage) (gone : Bool) (awaited : Option ℕ) (pings : ℕ) (search : Option OpenSearch) → FitsIn th on awaited search
    → Keeps th on (after_ready (talk_of stage gone awaited pings search))
ready_keeps th on stages.Open gone awaited pings search h = h
ready_keeps th on stages.Fresh gone awaited pings search h = h
ready_keeps th on stages.Over gone awaited pings search h = h

begin_keeps : (th gone : Bool) (awaited : Option ℕ) (pings : ℕ) (reach : Reach) (kind : GoKind) (clocks : GoClocks) (best : Option Move)
    → Keeps th (on_by false false) (begin_by reach kind (talk_of stages.Open gone awaited pings None) (search_of kind clocks best Rests) clocks)
begin_keeps th gone awaited pings reaches.Nothing kind clocks best = tt
begin_keeps th gone awaited pings reaches.Play kinds.Move clocks best = play_fits th (on_by false false) awaited stages.Open gone pings None (search_of kinds.Move clocks best Rests) clocks
begin_keeps th gone awaited pings reaches.Play kinds.Ponder clocks best = refl
begin_keeps th gone awaited pings reaches.Play kinds.Analyse clocks best = refl
begin_keeps th gone awaited pings reaches.Analyse kinds.Move clocks best = play_fits th (on_by false false) awaited stages.Open gone pings None (search_of kinds.Move clocks best Rests) clocks
begin_keeps th gone awaited pings reaches.Analyse kinds.Ponder clocks best = analyse_fits th (on_by false false) awaited stages.Open gone pings None (search_of kinds.Ponder clocks best Rests) clocks refl
begin_keeps th gone awaited pings reaches.Analyse kinds.Analyse clocks best = analyse_fits th (on_by false false) awaited stages.Open gone pings None (search_of kinds.Analyse clocks best Rests) clocks refl

moveless_keeps : (th : Bool) (awaited : Option ℕ) (pings : ℕ) (kind : GoKind) (w : WantedSearch) → w.kind ≡ kind
    → Keeps th (on_by false false) (begin_moveless kind (talk_of stages.Open false awaited pings None) w)
moveless_keeps th awaited pings kinds.Move w e = tt
moveless_keeps th awaited pings kinds.Ponder w e = ap (on_by false false) e
moveless_keeps th awaited pings kinds.Analyse w e = ap (on_by false false) e

first_keeps : (th : Bool) (first : Option Move) (gone : Bool) (awaited : Option ℕ) (pings : ℕ) (w : WantedSearch)
    → Keeps th (on_by false false) (begin_from first gone (talk_of stages.Open gone awaited pings None) w)
first_keeps th None true awaited pings w = tt
first_keeps th None false awaited pings w = moveless_keeps th awaited pings w.kind w refl
first_keeps th (Some best) true awaited pings w = tt
first_keeps th (Some best) false awaited pings w = begin_keeps th false awaited pings w.reach w.kind w.clocks (Some best)

go_keeps : (th st ht : Bool) (stage : DriverStage) (gone : Bool) (awaited : Option ℕ) (pings : ℕ) (search : Option OpenSearch) (w : WantedSearch) → FitsIn th (on_by st ht) awaited search
    → Keeps th (on_by (cond (is_free_at stage search) false (false || st)) (cond (is_free_at stage search) false (false || ht))) (after_go (talk_of stage gone awaited pings search) w)
go_keeps th st ht stages.Open gone awaited pings None w h = first_keeps th w.first gone awaited pings w
go_keeps th st ht stages.Open gone awaited pings (Some s) w h = h
go_keeps th st ht stages.Fresh gone awaited pings search w h = h
go_keeps th st ht stages.Over gone awaited pings search w h = h

call_keeps : (th st ht : Bool) (t : DriverState) (c : DriverCall) → FitsIn th (on_by st ht) t.awaited t.search
    → Keeps th (on_by (cond (is_accepted t c) false (is_stop_reaching t c || st)) (cond (is_accepted t c) false (is_ponderhit_reaching t c || ht))) (driver_turn_of t c)
unfolding driver_turn_of
call_keeps th st ht t calls.Other h = h
call_keeps th st ht t calls.Quit h = quit_keeps th (on_by st ht) t.stage t.gone t.awaited t.pings t.search h
call_keeps th st ht t calls.Uci h = uci_keeps th (on_by st ht) t.stage t.gone t.awaited t.pings t.search h
call_keeps th st ht t calls.IsReady h = ready_keeps th (on_by st ht) t.stage t.gone t.awaited t.pings t.search h
call_keeps th st ht t (calls.Go w) h = go_keeps th st ht t.stage t.gone t.awaited t.pings t.search w h
call_keeps th st ht t calls.Stop h = stop_keeps th st ht t.stage t.gone t.awaited t.pings t.search h
call_keeps th st ht t calls.PonderHit h = hit_keeps th st ht t.stage t.gone t.awaited t.pings t.search h
call_keeps th st ht t (calls.Moved shown) h = moved_keeps th (on_by st ht) t.stage t.gone t.awaited t.pings t.search shown h
call_keeps th st ht t calls.Resigned h = resigned_keeps th (on_by st ht) t.stage t.gone t.awaited t.pings t.search h
call_keeps th st ht t (calls.Pong n) h = pong_keeps th (on_by st ht) t.stage t.gone t.awaited t.pings t.search n h
call_keeps th st ht t (calls.Thought thought) h = thought_keeps th (on_by st ht) t.stage t.gone t.awaited t.pings t.search thought h
call_keeps th st ht t calls.Ended h = ended_keeps th (on_by st ht) t.stage t.gone t.awaited t.pings t.search h

-- the search that goes on after these calls
abbrev on_after : List DriverCall → GoKind → Bool
on_after cs = on_by (laws.got_stop cs) (laws.got_ponderhit cs)

run_fits : (cs : List DriverCall) → FitsIn (has_thinking_search cs) (on_after cs) (state_after_calls cs).awaited (state_after_calls cs).search
run_fits [] = tt
run_fits (c ∷ cs) = call_keeps (has_thinking_search cs) (laws.got_stop cs) (laws.got_ponderhit cs) (state_after_calls cs) c (run_fits cs)

busy_phase : (th : Bool) (on : GoKind → Bool) (awaited : Option ℕ) (kind : GoKind) (p : Phase) → Fits th on awaited kind p → (th ≡ true) ⊎ ((on kind ≡ true) ⊎ IsSome awaited)
busy_phase th on awaited kind (Thinks at_once) h = inl h
busy_phase th on awaited kind Analyses h = inr (inl h)
busy_phase th on awaited kind Rests h = inr (inl h)
busy_phase th on awaited kind (Leaves next) h = inr (inr h)
busy_phase th on awaited kind (WaitsToThink at_once) h = inr (inr h)
busy_phase th on awaited kind (WaitsToAnalyse None) h = inr (inr h.1)
busy_phase th on awaited kind (WaitsToAnalyse (Some next)) h = inr (inr h)

pub open_is_busy : OpenIsBusy
open_is_busy cs s e =
    let fits = subst (λ (x : Option OpenSearch). FitsIn (has_thinking_search cs) (on_after cs) (state_after_calls cs).awaited x) e (run_fits cs) in
    busy_phase (has_thinking_search cs) (on_after cs) (unanswered_ping cs) s.kind s.phase (subst (λ (x : Option ℕ). FitsIn (has_thinking_search cs) (on_after cs) x (Some s)) (awaited_is_unanswered cs) fits)
