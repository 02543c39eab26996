-- The ping that is awaited is the last that was written, and no search of the engine is begun before it is answered.
use Rattle.std.proofs.Common.{◌≡◌, ℕ, Bool, true, false, cond, ◌&&◌, List, [], ◌∷◌, Option, Some, None, ◌∙◌, refl, sym, subst, arith}
use Rattle.std.specs.Prelude.{◌==◌}
use Rattle.std.proofs.lemmas.Bool.Decides.{nat_tests}
use Rattle.std.specs.Option.{option_or}
use Rattle.chess_board.specs.declared.board.Move.{Move}
use Rattle.protocol_tokens.specs.declared.kinds.GoKind.{GoKind}
use Rattle.protocol_tokens.specs.declared.kinds.GoKind.TheVariants as kinds
use Rattle.driver_state_machine.specs.declared.words.GoClocks.{GoClocks}
use Rattle.driver_state_machine.specs.declared.words.Thought.{Thought}
use Rattle.driver_state_machine.specs.declared.words.OpenSearch.{OpenSearch}
use Rattle.driver_state_machine.specs.declared.words.AfterAnalysis.TheVariants.{Answer, Play}
use Rattle.driver_state_machine.specs.declared.words.Phase.{Phase}
use Rattle.driver_state_machine.specs.declared.words.Phase.TheVariants.{Thinks, Analyses, Rests, Leaves, WaitsToThink, WaitsToAnalyse}
use Rattle.driver_state_machine.specs.declared.driver_state.DriverStage.{DriverStage}
use Rattle.driver_state_machine.specs.declared.driver_state.DriverStage.TheVariants as stages
use Rattle.driver_state_machine.specs.declared.driver_state.DriverState.{DriverState}
use Rattle.driver_state_machine.specs.declared.driver_state.DriverTurn.{DriverTurn}
use Rattle.driver_state_machine.specs.declared.driver_state.Reach.{Reach}
use Rattle.driver_state_machine.specs.declared.driver_state.Reach.TheVariants as reaches
use Rattle.driver_state_machine.specs.declared.driver_state.WantedSearch.{WantedSearch}
use Rattle.driver_state_machine.specs.declared.driver_state.DriverCall.{DriverCall}
use Rattle.driver_state_machine.specs.declared.driver_state.DriverCall.TheVariants as calls
use Rattle.driver_state_machine.specs.DriverState.{driver_turn_of, quiet, open_search, is_awaited, without_awaited, stopped, stop_in, hit, hit_by, hit_in, resumed, resume_in, kept, thought_in, played_by, opened_by, begin_by, begin_from, is_free, closed, board_of, pinged, next_ping, quit_at, uci_at, unless_gone, ready_at, ended_in, without_engine, is_open_stage, is_thinking, begin_moveless, hit_resting, thinking_on, reaches_depth}
use Rattle.driver_state_machine.specs.DriverState as talks
use Rattle.driver_state_machine.specs.declared.words.ToIface.TheVariants as ups
use Rattle.driver_state_machine.specs.declared.words.ToEngine.TheVariants as downs
use Rattle.driver_state_machine.specs.declared.words.BoardChange.TheVariants as boards
use Rattle.driver_state_machine.specs.Laws.{state_after_calls, written_ping, last_ping, less_pong, unanswered_ping, message_begins_search, IsAnswered, AwaitedWasWritten, AwaitedIsUnanswered, PongsComeFirst}

-- THE PING THAT IS AWAITED

-- the pongs that are awaited after a turn, if this is left of those that were awaited before
abbrev Awaits : Option ℕ → DriverTurn → Type 0
Awaits left r = r.talk.awaited ≡ option_or (written_ping r.action.down) left

stop_phase : (t : DriverState) (s : OpenSearch) (p : Phase) → Awaits t.awaited (stopped t s p)
stop_phase t s (Thinks false) = refl
stop_phase t s (Thinks true) = refl
stop_phase t s Analyses = refl
stop_phase t s Rests = refl
stop_phase t s (Leaves Play) = refl
stop_phase t s (Leaves Answer) = refl
stop_phase t s (WaitsToThink false) = refl
stop_phase t s (WaitsToThink true) = refl
stop_phase t s (WaitsToAnalyse None) = refl
stop_phase t s (WaitsToAnalyse (Some Play)) = refl
stop_phase t s (WaitsToAnalyse (Some Answer)) = refl

stop_awaits : (t : DriverState) (search : Option OpenSearch) → Awaits t.awaited (stop_in search t)
stop_awaits t None = refl
stop_awaits t (Some s) = stop_phase t s s.phase

play_awaits : (awaited : Option ℕ) (t : DriverState) (s : OpenSearch) (clocks : GoClocks) → Awaits t.awaited (played_by awaited t s clocks)
play_awaits None t s clocks = refl
play_awaits (Some n) t s clocks = refl

open_awaits : (awaited : Option ℕ) (t : DriverState) (s : OpenSearch) (clocks : GoClocks) → Awaits t.awaited (opened_by awaited t s clocks)
open_awaits None t s clocks = refl
open_awaits (Some n) t s clocks = refl

rest_awaits : (best : Option Move) (t : DriverState) (s : OpenSearch) → Awaits t.awaited (hit_resting best t s)
rest_awaits None t s = refl
rest_awaits (Some m) t s = play_awaits t.awaited t s s.clocks

hit_phase : (t : DriverState) (s : OpenSearch) (p : Phase) → Awaits t.awaited (hit t s p)
hit_phase t s Analyses = refl
hit_phase t s Rests = rest_awaits s.kept t s
hit_phase t s (WaitsToAnalyse None) = refl
hit_phase t s p = refl

hit_kind : (t : DriverState) (s : OpenSearch) (kind : GoKind) → Awaits t.awaited (hit_by kind t s)
hit_kind t s kinds.Ponder = hit_phase t s s.phase
hit_kind t s kinds.Move = refl
hit_kind t s kinds.Analyse = refl

hit_awaits : (t : DriverState) (search : Option OpenSearch) → Awaits t.awaited (hit_in search t)
hit_awaits t None = refl
hit_awaits t (Some s) = hit_kind t s s.kind

moved_awaits : (t : DriverState) (shown : Option Move) (b : Bool)
    → Awaits t.awaited (cond b (record { talk = closed t; action = record { up = ups.Best shown; down = downs.Nothing; board = board_of shown } }) (quiet t))
moved_awaits t shown true = refl
moved_awaits t shown false = refl

resigned_awaits : (t : DriverState) (b : Bool)
    → Awaits t.awaited (cond b (record { talk = pinged (closed t); action = record { up = ups.Best None; down = downs.Retreat (next_ping t.pings); board = boards.Lost } }) (quiet t))
resigned_awaits t true = refl
resigned_awaits t false = refl

resume_phase : (t : DriverState) (s : OpenSearch) (p : Phase) → Awaits None (resumed (without_awaited t) s p)
resume_phase t s (Leaves Answer) = refl
resume_phase t s (Leaves Play) = refl
resume_phase t s (WaitsToThink at_once) = refl
resume_phase t s (WaitsToAnalyse None) = refl
resume_phase t s (WaitsToAnalyse (Some next)) = refl
resume_phase t s Analyses = refl
resume_phase t s Rests = refl
resume_phase t s (Thinks at_once) = refl

resume_awaits : (t : DriverState) (search : Option OpenSearch) → Awaits None (resume_in search (without_awaited t))
resume_awaits t None = refl
resume_awaits t (Some s) = resume_phase t s s.phase

pong_awaits : (t : DriverState) (b : Bool) → Awaits (cond b None t.awaited) (cond b (resume_in t.search (without_awaited t)) (quiet t))
pong_awaits t true = resume_awaits t t.search
pong_awaits t false = refl

think_awaits : (b : Bool) (t : DriverState) (s : OpenSearch) (thought : Thought) → Awaits t.awaited (thinking_on b t s thought)
think_awaits true t s thought = refl
think_awaits false t s thought = refl

keep_phase : (t : DriverState) (s : OpenSearch) (p : Phase) (thought : Thought) → Awaits t.awaited (kept t s p thought)
keep_phase t s (Thinks false) thought = think_awaits (reaches_depth s.clocks thought) t (talks.better s thought.best) thought
keep_phase t s (Thinks true) thought = refl
keep_phase t s Analyses thought = refl
keep_phase t s Rests thought = refl
keep_phase t s p thought = refl

thought_awaits : (t : DriverState) (search : Option OpenSearch) (thought : Thought) → Awaits t.awaited (thought_in search t thought)
thought_awaits t None thought = refl
thought_awaits t (Some s) thought = keep_phase t s s.phase thought

ended_awaits : (t : DriverState) (search : Option OpenSearch) → Awaits t.awaited (ended_in search (without_engine t))
ended_awaits t None = refl
ended_awaits t (Some s) = refl

quit_pings : (awaited : Option ℕ) (b : Bool) → awaited ≡ option_or (written_ping (unless_gone b downs.Quit)) awaited
quit_pings awaited true = refl
quit_pings awaited false = refl

quit_awaits : (t : DriverState) (stage : DriverStage) → Awaits t.awaited (quit_at t stage)
quit_awaits t stages.Over = refl
quit_awaits t stages.Open = quit_pings t.awaited t.gone
quit_awaits t stages.Fresh = quit_pings t.awaited t.gone

uci_pings : (awaited : Option ℕ) (b : Bool) → awaited ≡ option_or (written_ping (unless_gone b downs.Greeting)) awaited
uci_pings awaited true = refl
uci_pings awaited false = refl

uci_awaits : (t : DriverState) (stage : DriverStage) → Awaits t.awaited (uci_at t stage)
uci_awaits t stages.Over = refl
uci_awaits t stages.Open = refl
uci_awaits t stages.Fresh = uci_pings t.awaited t.gone

ready_awaits : (t : DriverState) (stage : DriverStage) → Awaits t.awaited (ready_at t stage)
ready_awaits t stages.Over = refl
ready_awaits t stages.Open = refl
ready_awaits t stages.Fresh = refl

begin_awaits : (t : DriverState) (reach : Reach) (kind : GoKind) (s : OpenSearch) (clocks : GoClocks) → Awaits t.awaited (begin_by reach kind t s clocks)
begin_awaits t reaches.Nothing kind s clocks = refl
begin_awaits t reaches.Play kinds.Move s clocks = play_awaits t.awaited t s clocks
begin_awaits t reaches.Play kinds.Ponder s clocks = refl
begin_awaits t reaches.Play kinds.Analyse s clocks = refl
begin_awaits t reaches.Analyse kinds.Move s clocks = play_awaits t.awaited t s clocks
begin_awaits t reaches.Analyse kinds.Ponder s clocks = open_awaits t.awaited t s clocks
begin_awaits t reaches.Analyse kinds.Analyse s clocks = open_awaits t.awaited t s clocks

moveless_awaits : (t : DriverState) (kind : GoKind) (w : WantedSearch) → Awaits t.awaited (begin_moveless kind t w)
moveless_awaits t kinds.Move w = refl
moveless_awaits t kinds.Ponder w = refl
moveless_awaits t kinds.Analyse w = refl

first_awaits : (t : DriverState) (first : Option Move) (gone : Bool) (w : WantedSearch) → Awaits t.awaited (begin_from first gone t w)
first_awaits t None true w = refl
first_awaits t None false w = moveless_awaits t w.kind w
first_awaits t (Some m) true w = refl
first_awaits t (Some m) false w = begin_awaits t w.reach w.kind (talks.begun w (Some m) Rests) w.clocks

go_awaits : (t : DriverState) (w : WantedSearch) (b : Bool) → Awaits t.awaited (cond b (begin_from w.first t.gone t w) (quiet t))
go_awaits t w true = first_awaits t w.first t.gone w
go_awaits t w false = refl

call_awaits : (t : DriverState) (c : DriverCall) → Awaits (less_pong c t t.awaited) (driver_turn_of t c)
unfolding driver_turn_of
call_awaits t calls.Other = refl
call_awaits t calls.Quit = quit_awaits t t.stage
call_awaits t calls.Uci = uci_awaits t t.stage
call_awaits t calls.IsReady = ready_awaits t t.stage
call_awaits t (calls.Go w) = go_awaits t w (is_free t)
call_awaits t calls.Stop = stop_awaits t (open_search t)
call_awaits t calls.PonderHit = hit_awaits t (open_search t)
call_awaits t (calls.Moved shown) = moved_awaits t shown (is_thinking t)
call_awaits t calls.Resigned = resigned_awaits t (is_thinking t)
call_awaits t (calls.Pong n) = pong_awaits t (is_open_stage t.stage && is_awaited t.awaited n)
call_awaits t (calls.Thought thought) = thought_awaits t (open_search t) thought
call_awaits t calls.Ended = ended_awaits t (open_search t)

pub awaited_is_unanswered : AwaitedIsUnanswered
awaited_is_unanswered [] = refl
awaited_is_unanswered (c ∷ cs) =
    subst (λ (x : Option ℕ). Awaits (less_pong c (state_after_calls cs) x) (driver_turn_of (state_after_calls cs) c)) (awaited_is_unanswered cs) (call_awaits (state_after_calls cs) c)

-- a ping that is left was there before
less_cond : (b : Bool) (ping : Option ℕ) (n : ℕ) → cond b None ping ≡ Some n → ping ≡ Some n
less_cond true ping n e = absurd (cc)
less_cond false ping n e = e

less_was : (c : DriverCall) (t : DriverState) (ping : Option ℕ) (n : ℕ) → less_pong c t ping ≡ Some n → ping ≡ Some n
less_was (calls.Pong m) t ping n e = less_cond (is_open_stage t.stage && is_awaited ping m) ping n e
less_was c t ping n e = e

last_by : (written left last : Option ℕ) (n : ℕ) → (left ≡ Some n → last ≡ Some n) → option_or written left ≡ Some n → option_or written last ≡ Some n
last_by (Some m) left last n h e = e
last_by None left last n h e = h e

unanswered_was_written : (cs : List DriverCall) (n : ℕ) → unanswered_ping cs ≡ Some n → last_ping cs ≡ Some n
unanswered_was_written [] n e = e
unanswered_was_written (c ∷ cs) n e =
    last_by (written_ping (driver_turn_of (state_after_calls cs) c).action.down) (less_pong c (state_after_calls cs) (unanswered_ping cs)) (last_ping cs) n
    (λ left. unanswered_was_written cs n (less_was c (state_after_calls cs) (unanswered_ping cs) n left)) e

pub awaited_was_written : AwaitedWasWritten
awaited_was_written cs n e = unanswered_was_written cs n (sym (awaited_is_unanswered cs) ∙ e)

-- PONGS COME FIRST

-- a turn that begins no search of the engine
abbrev Waits : DriverTurn → Type 0
Waits r = message_begins_search r.action.down ≡ true → ⊥

waits_quiet : (t : DriverState) → Waits (quiet t)
waits_quiet t e = absurd (cc)

stop_waits_in : (t : DriverState) (s : OpenSearch) (p : Phase) → Waits (stopped t s p)
stop_waits_in t s (Thinks false) e = absurd (cc)
stop_waits_in t s (Thinks true) e = absurd (cc)
stop_waits_in t s Analyses e = absurd (cc)
stop_waits_in t s Rests e = absurd (cc)
stop_waits_in t s (Leaves Play) e = absurd (cc)
stop_waits_in t s (Leaves Answer) e = absurd (cc)
stop_waits_in t s (WaitsToThink false) e = absurd (cc)
stop_waits_in t s (WaitsToThink true) e = absurd (cc)
stop_waits_in t s (WaitsToAnalyse None) e = absurd (cc)
stop_waits_in t s (WaitsToAnalyse (Some Play)) e = absurd (cc)
stop_waits_in t s (WaitsToAnalyse (Some Answer)) e = absurd (cc)

stop_waits : (t : DriverState) (search : Option OpenSearch) → Waits (stop_in search t)
stop_waits t None = waits_quiet t
stop_waits t (Some s) = stop_waits_in t s s.phase

-- a turn that begins a search only where no ping is awaited
abbrev Begins : Option ℕ → DriverTurn → Type 0
Begins awaited r = message_begins_search r.action.down ≡ true → awaited ≡ None

play_begins : (awaited : Option ℕ) (t : DriverState) (s : OpenSearch) (clocks : GoClocks) → Begins awaited (played_by awaited t s clocks)
play_begins None t s clocks e = refl
play_begins (Some n) t s clocks e = absurd (cc)

open_begins : (awaited : Option ℕ) (t : DriverState) (s : OpenSearch) (clocks : GoClocks) → Begins awaited (opened_by awaited t s clocks)
open_begins None t s clocks e = refl
open_begins (Some n) t s clocks e = absurd (cc)

rest_begins : (best : Option Move) (t : DriverState) (s : OpenSearch) → Begins t.awaited (hit_resting best t s)
rest_begins None t s e = absurd (cc)
rest_begins (Some m) t s e = play_begins t.awaited t s s.clocks e

hit_begins_in : (t : DriverState) (s : OpenSearch) (p : Phase) → Begins t.awaited (hit t s p)
hit_begins_in t s Rests e = rest_begins s.kept t s e
hit_begins_in t s Analyses e = absurd (cc)
hit_begins_in t s (WaitsToAnalyse None) e = absurd (cc)
hit_begins_in t s p e = absurd (waits_quiet t e)

hit_begins_by : (t : DriverState) (s : OpenSearch) (kind : GoKind) → Begins t.awaited (hit_by kind t s)
hit_begins_by t s kinds.Ponder e = hit_begins_in t s s.phase e
hit_begins_by t s kinds.Move e = absurd (waits_quiet t e)
hit_begins_by t s kinds.Analyse e = absurd (waits_quiet t e)

hit_begins : (t : DriverState) (search : Option OpenSearch) → Begins t.awaited (hit_in search t)
hit_begins t None e = absurd (waits_quiet t e)
hit_begins t (Some s) e = hit_begins_by t s s.kind e

begin_begins : (t : DriverState) (reach : Reach) (kind : GoKind) (s : OpenSearch) (clocks : GoClocks) → Begins t.awaited (begin_by reach kind t s clocks)
begin_begins t reaches.Nothing kind s clocks e = absurd (cc)
begin_begins t reaches.Play kinds.Move s clocks e = play_begins t.awaited t s clocks e
begin_begins t reaches.Play kinds.Ponder s clocks e = absurd (cc)
begin_begins t reaches.Play kinds.Analyse s clocks e = absurd (cc)
begin_begins t reaches.Analyse kinds.Move s clocks e = play_begins t.awaited t s clocks e
begin_begins t reaches.Analyse kinds.Ponder s clocks e = open_begins t.awaited t s clocks e
begin_begins t reaches.Analyse kinds.Analyse s clocks e = open_begins t.awaited t s clocks e

moveless_waits : (t : DriverState) (kind : GoKind) (w : WantedSearch) → Waits (begin_moveless kind t w)
moveless_waits t kinds.Move w e = absurd (cc)
moveless_waits t kinds.Ponder w e = absurd (cc)
moveless_waits t kinds.Analyse w e = absurd (cc)

first_begins : (t : DriverState) (first : Option Move) (gone : Bool) (w : WantedSearch) → Begins t.awaited (begin_from first gone t w)
first_begins t None true w e = absurd (cc)
first_begins t None false w e = absurd (moveless_waits t w.kind w e)
first_begins t (Some m) true w e = absurd (cc)
first_begins t (Some m) false w e = begin_begins t w.reach w.kind (talks.begun w (Some m) Rests) w.clocks e

go_begins : (t : DriverState) (w : WantedSearch) (b : Bool) → Begins t.awaited (cond b (begin_from w.first t.gone t w) (quiet t))
go_begins t w true e = first_begins t w.first t.gone w e
go_begins t w false e = absurd (waits_quiet t e)

moved_waits : (t : DriverState) (shown : Option Move) (b : Bool) → Waits (cond b (record { talk = closed t; action = record { up = ups.Best shown; down = downs.Nothing; board = board_of shown } }) (quiet t))
moved_waits t shown true e = absurd (cc)
moved_waits t shown false e = absurd (cc)

resigned_waits : (t : DriverState) (b : Bool) → Waits (cond b (record { talk = pinged (closed t); action = record { up = ups.Best None; down = downs.Retreat (next_ping t.pings); board = boards.Lost } }) (quiet t))
resigned_waits t true e = absurd (cc)
resigned_waits t false e = absurd (cc)

think_waits : (b : Bool) (t : DriverState) (s : OpenSearch) (thought : Thought) → Waits (thinking_on b t s thought)
think_waits true t s thought e = absurd (cc)
think_waits false t s thought e = absurd (cc)

keep_waits : (t : DriverState) (s : OpenSearch) (p : Phase) (thought : Thought) → Waits (kept t s p thought)
keep_waits t s (Thinks false) thought e = absurd (think_waits (reaches_depth s.clocks thought) t (talks.better s thought.best) thought e)
keep_waits t s (Thinks true) thought e = absurd (cc)
keep_waits t s Analyses thought e = absurd (cc)
keep_waits t s Rests thought e = absurd (cc)
keep_waits t s p thought e = waits_quiet t e

thought_waits : (t : DriverState) (search : Option OpenSearch) (thought : Thought) → Waits (thought_in search t thought)
thought_waits t None thought = waits_quiet t
thought_waits t (Some s) thought = keep_waits t s s.phase thought

ended_waits : (t : DriverState) (search : Option OpenSearch) → Waits (ended_in search t)
ended_waits t None = waits_quiet t
ended_waits t (Some s) = λ e. absurd (cc)

quit_begins : (b : Bool) → message_begins_search (unless_gone b downs.Quit) ≡ true → ⊥
quit_begins true e = absurd (cc)
quit_begins false e = absurd (cc)

quit_waits : (t : DriverState) (stage : DriverStage) → Waits (quit_at t stage)
quit_waits t stages.Over e = absurd (cc)
quit_waits t stages.Open e = quit_begins t.gone e
quit_waits t stages.Fresh e = quit_begins t.gone e

uci_begins : (b : Bool) → message_begins_search (unless_gone b downs.Greeting) ≡ true → ⊥
uci_begins true e = absurd (cc)
uci_begins false e = absurd (cc)

uci_waits : (t : DriverState) (stage : DriverStage) → Waits (uci_at t stage)
uci_waits t stages.Over e = absurd (cc)
uci_waits t stages.Open e = absurd (cc)
uci_waits t stages.Fresh e = uci_begins t.gone e

ready_waits : (t : DriverState) (stage : DriverStage) → Waits (ready_at t stage)
ready_waits t stages.Over e = absurd (cc)
ready_waits t stages.Open e = absurd (cc)
ready_waits t stages.Fresh e = absurd (cc)

answered_by_none : (awaited : Option ℕ) (c : DriverCall) → awaited ≡ None → IsAnswered awaited c
answered_by_none None c e = tt
answered_by_none (Some n) c e = absurd (cc)

same_number : (a b : ℕ) → (a == b) ≡ true → a ≡ b
same_number a b = grind (arith, nat_tests)

answered_by_pong : (awaited : Option ℕ) (n : ℕ) → is_awaited awaited n ≡ true → IsAnswered awaited (calls.Pong n)
answered_by_pong None n e = tt
answered_by_pong (Some ping) n e = same_number ping n e

pong_answers : (t : DriverState) (n : ℕ) (is_open awaits : Bool) → is_awaited t.awaited n ≡ awaits
    → message_begins_search (cond (is_open && awaits) (resume_in t.search (without_awaited t)) (quiet t)).action.down ≡ true → IsAnswered t.awaited (calls.Pong n)
pong_answers t n true true a e = answered_by_pong t.awaited n a
pong_answers t n true false a e = absurd (waits_quiet t e)
pong_answers t n false awaits a e = absurd (waits_quiet t e)

pub pongs_come_first : PongsComeFirst
unfolding driver_turn_of
pongs_come_first t calls.Other e = absurd (waits_quiet t e)
pongs_come_first t calls.Quit e = absurd (quit_waits t t.stage e)
pongs_come_first t calls.Uci e = absurd (uci_waits t t.stage e)
pongs_come_first t calls.IsReady e = absurd (ready_waits t t.stage e)
pongs_come_first t (calls.Go w) e = answered_by_none t.awaited (calls.Go w) (go_begins t w (is_free t) e)
pongs_come_first t calls.Stop e = absurd (stop_waits t (open_search t) e)
pongs_come_first t calls.PonderHit e = answered_by_none t.awaited calls.PonderHit (hit_begins t (open_search t) e)
pongs_come_first t (calls.Moved shown) e = absurd (moved_waits t shown (is_thinking t) e)
pongs_come_first t calls.Resigned e = absurd (resigned_waits t (is_thinking t) e)
pongs_come_first t (calls.Pong n) e = pong_answers t n (is_open_stage t.stage) (is_awaited t.awaited n) refl e
pongs_come_first t (calls.Thought thought) e = absurd (thought_waits t (open_search t) thought e)
pongs_come_first t calls.Ended e = absurd (ended_waits (without_engine t) (open_search t) e)
