-- `quit` is the last line to the engine.
use Rattle.std.proofs.Common.{◌≡◌, ◌⊎◌, inl, inr, ℕ, Bool, true, false, cond, ◌&&◌, List, [], ◌∷◌, Option, Some, None, refl, sym, ap, subst, ◌∙◌}
use Rattle.std.specs.List.{AllByRecursion}
use Rattle.chess_board.specs.declared.board.Move.{Move}
use Rattle.protocol_tokens.specs.declared.kinds.GoKind.{GoKind}
use Rattle.protocol_tokens.specs.declared.kinds.GoKind.TheVariants as kinds
use Rattle.driver_state_machine.specs.declared.words.GoClocks.{GoClocks}
use Rattle.driver_state_machine.specs.declared.words.Thought.{Thought}
use Rattle.driver_state_machine.specs.declared.words.OpenSearch.{OpenSearch}
use Rattle.driver_state_machine.specs.declared.words.AfterAnalysis.{AfterAnalysis}
use Rattle.driver_state_machine.specs.declared.words.AfterAnalysis.TheVariants.{Answer, Play}
use Rattle.driver_state_machine.specs.declared.words.Phase.{Phase}
use Rattle.driver_state_machine.specs.declared.words.Phase.TheVariants.{Thinks, Analyses, Rests, Leaves, WaitsToThink, WaitsToAnalyse}
use Rattle.driver_state_machine.specs.declared.words.ToIface.TheVariants as ups
use Rattle.driver_state_machine.specs.declared.words.ToEngine.{ToEngine}
use Rattle.driver_state_machine.specs.declared.words.ToEngine.TheVariants as downs
use Rattle.driver_state_machine.specs.declared.words.BoardChange.TheVariants as boards
use Rattle.driver_state_machine.specs.declared.driver_state.DriverStage.{DriverStage}
use Rattle.driver_state_machine.specs.declared.driver_state.DriverStage.TheVariants as stages
use Rattle.driver_state_machine.specs.declared.driver_state.DriverState.{DriverState}
use Rattle.driver_state_machine.specs.declared.driver_state.DriverTurn.{DriverTurn}
use Rattle.driver_state_machine.specs.declared.driver_state.Reach.{Reach}
use Rattle.driver_state_machine.specs.declared.driver_state.Reach.TheVariants as reaches
use Rattle.driver_state_machine.specs.declared.driver_state.WantedSearch.{WantedSearch}
use Rattle.driver_state_machine.specs.declared.driver_state.DriverCall.{DriverCall}
use Rattle.driver_state_machine.specs.declared.driver_state.DriverCall.TheVariants as calls
use Rattle.driver_state_machine.specs.DriverState.{begin_moveless, hit_resting, thinking_on, reaches_depth, better}
use Rattle.driver_state_machine.specs.DriverState.{driver_turn_of, quiet, next_ping, board_of, closed, pinged, resume_in, without_awaited, is_free, is_open_stage, is_awaited, is_thinking, open_search, stopped, stop_in, hit, hit_by, hit_in, resumed, kept, thought_in, ended_in, without_engine, played_by, opened_by, begin_by, begin_from, begun, quit_at, uci_at, ready_at, after_begin, unless_gone}
use Rattle.game_record.specs.Game.{Game}
use Rattle.driver_state_machine.specs.Lines.{DownLine}
use Rattle.cecp_driver.specs.SetUp.{SentGame}
use Rattle.cecp_driver.specs.Actions.{down_lines}
use Rattle.cecp_driver.specs.EngineGame.{IsNoQuit, DriverQuitIsLast, interface_is_gone}
use Rattle.cecp_driver.proofs.Good.{talk_of}
use Rattle.cecp_driver.proofs.Playing.{says_quit}

-- A TURN THAT IS NO `quit`

-- it writes no `quit`, and the interface has not given one by it
abbrev Stays : DriverState → DriverTurn → Type 0
Stays t r = (says_quit r.action.down ≡ false) × (interface_is_gone r.talk.stage ≡ interface_is_gone t.stage)

stop_phase : (t : DriverState) (s : OpenSearch) (p : Phase) → Stays t (stopped t s p)
stop_phase t s (Thinks false) = (refl, refl)
stop_phase t s (Thinks true) = (refl, refl)
stop_phase t s Analyses = (refl, refl)
stop_phase t s Rests = (refl, refl)
stop_phase t s (Leaves Play) = (refl, refl)
stop_phase t s (Leaves Answer) = (refl, refl)
stop_phase t s (WaitsToThink false) = (refl, refl)
stop_phase t s (WaitsToThink true) = (refl, refl)
stop_phase t s (WaitsToAnalyse None) = (refl, refl)
stop_phase t s (WaitsToAnalyse (Some Play)) = (refl, refl)
stop_phase t s (WaitsToAnalyse (Some Answer)) = (refl, refl)

stop_stays : (t : DriverState) (o : Option OpenSearch) → Stays t (stop_in o t)
stop_stays t None = (refl, refl)
stop_stays t (Some s) = stop_phase t s s.phase

play_stays : (o : Option ℕ) (t : DriverState) (s : OpenSearch) (c : GoClocks) → Stays t (played_by o t s c)
play_stays None t s c = (refl, refl)
play_stays (Some n) t s c = (refl, refl)

open_stays : (o : Option ℕ) (t : DriverState) (s : OpenSearch) (c : GoClocks) → Stays t (opened_by o t s c)
open_stays None t s c = (refl, refl)
open_stays (Some n) t s c = (refl, refl)

rest_stays : (best : Option Move) (t : DriverState) (s : OpenSearch) → Stays t (hit_resting best t s)
rest_stays None t s = (refl, refl)
rest_stays (Some m) t s = play_stays t.awaited t s s.clocks

hit_phase : (t : DriverState) (s : OpenSearch) (p : Phase) → Stays t (hit t s p)
hit_phase t s Analyses = (refl, refl)
hit_phase t s Rests = rest_stays s.kept t s
hit_phase t s (WaitsToAnalyse None) = (refl, refl)
hit_phase t s (WaitsToAnalyse (Some next)) = (refl, refl)
hit_phase t s (Thinks at_once) = (refl, refl)
hit_phase t s (Leaves next) = (refl, refl)
hit_phase t s (WaitsToThink at_once) = (refl, refl)

hit_kind : (t : DriverState) (s : OpenSearch) (kind : GoKind) → Stays t (hit_by kind t s)
hit_kind t s kinds.Ponder = hit_phase t s s.phase
hit_kind t s kinds.Move = (refl, refl)
hit_kind t s kinds.Analyse = (refl, refl)

hit_stays : (t : DriverState) (o : Option OpenSearch) → Stays t (hit_in o t)
hit_stays t None = (refl, refl)
hit_stays t (Some s) = hit_kind t s s.kind

begin_stays : (reach : Reach) (kind : GoKind) (t : DriverState) (s : OpenSearch) (c : GoClocks) → Stays t (begin_by reach kind t s c)
begin_stays reaches.Nothing kind t s c = (refl, refl)
begin_stays reaches.Play kinds.Move t s c = play_stays t.awaited t s c
begin_stays reaches.Play kinds.Ponder t s c = (refl, refl)
begin_stays reaches.Play kinds.Analyse t s c = (refl, refl)
begin_stays reaches.Analyse kinds.Move t s c = play_stays t.awaited t s c
begin_stays reaches.Analyse kinds.Ponder t s c = open_stays t.awaited t s c
begin_stays reaches.Analyse kinds.Analyse t s c = open_stays t.awaited t s c

moveless_stays : (kind : GoKind) (t : DriverState) (w : WantedSearch) → Stays t (begin_moveless kind t w)
moveless_stays kinds.Move t w = (refl, refl)
moveless_stays kinds.Ponder t w = (refl, refl)
moveless_stays kinds.Analyse t w = (refl, refl)

first_stays : (first : Option Move) (ended : Bool) (t : DriverState) (w : WantedSearch) → Stays t (begin_from first ended t w)
first_stays None true t w = (refl, refl)
first_stays None false t w = moveless_stays w.kind t w
first_stays (Some m) true t w = (refl, refl)
first_stays (Some m) false t w = begin_stays w.reach w.kind t (begun w (Some m) Rests) w.clocks

resume_phase : (t : DriverState) (s : OpenSearch) (p : Phase) → Stays t (resumed t s p)
resume_phase t s (Leaves Answer) = (refl, refl)
resume_phase t s (Leaves Play) = (refl, refl)
resume_phase t s (WaitsToThink at_once) = (refl, refl)
resume_phase t s (WaitsToAnalyse None) = (refl, refl)
resume_phase t s (WaitsToAnalyse (Some next)) = (refl, refl)
resume_phase t s (Thinks at_once) = (refl, refl)
resume_phase t s Analyses = (refl, refl)
resume_phase t s Rests = (refl, refl)

resume_stays : (t : DriverState) (o : Option OpenSearch) → Stays t (resume_in o t)
resume_stays t None = (refl, refl)
resume_stays t (Some s) = resume_phase t s s.phase

think_stays : (b : Bool) (t : DriverState) (s : OpenSearch) (thought : Thought) → Stays t (thinking_on b t s thought)
think_stays true t s thought = (refl, refl)
think_stays false t s thought = (refl, refl)

keep_phase : (t : DriverState) (s : OpenSearch) (p : Phase) (thought : Thought) → Stays t (kept t s p thought)
keep_phase t s (Thinks false) thought = think_stays (reaches_depth s.clocks thought) t (better s thought.best) thought
keep_phase t s (Thinks true) thought = (refl, refl)
keep_phase t s Analyses thought = (refl, refl)
keep_phase t s Rests thought = (refl, refl)
keep_phase t s (Leaves next) thought = (refl, refl)
keep_phase t s (WaitsToThink at_once) thought = (refl, refl)
keep_phase t s (WaitsToAnalyse later) thought = (refl, refl)

thought_stays : (t : DriverState) (o : Option OpenSearch) (thought : Thought) → Stays t (thought_in o t thought)
thought_stays t None thought = (refl, refl)
thought_stays t (Some s) thought = keep_phase t s s.phase thought

ended_stays : (t : DriverState) (o : Option OpenSearch) → Stays t (ended_in o (without_engine t))
ended_stays t None = (refl, refl)
ended_stays t (Some s) = (refl, refl)

uci_stays : (t : DriverState) (stage : DriverStage) → t.stage ≡ stage → Stays t (uci_at t stage)
uci_stays t stages.Fresh e = (greets t.gone, ap interface_is_gone (sym e))
  where
    greets : (b : Bool) → says_quit (unless_gone b downs.Greeting) ≡ false
    greets true = refl
    greets false = refl
uci_stays t stages.Open e = (refl, refl)
uci_stays t stages.Over e = (refl, refl)

ready_stays : (t : DriverState) (stage : DriverStage) → Stays t (ready_at t stage)
ready_stays t stages.Fresh = (refl, refl)
ready_stays t stages.Open = (refl, refl)
ready_stays t stages.Over = (refl, refl)

if_stays : (b : Bool) (t : DriverState) (r : DriverTurn) → Stays t r → Stays t (cond b r (quiet t))
if_stays true t r h = h
if_stays false t r h = (refl, refl)

abbrev pub is_quit : DriverCall → Bool
is_quit calls.Quit = true
is_quit c = false

turn_stays : (t : DriverState) (c : DriverCall) → is_quit c ≡ false → Stays t (driver_turn_of t c)
unfolding driver_turn_of
turn_stays t calls.Other q = (refl, refl)
turn_stays t calls.Quit q = absurd (cc)
turn_stays t calls.Uci q = uci_stays t t.stage refl
turn_stays t calls.IsReady q = ready_stays t t.stage
turn_stays t (calls.Go w) q = if_stays (is_free t) t (after_begin t w) (first_stays w.first t.gone t w)
turn_stays t calls.Stop q = stop_stays t (open_search t)
turn_stays t calls.PonderHit q = hit_stays t (open_search t)
turn_stays t (calls.Moved shown) q = if_stays (is_thinking t) t _ (refl, refl)
turn_stays t calls.Resigned q = if_stays (is_thinking t) t _ (refl, refl)
turn_stays t (calls.Pong n) q = if_stays (is_open_stage t.stage && is_awaited t.awaited n) t _ (resume_stays (without_awaited t) t.search)
turn_stays t (calls.Thought thought) q = thought_stays t (open_search t) thought
turn_stays t calls.Ended q = ended_stays t (open_search t)

-- AFTER `quit`

abbrev IsStill : DriverTurn → Type 0
IsStill r = (r.action.down ≡ downs.Nothing) × (interface_is_gone r.talk.stage ≡ true)

over_still : (gone : Bool) (awaited : Option ℕ) (pings : ℕ) (search : Option OpenSearch) (c : DriverCall) → IsStill (driver_turn_of (talk_of stages.Over gone awaited pings search) c)
unfolding driver_turn_of
over_still gone awaited pings search (calls.Go w) = (refl, refl)
over_still gone awaited pings search (calls.Pong n) = (refl, refl)
over_still gone awaited pings search calls.Other = (refl, refl)
over_still gone awaited pings search calls.Quit = (refl, refl)
over_still gone awaited pings search calls.Uci = (refl, refl)
over_still gone awaited pings search calls.IsReady = (refl, refl)
over_still gone awaited pings search calls.Stop = (refl, refl)
over_still gone awaited pings search calls.PonderHit = (refl, refl)
over_still gone awaited pings search (calls.Moved shown) = (refl, refl)
over_still gone awaited pings search calls.Resigned = (refl, refl)
over_still gone awaited pings search (calls.Thought thought) = (refl, refl)
over_still gone awaited pings search calls.Ended = (refl, refl)

-- IN A TURN

-- the line of a turn, if it is no `quit`
abbrev Unquit : Game → SentGame → Bool → DriverTurn → Type 0
Unquit g sent_game has_usermove r = says_quit r.action.down ≡ false → AllByRecursion IsNoQuit (down_lines sent_game g has_usermove r.action.down)

abbrev Quits : Bool → Game → SentGame → Bool → DriverTurn → Type 0
Quits before g sent_game has_usermove r = DriverQuitIsLast before (interface_is_gone r.talk.stage) (down_lines sent_game g has_usermove r.action.down)

gone_lines : (b : Bool) (g : Game) (sent_game : SentGame) (has_usermove : Bool) → DriverQuitIsLast false true (down_lines sent_game g has_usermove (unless_gone b downs.Quit))
gone_lines true g sent_game has_usermove = inl refl
gone_lines false g sent_game has_usermove = inr refl

quit_last : (g : Game) (sent_game : SentGame) (has_usermove : Bool) (t : DriverState) (stage : DriverStage) → interface_is_gone stage ≡ false → Quits false g sent_game has_usermove (quit_at t stage)
quit_last g sent_game has_usermove t stages.Fresh e = gone_lines t.gone g sent_game has_usermove
quit_last g sent_game has_usermove t stages.Open e = gone_lines t.gone g sent_game has_usermove
quit_last g sent_game has_usermove t stages.Over e = absurd (cc)

unquit_last : (now : Bool) (lines : List DownLine) → now ≡ false → AllByRecursion IsNoQuit lines → DriverQuitIsLast false now lines
unquit_last true lines e h = absurd (cc)
unquit_last false lines e h = h

before_quit : (g : Game) (sent_game : SentGame) (has_usermove : Bool) (t : DriverState) (c : DriverCall) → interface_is_gone t.stage ≡ false → Unquit g sent_game has_usermove (driver_turn_of t c) → Quits false g sent_game has_usermove (driver_turn_of t c)
unfolding driver_turn_of
before_quit g sent_game has_usermove t calls.Quit e h = quit_last g sent_game has_usermove t t.stage e
before_quit g sent_game has_usermove t c e h = let stays = turn_stays t c refl in unquit_last _ _ (stays.1 ∙ e) (h stays.0)

after_quit : (g : Game) (sent_game : SentGame) (has_usermove : Bool) (r : DriverTurn) → IsStill r → Quits true g sent_game has_usermove r
after_quit g sent_game has_usermove r s = (ap (down_lines sent_game g has_usermove) s.0, s.1)

quits_at : (stage : DriverStage) (gone : Bool) (awaited : Option ℕ) (pings : ℕ) (search : Option OpenSearch) (g : Game) (sent_game : SentGame) (has_usermove : Bool) (c : DriverCall)
    → Unquit g sent_game has_usermove (driver_turn_of (talk_of stage gone awaited pings search) c) → Quits (interface_is_gone stage) g sent_game has_usermove (driver_turn_of (talk_of stage gone awaited pings search) c)
quits_at stages.Over gone awaited pings search g sent_game has_usermove c h = after_quit g sent_game has_usermove (driver_turn_of (talk_of stages.Over gone awaited pings search) c) (over_still gone awaited pings search c)
quits_at stages.Fresh gone awaited pings search g sent_game has_usermove c h = before_quit g sent_game has_usermove (talk_of stages.Fresh gone awaited pings search) c refl h
quits_at stages.Open gone awaited pings search g sent_game has_usermove c h = before_quit g sent_game has_usermove (talk_of stages.Open gone awaited pings search) c refl h

pub call_quits : (g : Game) (sent_game : SentGame) (has_usermove : Bool) (t : DriverState) (c : DriverCall)
    → (says_quit (driver_turn_of t c).action.down ≡ false → AllByRecursion IsNoQuit (down_lines sent_game g has_usermove (driver_turn_of t c).action.down)) → DriverQuitIsLast (interface_is_gone t.stage) (interface_is_gone (driver_turn_of t c).talk.stage) (down_lines sent_game g has_usermove (driver_turn_of t c).action.down)
call_quits g sent_game has_usermove t c h = quits_at t.stage t.gone t.awaited t.pings t.search g sent_game has_usermove c h
