-- The output of each call can be written, and a search goes on to be served.
use Rattle.std.proofs.Common.{◌≡◌, ℕ, ◌≤◌, ◌⊎◌, inl, inr, Bool, true, false, cond, ◌&&◌, List, [], ◌∷◌, length, Option, Some, None, IfSome, refl, sym, ap, subst, arith}
use Rattle.chess_board.specs.declared.board.Move.{Move}
use Rattle.chess_board.specs.Place.{legal}
use Rattle.chess_board.proofs.LegalMoves.{is_legal}
use Rattle.game_record.specs.Game.{Game, current_position}
use Rattle.protocol_tokens.specs.declared.kinds.GoKind.{GoKind}
use Rattle.protocol_tokens.specs.declared.kinds.GoKind.TheVariants as kinds
use Rattle.driver_state_machine.specs.declared.words.GoClocks.{GoClocks}
use Rattle.driver_state_machine.specs.declared.words.Thought.{Thought}
use Rattle.driver_state_machine.specs.declared.words.OpenSearch.{OpenSearch}
use Rattle.driver_state_machine.specs.declared.words.AfterAnalysis.{AfterAnalysis}
use Rattle.driver_state_machine.specs.declared.words.AfterAnalysis.TheVariants.{Answer, Play}
use Rattle.driver_state_machine.specs.declared.words.Phase.{Phase}
use Rattle.driver_state_machine.specs.declared.words.Phase.TheVariants.{Thinks, Analyses, Rests, Leaves, WaitsToThink, WaitsToAnalyse}
use Rattle.driver_state_machine.specs.declared.words.ToIface.{ToIface}
use Rattle.driver_state_machine.specs.declared.words.ToIface.TheVariants as ups
use Rattle.driver_state_machine.specs.declared.words.ToEngine.{ToEngine}
use Rattle.driver_state_machine.specs.declared.words.ToEngine.TheVariants as downs
use Rattle.driver_state_machine.specs.declared.driver_state.DriverStage.{DriverStage}
use Rattle.driver_state_machine.specs.declared.driver_state.DriverStage.TheVariants as stages
use Rattle.driver_state_machine.specs.declared.driver_state.DriverState.{DriverState}
use Rattle.driver_state_machine.specs.declared.driver_state.DriverTurn.{DriverTurn}
use Rattle.driver_state_machine.specs.declared.driver_state.Reach.{Reach}
use Rattle.driver_state_machine.specs.declared.driver_state.Reach.TheVariants as reaches
use Rattle.driver_state_machine.specs.declared.driver_state.WantedSearch.{WantedSearch}
use Rattle.driver_state_machine.specs.declared.driver_state.DriverCall.{DriverCall}
use Rattle.driver_state_machine.specs.declared.driver_state.DriverCall.TheVariants as calls
use Rattle.driver_state_machine.specs.DriverState as talks
use Rattle.driver_state_machine.specs.DriverState.{begin_moveless, hit_resting, thinking_on, reaches_depth}
use Rattle.driver_state_machine.specs.DriverState.{driver_turn_of, quiet, resume_in, is_free_at, is_awaited, without_awaited, stopped, hit, hit_by, resumed, kept, played_by, opened_by, begin_by, begin_from, after_go, driver_after_stop, after_ponderhit, after_pong, after_thought, after_moved, after_resigned, after_ended, driver_after_quit, after_uci, after_ready}
use Rattle.cecp_driver.specs.declared.sent_game.TheConstants.{MOST_PLIES}
use Rattle.cecp_driver.specs.SetUp.{SentGame}
use Rattle.cecp_driver.specs.Actions.{FitsDown, CanPush, sent_after_line, sent_after_board}
use Rattle.cecp_driver.specs.DriverInvariant.{IsMoveless, IsSentGame, ServesKept, SearchesSentGame, OpenSearchIsServed}

abbrev pub talk_of : DriverStage → Bool → Option ℕ → ℕ → Option OpenSearch → DriverState
talk_of stage gone awaited pings search = record { stage = stage; gone = gone; awaited = awaited; pings = pings; search = search }

abbrev pub search_of : GoKind → GoClocks → Move → Phase → OpenSearch
search_of kind clocks best phase = record { kind = kind; clocks = clocks; kept = Some best; phase = phase }

-- a search that keeps the move that it is given, or none
abbrev pub search_with : GoKind → GoClocks → Option Move → Phase → OpenSearch
search_with kind clocks kept phase = record { kind = kind; clocks = clocks; kept = kept; phase = phase }

-- the moves that are passed up are legal
abbrev pub SaysLegal : Game → ToIface → Type 0
SaysLegal g (ups.Best best) = IfSome best (λ m. legal (current_position g) m ≡ true)
SaysLegal g (ups.Info thought) = legal (current_position g) thought.best ≡ true
SaysLegal g up = Unit {0}

-- a game that is set up is not too long, and an engine that goes on to think knows the ordered game
abbrev pub FitsSent : Game → SentGame → ToEngine → Type 0
FitsSent g sent_game (downs.Play clocks at_once) = length g.moves ≤ MOST_PLIES
FitsSent g sent_game (downs.Analyse clocks ping) = length g.moves ≤ MOST_PLIES
FitsSent g sent_game (downs.Resume clocks) = IsSentGame g sent_game
FitsSent g sent_game down = Unit {0}

pub fits_down : (g : Game) (sent_game : SentGame) (down : ToEngine) → FitsSent g sent_game down → FitsDown g down
fits_down g sent_game (downs.Play clocks at_once) f = f
fits_down g sent_game (downs.Analyse clocks ping) f = f
fits_down g sent_game down f = tt

-- the output of a turn can be written, and a search that is open then is served
abbrev pub IsGood : Game → SentGame → DriverTurn → Type 0
IsGood g sent_game r =
    SaysLegal g r.action.up × FitsSent g sent_game r.action.down × CanPush r.action.board (sent_after_line g r.action.down sent_game)
    × OpenSearchIsServed r.talk.search g (sent_after_board r.action.board (sent_after_line g r.action.down sent_game))

-- the first legal move, or there is none
abbrev pub FirstFits : Game → Option Move → Type 0
FirstFits g None = IsMoveless g
FirstFits g (Some m) = legal (current_position g) m ≡ true

-- the facts on the moves and the game of a call
abbrev pub CallFits : Game → DriverCall → Type 0
CallFits g (calls.Go w) = FirstFits g w.first × ((w.reach ≡ reaches.Nothing) ⊎ (length g.moves ≤ MOST_PLIES))
CallFits g (calls.Moved shown) = IfSome shown (λ m. legal (current_position g) m ≡ true)
CallFits g (calls.Thought thought) = legal (current_position g) thought.best ≡ true
CallFits g c = Unit {0}

stop_phase : (g : Game) (sent_game : SentGame) (gone : Bool) (awaited : Option ℕ) (pings : ℕ) (kind : GoKind) (clocks : GoClocks) (best : Move) (p : Phase) → legal (current_position g) best ≡ true → length g.moves ≤ MOST_PLIES → SearchesSentGame p g sent_game
    → IsGood g sent_game (stopped (talk_of stages.Open gone awaited pings (Some (search_of kind clocks best p))) (search_of kind clocks best p) p)
stop_phase g sent_game gone awaited pings kind clocks best (Thinks false) l n t = (tt, tt, tt, (l, n, t))
stop_phase g sent_game gone awaited pings kind clocks best (Thinks true) l n t = (tt, tt, tt, (l, n, t))
stop_phase g sent_game gone awaited pings kind clocks best Analyses l n t = (tt, tt, tt, (l, n, t))
stop_phase g sent_game gone awaited pings kind clocks best Rests l n t = (l, tt, tt, tt)
stop_phase g sent_game gone awaited pings kind clocks best (Leaves Play) l n t = (tt, tt, tt, (l, n, t))
stop_phase g sent_game gone awaited pings kind clocks best (Leaves Answer) l n t = (tt, tt, tt, (l, n, t))
stop_phase g sent_game gone awaited pings kind clocks best (WaitsToThink false) l n t = (tt, tt, tt, (l, n, t))
stop_phase g sent_game gone awaited pings kind clocks best (WaitsToThink true) l n t = (tt, tt, tt, (l, n, t))
stop_phase g sent_game gone awaited pings kind clocks best (WaitsToAnalyse None) l n t = (tt, tt, tt, (l, n, t))
stop_phase g sent_game gone awaited pings kind clocks best (WaitsToAnalyse (Some Play)) l n t = (tt, tt, tt, (l, n, t))
stop_phase g sent_game gone awaited pings kind clocks best (WaitsToAnalyse (Some Answer)) l n t = (tt, tt, tt, (l, n, t))

stop_kept : (g : Game) (sent_game : SentGame) (gone : Bool) (awaited : Option ℕ) (pings : ℕ) (kind : GoKind) (clocks : GoClocks) (kept : Option Move) (p : Phase) → ServesKept kept p g sent_game
    → IsGood g sent_game (stopped (talk_of stages.Open gone awaited pings (Some (search_with kind clocks kept p))) (search_with kind clocks kept p) p)
stop_kept g sent_game gone awaited pings kind clocks None Rests h = (tt, tt, tt, tt)
stop_kept g sent_game gone awaited pings kind clocks None p h = absurd h
stop_kept g sent_game gone awaited pings kind clocks (Some best) p h = stop_phase g sent_game gone awaited pings kind clocks best p h.0 h.1 h.2

stop_good : (g : Game) (sent_game : SentGame) (stage : DriverStage) (gone : Bool) (awaited : Option ℕ) (pings : ℕ) (search : Option OpenSearch) → OpenSearchIsServed search g sent_game
    → IsGood g sent_game (driver_after_stop (talk_of stage gone awaited pings search))
stop_good g sent_game stages.Open gone awaited pings None h = (tt, tt, tt, tt)
stop_good g sent_game stages.Open gone awaited pings (Some s) h = stop_kept g sent_game gone awaited pings s.kind s.clocks s.kept s.phase h
stop_good g sent_game stages.Fresh gone awaited pings search h = (tt, tt, tt, h)
stop_good g sent_game stages.Over gone awaited pings search h = (tt, tt, tt, h)

play_good : (g : Game) (sent_game : SentGame) (awaited : Option ℕ) (stage : DriverStage) (gone : Bool) (pings : ℕ) (search : Option OpenSearch) (kind : GoKind) (own : GoClocks) (best : Move) (p : Phase) (clocks : GoClocks)
    → legal (current_position g) best ≡ true → length g.moves ≤ MOST_PLIES → IsGood g sent_game (played_by awaited (talk_of stage gone awaited pings search) (search_of kind own best p) clocks)
play_good g sent_game None stage gone pings search kind own best p clocks l n = (tt, n, tt, (l, n, (refl, refl)))
play_good g sent_game (Some ping) stage gone pings search kind own best p clocks l n = (tt, tt, tt, (l, n, tt))

open_good : (g : Game) (sent_game : SentGame) (awaited : Option ℕ) (stage : DriverStage) (gone : Bool) (pings : ℕ) (search : Option OpenSearch) (kind : GoKind) (own : GoClocks) (best : Move) (p : Phase) (clocks : GoClocks)
    → legal (current_position g) best ≡ true → length g.moves ≤ MOST_PLIES → IsGood g sent_game (opened_by awaited (talk_of stage gone awaited pings search) (search_of kind own best p) clocks)
open_good g sent_game None stage gone pings search kind own best p clocks l n = (tt, n, tt, (l, n, (refl, refl)))
open_good g sent_game (Some ping) stage gone pings search kind own best p clocks l n = (tt, tt, tt, (l, n, tt))

hit_phase : (g : Game) (sent_game : SentGame) (gone : Bool) (awaited : Option ℕ) (pings : ℕ) (kind : GoKind) (clocks : GoClocks) (best : Move) (p : Phase) → legal (current_position g) best ≡ true → length g.moves ≤ MOST_PLIES → SearchesSentGame p g sent_game
    → IsGood g sent_game (hit (talk_of stages.Open gone awaited pings (Some (search_of kind clocks best p))) (search_of kind clocks best p) p)
hit_phase g sent_game gone awaited pings kind clocks best Analyses l n t = (tt, tt, tt, (l, n, t))
hit_phase g sent_game gone awaited pings kind clocks best Rests l n t = play_good g sent_game awaited stages.Open gone pings (Some (search_of kind clocks best Rests)) kind clocks best Rests clocks l n
hit_phase g sent_game gone awaited pings kind clocks best (WaitsToAnalyse None) l n t = (tt, tt, tt, (l, n, t))
hit_phase g sent_game gone awaited pings kind clocks best (WaitsToAnalyse (Some next)) l n t = (tt, tt, tt, (l, n, t))
hit_phase g sent_game gone awaited pings kind clocks best (Thinks at_once) l n t = (tt, tt, tt, (l, n, t))
hit_phase g sent_game gone awaited pings kind clocks best (Leaves next) l n t = (tt, tt, tt, (l, n, t))
hit_phase g sent_game gone awaited pings kind clocks best (WaitsToThink at_once) l n t = (tt, tt, tt, (l, n, t))

hit_kept : (g : Game) (sent_game : SentGame) (gone : Bool) (awaited : Option ℕ) (pings : ℕ) (kind : GoKind) (clocks : GoClocks) (kept : Option Move) (p : Phase) → ServesKept kept p g sent_game
    → IsGood g sent_game (hit (talk_of stages.Open gone awaited pings (Some (search_with kind clocks kept p))) (search_with kind clocks kept p) p)
hit_kept g sent_game gone awaited pings kind clocks None Rests h = (tt, tt, tt, tt)
hit_kept g sent_game gone awaited pings kind clocks None p h = absurd h
hit_kept g sent_game gone awaited pings kind clocks (Some best) p h = hit_phase g sent_game gone awaited pings kind clocks best p h.0 h.1 h.2

hit_kind : (g : Game) (sent_game : SentGame) (gone : Bool) (awaited : Option ℕ) (pings : ℕ) (s : OpenSearch) (kind : GoKind) → OpenSearchIsServed (Some s) g sent_game
    → IsGood g sent_game (hit_by kind (talk_of stages.Open gone awaited pings (Some s)) s)
hit_kind g sent_game gone awaited pings s kinds.Ponder h = hit_kept g sent_game gone awaited pings s.kind s.clocks s.kept s.phase h
hit_kind g sent_game gone awaited pings s kinds.Move h = (tt, tt, tt, h)
hit_kind g sent_game gone awaited pings s kinds.Analyse h = (tt, tt, tt, h)

hit_good : (g : Game) (sent_game : SentGame) (stage : DriverStage) (gone : Bool) (awaited : Option ℕ) (pings : ℕ) (search : Option OpenSearch) → OpenSearchIsServed search g sent_game
    → IsGood g sent_game (after_ponderhit (talk_of stage gone awaited pings search))
hit_good g sent_game stages.Open gone awaited pings None h = (tt, tt, tt, tt)
hit_good g sent_game stages.Open gone awaited pings (Some s) h = hit_kind g sent_game gone awaited pings s s.kind h
hit_good g sent_game stages.Fresh gone awaited pings search h = (tt, tt, tt, h)
hit_good g sent_game stages.Over gone awaited pings search h = (tt, tt, tt, h)

moved_phase : (g : Game) (sent_game : SentGame) (gone : Bool) (awaited : Option ℕ) (pings : ℕ) (kind : GoKind) (clocks : GoClocks) (best : Move) (p : Phase) (shown : Option Move) → IfSome shown (λ m. legal (current_position g) m ≡ true) → legal (current_position g) best ≡ true → length g.moves ≤ MOST_PLIES → SearchesSentGame p g sent_game
    → IsGood g sent_game (after_moved (talk_of stages.Open gone awaited pings (Some (search_of kind clocks best p))) shown)
moved_phase g sent_game gone awaited pings kind clocks best (Thinks at_once) None f l n t = (tt, tt, tt, tt)
moved_phase g sent_game gone awaited pings kind clocks best (Thinks at_once) (Some m) f l n t = (f, tt, subst (λ (c : Game). length c.moves ≤ MOST_PLIES) (sym t.1) n, tt)
moved_phase g sent_game gone awaited pings kind clocks best Analyses shown f l n t = (tt, tt, tt, (l, n, t))
moved_phase g sent_game gone awaited pings kind clocks best Rests shown f l n t = (tt, tt, tt, (l, n, t))
moved_phase g sent_game gone awaited pings kind clocks best (Leaves next) shown f l n t = (tt, tt, tt, (l, n, t))
moved_phase g sent_game gone awaited pings kind clocks best (WaitsToThink at_once) shown f l n t = (tt, tt, tt, (l, n, t))
moved_phase g sent_game gone awaited pings kind clocks best (WaitsToAnalyse later) shown f l n t = (tt, tt, tt, (l, n, t))

moved_kept : (g : Game) (sent_game : SentGame) (gone : Bool) (awaited : Option ℕ) (pings : ℕ) (kind : GoKind) (clocks : GoClocks) (kept : Option Move) (p : Phase) (shown : Option Move) → IfSome shown (λ m. legal (current_position g) m ≡ true) → ServesKept kept p g sent_game
    → IsGood g sent_game (after_moved (talk_of stages.Open gone awaited pings (Some (search_with kind clocks kept p))) shown)
moved_kept g sent_game gone awaited pings kind clocks None Rests shown f h = (tt, tt, tt, h)
moved_kept g sent_game gone awaited pings kind clocks None p shown f h = absurd h
moved_kept g sent_game gone awaited pings kind clocks (Some best) p shown f h = moved_phase g sent_game gone awaited pings kind clocks best p shown f h.0 h.1 h.2

moved_good : (g : Game) (sent_game : SentGame) (stage : DriverStage) (gone : Bool) (awaited : Option ℕ) (pings : ℕ) (search : Option OpenSearch) (shown : Option Move) → IfSome shown (λ m. legal (current_position g) m ≡ true) → OpenSearchIsServed search g sent_game
    → IsGood g sent_game (after_moved (talk_of stage gone awaited pings search) shown)
moved_good g sent_game stages.Open gone awaited pings None shown f h = (tt, tt, tt, tt)
moved_good g sent_game stages.Open gone awaited pings (Some s) shown f h = moved_kept g sent_game gone awaited pings s.kind s.clocks s.kept s.phase shown f h
moved_good g sent_game stages.Fresh gone awaited pings search shown f h = (tt, tt, tt, h)
moved_good g sent_game stages.Over gone awaited pings search shown f h = (tt, tt, tt, h)

resigned_phase : (g : Game) (sent_game : SentGame) (gone : Bool) (awaited : Option ℕ) (pings : ℕ) (kind : GoKind) (clocks : GoClocks) (best : Move) (p : Phase) → legal (current_position g) best ≡ true → length g.moves ≤ MOST_PLIES → SearchesSentGame p g sent_game
    → IsGood g sent_game (after_resigned (talk_of stages.Open gone awaited pings (Some (search_of kind clocks best p))))
resigned_phase g sent_game gone awaited pings kind clocks best (Thinks at_once) l n t = (tt, tt, tt, tt)
resigned_phase g sent_game gone awaited pings kind clocks best Analyses l n t = (tt, tt, tt, (l, n, t))
resigned_phase g sent_game gone awaited pings kind clocks best Rests l n t = (tt, tt, tt, (l, n, t))
resigned_phase g sent_game gone awaited pings kind clocks best (Leaves next) l n t = (tt, tt, tt, (l, n, t))
resigned_phase g sent_game gone awaited pings kind clocks best (WaitsToThink at_once) l n t = (tt, tt, tt, (l, n, t))
resigned_phase g sent_game gone awaited pings kind clocks best (WaitsToAnalyse later) l n t = (tt, tt, tt, (l, n, t))

resigned_kept : (g : Game) (sent_game : SentGame) (gone : Bool) (awaited : Option ℕ) (pings : ℕ) (kind : GoKind) (clocks : GoClocks) (kept : Option Move) (p : Phase) → ServesKept kept p g sent_game
    → IsGood g sent_game (after_resigned (talk_of stages.Open gone awaited pings (Some (search_with kind clocks kept p))))
resigned_kept g sent_game gone awaited pings kind clocks None Rests h = (tt, tt, tt, h)
resigned_kept g sent_game gone awaited pings kind clocks None p h = absurd h
resigned_kept g sent_game gone awaited pings kind clocks (Some best) p h = resigned_phase g sent_game gone awaited pings kind clocks best p h.0 h.1 h.2

resigned_good : (g : Game) (sent_game : SentGame) (stage : DriverStage) (gone : Bool) (awaited : Option ℕ) (pings : ℕ) (search : Option OpenSearch) → OpenSearchIsServed search g sent_game
    → IsGood g sent_game (after_resigned (talk_of stage gone awaited pings search))
resigned_good g sent_game stages.Open gone awaited pings None h = (tt, tt, tt, tt)
resigned_good g sent_game stages.Open gone awaited pings (Some s) h = resigned_kept g sent_game gone awaited pings s.kind s.clocks s.kept s.phase h
resigned_good g sent_game stages.Fresh gone awaited pings search h = (tt, tt, tt, h)
resigned_good g sent_game stages.Over gone awaited pings search h = (tt, tt, tt, h)

resume_phase : (g : Game) (sent_game : SentGame) (gone : Bool) (awaited : Option ℕ) (pings : ℕ) (kind : GoKind) (clocks : GoClocks) (best : Move) (p : Phase) → legal (current_position g) best ≡ true → length g.moves ≤ MOST_PLIES → SearchesSentGame p g sent_game
    → IsGood g sent_game (resumed (talk_of stages.Open gone None pings (Some (search_of kind clocks best p))) (search_of kind clocks best p) p)
resume_phase g sent_game gone awaited pings kind clocks best (Leaves Answer) l n t = (l, tt, tt, tt)
resume_phase g sent_game gone awaited pings kind clocks best (Leaves Play) l n t = (tt, t, tt, (l, n, t))
resume_phase g sent_game gone awaited pings kind clocks best (WaitsToThink at_once) l n t = (tt, n, tt, (l, n, (refl, refl)))
resume_phase g sent_game gone awaited pings kind clocks best (WaitsToAnalyse None) l n t = (tt, n, tt, (l, n, (refl, refl)))
resume_phase g sent_game gone awaited pings kind clocks best (WaitsToAnalyse (Some next)) l n t = (tt, n, tt, (l, n, (refl, refl)))
resume_phase g sent_game gone awaited pings kind clocks best p l n t = (tt, tt, tt, (l, n, t))

resume_kept : (g : Game) (sent_game : SentGame) (gone : Bool) (awaited : Option ℕ) (pings : ℕ) (kind : GoKind) (clocks : GoClocks) (kept : Option Move) (p : Phase) → ServesKept kept p g sent_game
    → IsGood g sent_game (resumed (talk_of stages.Open gone None pings (Some (search_with kind clocks kept p))) (search_with kind clocks kept p) p)
resume_kept g sent_game gone awaited pings kind clocks None Rests h = (tt, tt, tt, h)
resume_kept g sent_game gone awaited pings kind clocks None p h = absurd h
resume_kept g sent_game gone awaited pings kind clocks (Some best) p h = resume_phase g sent_game gone awaited pings kind clocks best p h.0 h.1 h.2

pong_search : (g : Game) (sent_game : SentGame) (gone : Bool) (awaited : Option ℕ) (pings : ℕ) (search : Option OpenSearch) (b : Bool) → OpenSearchIsServed search g sent_game
    → IsGood g sent_game (cond b (resume_in search (without_awaited (talk_of stages.Open gone awaited pings search))) (quiet (talk_of stages.Open gone awaited pings search)))
pong_search g sent_game gone awaited pings None true h = (tt, tt, tt, tt)
pong_search g sent_game gone awaited pings (Some s) true h = resume_kept g sent_game gone awaited pings s.kind s.clocks s.kept s.phase h
pong_search g sent_game gone awaited pings search false h = (tt, tt, tt, h)

pong_good : (g : Game) (sent_game : SentGame) (stage : DriverStage) (gone : Bool) (awaited : Option ℕ) (pings : ℕ) (search : Option OpenSearch) (n : ℕ) → OpenSearchIsServed search g sent_game
    → IsGood g sent_game (after_pong (talk_of stage gone awaited pings search) n)
pong_good g sent_game stages.Open gone awaited pings search n h = pong_search g sent_game gone awaited pings search (is_awaited awaited n) h
pong_good g sent_game stages.Fresh gone awaited pings search n h = (tt, tt, tt, h)
pong_good g sent_game stages.Over gone awaited pings search n h = (tt, tt, tt, h)

think_good : (b : Bool) (g : Game) (sent_game : SentGame) (t : DriverState) (kind : GoKind) (clocks : GoClocks) (thought : Thought) → legal (current_position g) thought.best ≡ true → length g.moves ≤ MOST_PLIES → IsSentGame g sent_game
    → IsGood g sent_game (thinking_on b t (search_of kind clocks thought.best (Thinks false)) thought)
think_good true g sent_game t kind clocks thought f n i = (f, tt, tt, (f, n, i))
think_good false g sent_game t kind clocks thought f n i = (f, tt, tt, (f, n, i))

keep_phase : (g : Game) (sent_game : SentGame) (gone : Bool) (awaited : Option ℕ) (pings : ℕ) (kind : GoKind) (clocks : GoClocks) (best : Move) (p : Phase) (thought : Thought) → legal (current_position g) thought.best ≡ true → legal (current_position g) best ≡ true → length g.moves ≤ MOST_PLIES → SearchesSentGame p g sent_game
    → IsGood g sent_game (kept (talk_of stages.Open gone awaited pings (Some (search_of kind clocks best p))) (search_of kind clocks best p) p thought)
keep_phase g sent_game gone awaited pings kind clocks best (Thinks false) thought f l n t = think_good (reaches_depth clocks thought) g sent_game (talk_of stages.Open gone awaited pings (Some (search_of kind clocks best (Thinks false)))) kind clocks thought f n t
keep_phase g sent_game gone awaited pings kind clocks best (Thinks true) thought f l n t = (f, tt, tt, (f, n, t))
keep_phase g sent_game gone awaited pings kind clocks best Analyses thought f l n t = (f, tt, tt, (f, n, t))
keep_phase g sent_game gone awaited pings kind clocks best Rests thought f l n t = (f, tt, tt, (f, n, t))
keep_phase g sent_game gone awaited pings kind clocks best (Leaves next) thought f l n t = (tt, tt, tt, (l, n, t))
keep_phase g sent_game gone awaited pings kind clocks best (WaitsToThink at_once) thought f l n t = (tt, tt, tt, (l, n, t))
keep_phase g sent_game gone awaited pings kind clocks best (WaitsToAnalyse later) thought f l n t = (tt, tt, tt, (l, n, t))

thought_kept : (g : Game) (sent_game : SentGame) (gone : Bool) (awaited : Option ℕ) (pings : ℕ) (kind : GoKind) (clocks : GoClocks) (kept : Option Move) (p : Phase) (thought : Thought) → legal (current_position g) thought.best ≡ true → ServesKept kept p g sent_game
    → IsGood g sent_game (talks.kept (talk_of stages.Open gone awaited pings (Some (search_with kind clocks kept p))) (search_with kind clocks kept p) p thought)
thought_kept g sent_game gone awaited pings kind clocks None Rests thought f h = absurd (h thought.best (is_legal (current_position g) thought.best f))
thought_kept g sent_game gone awaited pings kind clocks None p thought f h = absurd h
thought_kept g sent_game gone awaited pings kind clocks (Some best) p thought f h = keep_phase g sent_game gone awaited pings kind clocks best p thought f h.0 h.1 h.2

thought_good : (g : Game) (sent_game : SentGame) (stage : DriverStage) (gone : Bool) (awaited : Option ℕ) (pings : ℕ) (search : Option OpenSearch) (thought : Thought) → legal (current_position g) thought.best ≡ true → OpenSearchIsServed search g sent_game
    → IsGood g sent_game (after_thought (talk_of stage gone awaited pings search) thought)
thought_good g sent_game stages.Open gone awaited pings None thought f h = (tt, tt, tt, tt)
thought_good g sent_game stages.Open gone awaited pings (Some s) thought f h = thought_kept g sent_game gone awaited pings s.kind s.clocks s.kept s.phase thought f h
thought_good g sent_game stages.Fresh gone awaited pings search thought f h = (tt, tt, tt, h)
thought_good g sent_game stages.Over gone awaited pings search thought f h = (tt, tt, tt, h)

ended_good : (g : Game) (sent_game : SentGame) (stage : DriverStage) (gone : Bool) (awaited : Option ℕ) (pings : ℕ) (search : Option OpenSearch) → OpenSearchIsServed search g sent_game
    → IsGood g sent_game (after_ended (talk_of stage gone awaited pings search))
ended_good g sent_game stages.Open gone awaited pings None h = (tt, tt, tt, tt)
ended_good g sent_game stages.Open gone awaited pings (Some s) h = (tt, tt, tt, tt)
ended_good g sent_game stages.Fresh gone awaited pings search h = (tt, tt, tt, h)
ended_good g sent_game stages.Over gone awaited pings search h = (tt, tt, tt, h)

quit_good : (g : Game) (sent_game : SentGame) (stage : DriverStage) (gone : Bool) (awaited : Option ℕ) (pings : ℕ) (search : Option OpenSearch) → OpenSearchIsServed search g sent_game
    → IsGood g sent_game (driver_after_quit (talk_of stage gone awaited pings search))
quit_good g sent_game stages.Open true awaited pings search h = (tt, tt, tt, h)
quit_good g sent_game stages.Open false awaited pings search h = (tt, tt, tt, h)
quit_good g sent_game stages.Fresh true awaited pings search h = (tt, tt, tt, h)
quit_good g sent_game stages.Fresh false awaited pings search h = (tt, tt, tt, h)
quit_good g sent_game stages.Over gone awaited pings search h = (tt, tt, tt, h)

uci_good : (g : Game) (sent_game : SentGame) (stage : DriverStage) (gone : Bool) (awaited : Option ℕ) (pings : ℕ) (search : Option OpenSearch) → OpenSearchIsServed search g sent_game
    → IsGood g sent_game (after_uci (talk_of stage gone awaited pings search))
uci_good g sent_game stages.Open gone awaited pings search h = (tt, tt, tt, h)
uci_good g sent_game stages.Fresh true awaited pings search h = (tt, tt, tt, h)
uci_good g sent_game stages.Fresh false awaited pings search h = (tt, tt, tt, h)
uci_good g sent_game stages.Over gone awaited pings search h = (tt, tt, tt, h)

ready_good : (g : Game) (sent_game : SentGame) (stage : DriverStage) (gone : Bool) (awaited : Option ℕ) (pings : ℕ) (search : Option OpenSearch) → OpenSearchIsServed search g sent_game
    → IsGood g sent_game (after_ready (talk_of stage gone awaited pings search))
ready_good g sent_game stages.Open gone awaited pings search h = (tt, tt, tt, h)
ready_good g sent_game stages.Fresh gone awaited pings search h = (tt, tt, tt, h)
ready_good g sent_game stages.Over gone awaited pings search h = (tt, tt, tt, h)

few_of : (g : Game) (reach : Reach) → (reach ≡ reaches.Nothing → ⊥) → (reach ≡ reaches.Nothing) ⊎ (length g.moves ≤ MOST_PLIES) → length g.moves ≤ MOST_PLIES
few_of g reach some (inl e) = absurd (some e)
few_of g reach some (inr n) = n

begin_good : (g : Game) (sent_game : SentGame) (gone : Bool) (awaited : Option ℕ) (pings : ℕ) (reach : Reach) (kind : GoKind) (clocks : GoClocks) (best : Move)
    → legal (current_position g) best ≡ true → (reach ≡ reaches.Nothing) ⊎ (length g.moves ≤ MOST_PLIES)
    → IsGood g sent_game (begin_by reach kind (talk_of stages.Open gone awaited pings None) (search_of kind clocks best Rests) clocks)
begin_good g sent_game gone awaited pings reaches.Nothing kind clocks best l f = (tt, tt, tt, tt)
begin_good g sent_game gone awaited pings reaches.Play kinds.Move clocks best l f = play_good g sent_game awaited stages.Open gone pings None kinds.Move clocks best Rests clocks l (few_of g reaches.Play (λ e. absurd (cc)) f)
begin_good g sent_game gone awaited pings reaches.Play kinds.Ponder clocks best l f = (tt, tt, tt, (l, few_of g reaches.Play (λ e. absurd (cc)) f, tt))
begin_good g sent_game gone awaited pings reaches.Play kinds.Analyse clocks best l f = (tt, tt, tt, (l, few_of g reaches.Play (λ e. absurd (cc)) f, tt))
begin_good g sent_game gone awaited pings reaches.Analyse kinds.Move clocks best l f = play_good g sent_game awaited stages.Open gone pings None kinds.Move clocks best Rests clocks l (few_of g reaches.Analyse (λ e. absurd (cc)) f)
begin_good g sent_game gone awaited pings reaches.Analyse kinds.Ponder clocks best l f = open_good g sent_game awaited stages.Open gone pings None kinds.Ponder clocks best Rests clocks l (few_of g reaches.Analyse (λ e. absurd (cc)) f)
begin_good g sent_game gone awaited pings reaches.Analyse kinds.Analyse clocks best l f = open_good g sent_game awaited stages.Open gone pings None kinds.Analyse clocks best Rests clocks l (few_of g reaches.Analyse (λ e. absurd (cc)) f)

moveless_good : (g : Game) (sent_game : SentGame) (gone : Bool) (awaited : Option ℕ) (pings : ℕ) (kind : GoKind) (w : WantedSearch) → IsMoveless g
    → IsGood g sent_game (begin_moveless kind (talk_of stages.Open gone awaited pings None) w)
moveless_good g sent_game gone awaited pings kinds.Move w h = (tt, tt, tt, tt)
moveless_good g sent_game gone awaited pings kinds.Ponder w h = (tt, tt, tt, h)
moveless_good g sent_game gone awaited pings kinds.Analyse w h = (tt, tt, tt, h)

first_good : (g : Game) (sent_game : SentGame) (first : Option Move) (gone : Bool) (awaited : Option ℕ) (pings : ℕ) (w : WantedSearch)
    → FirstFits g first → (w.reach ≡ reaches.Nothing) ⊎ (length g.moves ≤ MOST_PLIES)
    → IsGood g sent_game (begin_from first gone (talk_of stages.Open gone awaited pings None) w)
first_good g sent_game None true awaited pings w l f = (tt, tt, tt, tt)
first_good g sent_game None false awaited pings w l f = moveless_good g sent_game false awaited pings w.kind w l
first_good g sent_game (Some best) true awaited pings w l f = (tt, tt, tt, tt)
first_good g sent_game (Some best) false awaited pings w l f = begin_good g sent_game false awaited pings w.reach w.kind w.clocks best l f

go_good : (g : Game) (sent_game : SentGame) (stage : DriverStage) (gone : Bool) (awaited : Option ℕ) (pings : ℕ) (search : Option OpenSearch) (w : WantedSearch) → CallFits g (calls.Go w) → OpenSearchIsServed search g sent_game
    → IsGood g sent_game (after_go (talk_of stage gone awaited pings search) w)
go_good g sent_game stages.Open gone awaited pings None w f h = first_good g sent_game w.first gone awaited pings w f.0 f.1
go_good g sent_game stages.Open gone awaited pings (Some s) w f h = (tt, tt, tt, h)
go_good g sent_game stages.Fresh gone awaited pings search w f h = (tt, tt, tt, h)
go_good g sent_game stages.Over gone awaited pings search w f h = (tt, tt, tt, h)

-- each call, in any talk whose search is served
pub call_good : (g : Game) (sent_game : SentGame) (t : DriverState) (c : DriverCall) → CallFits g c → OpenSearchIsServed t.search g sent_game → IsGood g sent_game (driver_turn_of t c)
unfolding driver_turn_of
call_good g sent_game t calls.Other f h = (tt, tt, tt, h)
call_good g sent_game t calls.Quit f h = quit_good g sent_game t.stage t.gone t.awaited t.pings t.search h
call_good g sent_game t calls.Uci f h = uci_good g sent_game t.stage t.gone t.awaited t.pings t.search h
call_good g sent_game t calls.IsReady f h = ready_good g sent_game t.stage t.gone t.awaited t.pings t.search h
call_good g sent_game t (calls.Go w) f h = go_good g sent_game t.stage t.gone t.awaited t.pings t.search w f h
call_good g sent_game t calls.Stop f h = stop_good g sent_game t.stage t.gone t.awaited t.pings t.search h
call_good g sent_game t calls.PonderHit f h = hit_good g sent_game t.stage t.gone t.awaited t.pings t.search h
call_good g sent_game t (calls.Moved shown) f h = moved_good g sent_game t.stage t.gone t.awaited t.pings t.search shown f h
call_good g sent_game t calls.Resigned f h = resigned_good g sent_game t.stage t.gone t.awaited t.pings t.search h
call_good g sent_game t (calls.Pong n) f h = pong_good g sent_game t.stage t.gone t.awaited t.pings t.search n h
call_good g sent_game t (calls.Thought thought) f h = thought_good g sent_game t.stage t.gone t.awaited t.pings t.search thought f h
call_good g sent_game t calls.Ended f h = ended_good g sent_game t.stage t.gone t.awaited t.pings t.search h
