-- The engine is given legal moves alone, and its own moves that count are legal.
use Rattle.std.proofs.Common.{◌≡◌, ℕ, suc, ◌+◌, ◌<◌, ◌≤◌, Bool, true, false, cond, eqb, List, [], ◌∷◌, ◌++◌, length, Option, Some, None, IfSome, refl, sym, ap, subst, ◌∙◌, arith, length-append}
use Rattle.std.specs.List.{AllByRecursion}
use Rattle.chess_board.specs.declared.board.Move.{Move}
use Rattle.chess_board.specs.declared.board.Side.{Side}
use Rattle.chess_board.specs.Position.{Position}
use Rattle.chess_board.specs.Place.{legal}
use Rattle.chess_board.specs.Play.{start_position}
use Rattle.chess_board.proofs.LegalMoves.{is_legal}
use Rattle.game_record.specs.Game.{Ply, Game, AreLegal, game_from, now_after, current_position, ply_of, with_ply}
use Rattle.game_record.specs.Game as games
use Rattle.game_record.specs.Line.{is_standard}
use Rattle.game_record.proofs.Replays.{now_after-append}
use Rattle.protocol_tokens.specs.declared.kinds.GoKind.{GoKind}
use Rattle.driver_state_machine.specs.declared.words.GoClocks.{GoClocks}
use Rattle.driver_state_machine.specs.declared.words.DriverAction.{DriverAction}
use Rattle.driver_state_machine.specs.declared.words.ToEngine.{ToEngine}
use Rattle.driver_state_machine.specs.declared.words.ToEngine.TheVariants as downs
use Rattle.driver_state_machine.specs.declared.words.Phase.{Phase}
use Rattle.driver_state_machine.specs.declared.words.Phase.TheVariants.{Thinks, Analyses, Rests, Leaves, WaitsToThink, WaitsToAnalyse}
use Rattle.driver_state_machine.specs.declared.words.OpenSearch.{OpenSearch}
use Rattle.driver_state_machine.specs.declared.driver_state.DriverStage.{DriverStage}
use Rattle.driver_state_machine.specs.declared.driver_state.DriverStage.TheVariants as stages
use Rattle.driver_state_machine.specs.declared.driver_state.DriverState.{DriverState}
use Rattle.driver_state_machine.specs.declared.driver_state.DriverTurn.{DriverTurn}
use Rattle.driver_state_machine.specs.declared.driver_state.DriverCall.{DriverCall}
use Rattle.driver_state_machine.specs.declared.driver_state.DriverCall.TheVariants as calls
use Rattle.driver_state_machine.specs.DriverState.{driver_turn_of, after_moved}
use Rattle.driver_state_machine.specs.Lines.{DownLine, Quit, SetBoard, Played, Sd, Go, Analyze}
use Rattle.driver_state_machine.specs.Clocks.{clock_lines, control_lines, depth_lines}
use Rattle.cecp_driver.specs.declared.sent_game.TheConstants.{MOST_PLIES}
use Rattle.cecp_driver.specs.SetUp.{SentGame, continued, ply_lines, setup_lines, start_lines}
use Rattle.cecp_driver.specs.Actions.{down_lines, has_depth, move_now_lines, leave_lines, think_lines}
use Rattle.cecp_driver.specs.DriverInvariant.{IsSentGame, OpenSearchIsServed, ServesKept, SearchesSentGame}
use Rattle.cecp_driver.specs.EngineGame.{AllFollow, EngineCanTakeLine, CanPlay, IsNoQuit, game_set_by, set_by_all}
use Rattle.cecp_driver.proofs.EngineGames.{IsKnown, IsRest, rest_of, setup_sets, start_sets}
use Rattle.cecp_driver.proofs.Good.{CallFits, FitsSent, search_of, search_with, talk_of}
use Rattle.cecp_driver.proofs.OwnMoves.{IsOther, others_none, own_of}
use Rattle.cecp_driver.proofs.Sayable.{IsGame}

-- LINES THAT CAN FOLLOW ONE ANOTHER, NONE OF THEM `quit`

abbrev pub AllFit : Game → List DownLine → Type 0
AllFit g [] = Unit {0}
AllFit g (line ∷ lines) = (EngineCanTakeLine g line × IsNoQuit line) × AllFit (game_set_by g line) lines

pub follow_of : (g : Game) (lines : List DownLine) → AllFit g lines → AllFollow g lines
follow_of g [] h = tt
follow_of g (l ∷ ls) h = (h.0.0, follow_of (game_set_by g l) ls h.1)

pub unquit_of : (g : Game) (lines : List DownLine) → AllFit g lines → AllByRecursion IsNoQuit lines
unquit_of g [] h = tt
unquit_of g (l ∷ ls) h = (h.0.1, unquit_of (game_set_by g l) ls h.1)

fit_then : (g : Game) (a b : List DownLine) → AllFit g a → AllFit (set_by_all g a) b → AllFit g (a ++ b)
fit_then g [] b h k = k
fit_then g (l ∷ ls) b h k = (h.0, fit_then (game_set_by g l) ls b h.1 k)

-- neither a move nor `quit`
abbrev pub IsCalm : DownLine → Type 0
IsCalm (Played has_usermove m) = ⊥
IsCalm Quit = ⊥
IsCalm line = Unit {0}

abbrev pub AreCalm : List DownLine → Type 0
AreCalm lines = AllByRecursion IsCalm lines

calm_line : (g : Game) (l : DownLine) → IsCalm l → EngineCanTakeLine g l × IsNoQuit l
calm_line g (Played has_usermove m) c = absurd c
calm_line g Quit c = absurd c
calm_line g l c = (tt, tt)

pub calm_fit : (g : Game) (lines : List DownLine) → AreCalm lines → AllFit g lines
calm_fit g [] c = tt
calm_fit g (l ∷ ls) c = (calm_line g l c.0, calm_fit (game_set_by g l) ls c.1)

calm_then : (a b : List DownLine) → AreCalm a → AreCalm b → AreCalm (a ++ b)
calm_then [] b c d = d
calm_then (l ∷ ls) b c d = (c.0, calm_then ls b c.1 d)

-- A SET-UP

-- the later moves of a game are legal after the earlier ones
legal_later : (p : Position) (a b : List Ply) → AreLegal p (a ++ b) → AreLegal (now_after p a) b
legal_later p [] b h = h
legal_later p (m ∷ ms) b h = legal_later (games.position_after_ply p m) ms b h.1

played_fit : (has_usermove : Bool) (ms : List Ply) (g : Game) → AreLegal (current_position g) ms → length g.moves + length ms ≤ 12000 → AllFit g (ply_lines has_usermove ms)
played_fit has_usermove [] g h n = tt
played_fit has_usermove (m ∷ ms) g h n =
    let more : length (g.moves ++ m ∷ []) ≡ length g.moves + 1 = length-append g.moves (m ∷ []) in (
      ((h.0, omega (arith, n)), tt),
      played_fit has_usermove ms (with_ply g m) (subst (λ (p : Position). AreLegal p ms) (sym (now_after-append g.start g.moves m)) h.1) (omega (arith, n, more)),
    )

start_calm : (standard : Bool) (p : Position) → AreCalm (cond standard [] (SetBoard p ∷ []))
start_calm true p = tt
start_calm false p = (tt, tt)

setup_fit : (o : Option (List Ply)) (has_usermove : Bool) (eg g : Game) → IsRest eg g o → AreLegal g.start g.moves → length g.moves ≤ MOST_PLIES → AllFit eg (setup_lines o has_usermove g)
setup_fit (Some rest) has_usermove eg g r h n =
    let start : AreLegal eg.start (eg.moves ++ rest) = subst (λ (p : Position). AreLegal p (eg.moves ++ rest)) (sym r.0) (subst (λ (ms : List Ply). AreLegal g.start ms) r.1 h) in
    let all : length g.moves ≡ length eg.moves + length rest = ap length r.1 ∙ length-append eg.moves rest in
    ((tt, tt), played_fit has_usermove rest eg (legal_later eg.start eg.moves rest start) (omega (arith, n, all)))
setup_fit None has_usermove eg g r h n =
    let first = game_from start_position in
    let begins = start_lines g.start in (
      (tt, tt),
      (
        (tt, tt),
        (
          (tt, tt),
          fit_then first begins (ply_lines has_usermove g.moves) (calm_fit first begins (start_calm (is_standard g.start) g.start))
              (subst (λ (x : Game). AllFit x (ply_lines has_usermove g.moves)) (sym (start_sets (is_standard g.start) g.start refl)) (played_fit has_usermove g.moves (game_from g.start) h (omega (arith, n)))),
        ),
      ),
    )

-- CLOCKS, AND A SEARCH

control_calm : (side : Side) (c : GoClocks) (o : Option ℕ) → AreCalm (control_lines side c o)
control_calm side c None = (tt, (tt, (tt, tt)))
control_calm side c (Some time) = (tt, tt)

depth_calm : (b : Bool) (n : ℕ) → AreCalm (cond b [] (Sd n ∷ []))
depth_calm true n = tt
depth_calm false n = (tt, tt)

move_now_calm : (at_once : Bool) → AreCalm (move_now_lines at_once)
move_now_calm true = (tt, tt)
move_now_calm false = tt

think_calm : (g : Game) (c : GoClocks) (at_once : Bool) → AreCalm (think_lines g c at_once)
think_calm g c at_once =
    let side = (current_position g).side in
    calm_then (clock_lines side c) (Go ∷ move_now_lines at_once)
    (calm_then (control_lines side c c.movetime) (depth_lines c.depth) (control_calm side c c.movetime) (depth_calm (eqb c.depth 0) _))
    (tt, move_now_calm at_once)

analyse_calm : (ping : Option ℕ) → AreCalm (Analyze ∷ leave_lines ping)
analyse_calm None = (tt, tt)
analyse_calm (Some n) = (tt, (tt, (tt, tt)))

-- A DEED

abbrev pub says_quit : ToEngine → Bool
says_quit downs.Quit = true
says_quit down = false

action_fit : (g eg : Game) (sent_game : SentGame) (has_usermove : Bool) (down : ToEngine) → says_quit down ≡ false → IsGame g → FitsSent g sent_game down → IsKnown sent_game eg → AllFit eg (down_lines sent_game g has_usermove down)
action_fit g eg sent_game has_usermove (downs.Play c at_once) q game n k =
    let o = continued sent_game g (has_depth c) in
    fit_then eg (setup_lines o has_usermove g) (think_lines g c at_once) (setup_fit o has_usermove eg g (rest_of sent_game eg g (has_depth c) k) game.legal n) (calm_fit _ (think_lines g c at_once) (think_calm g c at_once))
action_fit g eg sent_game has_usermove (downs.Resume c) q game n k = calm_fit eg (think_lines g c false) (think_calm g c false)
action_fit g eg sent_game has_usermove (downs.Analyse c ping) q game n k =
    let o = continued sent_game g (has_depth c) in
    fit_then eg (setup_lines o has_usermove g) (Analyze ∷ leave_lines ping) (setup_fit o has_usermove eg g (rest_of sent_game eg g (has_depth c) k) game.legal n) (calm_fit _ (Analyze ∷ leave_lines ping) (analyse_calm ping))
action_fit g eg sent_game has_usermove downs.Nothing q game n k = tt
action_fit g eg sent_game has_usermove downs.Greeting q game n k = ((tt, tt), ((tt, tt), tt))
action_fit g eg sent_game has_usermove downs.Quit q game n k = absurd (cc)
action_fit g eg sent_game has_usermove downs.OrderMoveNow q game n k = ((tt, tt), tt)
action_fit g eg sent_game has_usermove (downs.Leave ping) q game n k = ((tt, tt), ((tt, tt), tt))
action_fit g eg sent_game has_usermove (downs.Retreat ping) q game n k = ((tt, tt), ((tt, tt), tt))

follow_by : (b : Bool) (g eg : Game) (sent_game : SentGame) (has_usermove : Bool) (down : ToEngine) → says_quit down ≡ b → IsGame g → FitsSent g sent_game down → IsKnown sent_game eg → AllFollow eg (down_lines sent_game g has_usermove down)
follow_by false g eg sent_game has_usermove down q game n k = follow_of eg (down_lines sent_game g has_usermove down) (action_fit g eg sent_game has_usermove down q game n k)
follow_by true g eg sent_game has_usermove downs.Quit q game n k = (tt, tt)
follow_by true g eg sent_game has_usermove down q game n k = absurd (cc)

pub action_follows : (g eg : Game) (sent_game : SentGame) (has_usermove : Bool) (down : ToEngine) → IsGame g → FitsSent g sent_game down → IsKnown sent_game eg → AllFollow eg (down_lines sent_game g has_usermove down)
action_follows g eg sent_game has_usermove down game n k = follow_by (says_quit down) g eg sent_game has_usermove down refl game n k

pub action_unquit : (g eg : Game) (sent_game : SentGame) (has_usermove : Bool) (down : ToEngine) → says_quit down ≡ false → IsGame g → FitsSent g sent_game down → IsKnown sent_game eg → AllByRecursion IsNoQuit (down_lines sent_game g has_usermove down)
action_unquit g eg sent_game has_usermove down q game n k = unquit_of eg (down_lines sent_game g has_usermove down) (action_fit g eg sent_game has_usermove down q game n k)

-- THE ENGINE'S OWN MOVE

-- it is legal in the ordered game, which the engine knows, and nothing is written with it
abbrev OwnFits : Game → SentGame → DriverAction → Option Move → Type 0
OwnFits g sent_game action own = IfSome own (λ m. (legal (current_position g) m ≡ true) × (IsSentGame g sent_game × ((length g.moves ≤ MOST_PLIES) × (action.down ≡ downs.Nothing))))

abbrev Fits : Game → SentGame → DriverTurn → Type 0
Fits g sent_game r = OwnFits g sent_game r.action (own_of r.action.board)

moved_phase : (g : Game) (sent_game : SentGame) (gone : Bool) (awaited : Option ℕ) (pings : ℕ) (kind : GoKind) (clocks : GoClocks) (best : Move) (p : Phase) (shown : Option Move) → IfSome shown (λ m. legal (current_position g) m ≡ true) → length g.moves ≤ MOST_PLIES → SearchesSentGame p g sent_game
    → Fits g sent_game (after_moved (talk_of stages.Open gone awaited pings (Some (search_of kind clocks best p))) shown)
moved_phase g sent_game gone awaited pings kind clocks best (Thinks at_once) None f n t = tt
moved_phase g sent_game gone awaited pings kind clocks best (Thinks at_once) (Some m) f n t = (f, (t, (n, refl)))
moved_phase g sent_game gone awaited pings kind clocks best Analyses shown f n t = tt
moved_phase g sent_game gone awaited pings kind clocks best Rests shown f n t = tt
moved_phase g sent_game gone awaited pings kind clocks best (Leaves next) shown f n t = tt
moved_phase g sent_game gone awaited pings kind clocks best (WaitsToThink at_once) shown f n t = tt
moved_phase g sent_game gone awaited pings kind clocks best (WaitsToAnalyse later) shown f n t = tt

moved_kept : (g : Game) (sent_game : SentGame) (gone : Bool) (awaited : Option ℕ) (pings : ℕ) (kind : GoKind) (clocks : GoClocks) (kept : Option Move) (p : Phase) (shown : Option Move) → IfSome shown (λ m. legal (current_position g) m ≡ true) → ServesKept kept p g sent_game
    → Fits g sent_game (after_moved (talk_of stages.Open gone awaited pings (Some (search_with kind clocks kept p))) shown)
moved_kept g sent_game gone awaited pings kind clocks None Rests shown f h = tt
moved_kept g sent_game gone awaited pings kind clocks None p shown f h = absurd h
moved_kept g sent_game gone awaited pings kind clocks (Some best) p shown f h = moved_phase g sent_game gone awaited pings kind clocks best p shown f h.1 h.2

moved_fits : (g : Game) (sent_game : SentGame) (stage : DriverStage) (gone : Bool) (awaited : Option ℕ) (pings : ℕ) (search : Option OpenSearch) (shown : Option Move) → IfSome shown (λ m. legal (current_position g) m ≡ true) → OpenSearchIsServed search g sent_game
    → Fits g sent_game (after_moved (talk_of stage gone awaited pings search) shown)
moved_fits g sent_game stages.Open gone awaited pings None shown f h = tt
moved_fits g sent_game stages.Open gone awaited pings (Some s) shown f h = moved_kept g sent_game gone awaited pings s.kind s.clocks s.kept s.phase shown f h
moved_fits g sent_game stages.Fresh gone awaited pings search shown f h = tt
moved_fits g sent_game stages.Over gone awaited pings search shown f h = tt

other_fits : (g : Game) (sent_game : SentGame) (t : DriverState) (c : DriverCall) → IsOther c → Fits g sent_game (driver_turn_of t c)
other_fits g sent_game t c i = subst (λ (own : Option Move). OwnFits g sent_game (driver_turn_of t c).action own) (sym (others_none t c i)) tt

call_fits : (g : Game) (sent_game : SentGame) (t : DriverState) (c : DriverCall) → CallFits g c → OpenSearchIsServed t.search g sent_game → Fits g sent_game (driver_turn_of t c)
unfolding driver_turn_of
call_fits g sent_game t (calls.Moved shown) f h = moved_fits g sent_game t.stage t.gone t.awaited t.pings t.search shown f h
call_fits g sent_game t calls.Other f h = other_fits g sent_game t calls.Other tt
call_fits g sent_game t calls.Quit f h = other_fits g sent_game t calls.Quit tt
call_fits g sent_game t calls.Uci f h = other_fits g sent_game t calls.Uci tt
call_fits g sent_game t calls.IsReady f h = other_fits g sent_game t calls.IsReady tt
call_fits g sent_game t (calls.Go w) f h = other_fits g sent_game t (calls.Go w) tt
call_fits g sent_game t calls.Stop f h = other_fits g sent_game t calls.Stop tt
call_fits g sent_game t calls.PonderHit f h = other_fits g sent_game t calls.PonderHit tt
call_fits g sent_game t calls.Resigned f h = other_fits g sent_game t calls.Resigned tt
call_fits g sent_game t (calls.Pong n) f h = other_fits g sent_game t (calls.Pong n) tt
call_fits g sent_game t (calls.Thought thought) f h = other_fits g sent_game t (calls.Thought thought) tt
call_fits g sent_game t calls.Ended f h = other_fits g sent_game t calls.Ended tt

own_plays : (own : Option Move) (g eg : Game) (sent_game : SentGame) (has_usermove : Bool) (action : DriverAction) → IsKnown sent_game eg → OwnFits g sent_game action own → IfSome own (λ m. CanPlay (set_by_all eg (down_lines sent_game g has_usermove action.down)) (ply_of m))
own_plays None g eg sent_game has_usermove action k h = tt
own_plays (Some m) g eg sent_game has_usermove action k h =
    let same : set_by_all eg (down_lines sent_game g has_usermove action.down) ≡ g = ap (λ (d : ToEngine). set_by_all eg (down_lines sent_game g has_usermove d)) h.1.1.1 ∙ k h.1.0.0 ∙ h.1.0.1 in
    subst (λ (x : Game). CanPlay x (ply_of m)) (sym same) (is_legal (current_position g) m h.0, omega (arith, h.1.1.0))

pub own_legal : (g eg : Game) (sent_game : SentGame) (has_usermove : Bool) (t : DriverState) (c : DriverCall) → CallFits g c → OpenSearchIsServed t.search g sent_game → IsKnown sent_game eg
    → IfSome (own_of (driver_turn_of t c).action.board) (λ m. CanPlay (set_by_all eg (down_lines sent_game g has_usermove (driver_turn_of t c).action.down)) (ply_of m))
own_legal g eg sent_game has_usermove t c f h k = own_plays (own_of (driver_turn_of t c).action.board) g eg sent_game has_usermove (driver_turn_of t c).action k (call_fits g sent_game t c f h)
