-- Each line that is written to the engine can be said.
use Rattle.std.proofs.Common.{◌≡◌, ℕ, ◌+◌, ◌*◌, ◌/◌, ◌^◌, ◌<◌, ◌≤◌, Bool, true, false, cond, not, ◌&&◌, eqb, ltb, List, [], ◌∷◌, ◌++◌, Option, Some, None, IfSome, refl, sym, ap, subst, ◌∙◌, arith}
use Rattle.std.specs.Prelude.{min}
use Rattle.std.specs.List.{AllByRecursion}
use Rattle.std.specs.Option.{unwrap_or}
use Rattle.std.proofs.lemmas.Bool.Decides.{nat_tests}
use Rattle.chess_board.specs.declared.board.Move.{Move}
use Rattle.chess_board.specs.declared.board.Side.{Side}
use Rattle.chess_board.specs.declared.board.Side.TheVariants.{White, Black}
use Rattle.chess_board.specs.Position.{Position}
use Rattle.chess_board.specs.Place.{legal}
use Rattle.chess_board.specs.Play.{start_position}
use Rattle.fen_text.specs.Written.{IsNormal}
use Rattle.chess_board.specs.Spelling.{move_spelled_by}
use Rattle.chess_board.proofs.LegalMoves.{is_legal}
use Rattle.chess_board.proofs.Start.{start-is}
use Rattle.game_record.specs.Game.{Ply, Game, AreLegal, game_from, current_position, ply_of, with_ply}
use Rattle.game_record.proofs.Replays.{legal-append}
use Rattle.game_record.specs.Line.{is_standard}
use Rattle.uci_interface_lines.specs.Lines.{Line as SpokenLine, position_line_in}
use Rattle.driver_state_machine.specs.declared.words.GoClocks.{GoClocks}
use Rattle.driver_state_machine.specs.declared.words.ToEngine.{ToEngine}
use Rattle.driver_state_machine.specs.declared.words.ToEngine.TheVariants as downs
use Rattle.driver_state_machine.specs.Lines.{DownLine, SetBoard, Played, Go, Analyze, OrderMoveNow, Exit, Ping, Sd}
use Rattle.driver_state_machine.specs.Clocks.{capped, clock_lines, control_lines, depth_lines, increment, mine, seconds_up, theirs}
use Rattle.cecp_driver.specs.Said.{EngineLineCanBeRead, IsMove}
use Rattle.cecp_driver.specs.SetUp.{SentGame, continued, further, ply_lines, setup_lines, start_lines}
use Rattle.cecp_driver.specs.Same.{same_ply, same_position}
use Rattle.cecp_driver.specs.Actions.{analyse_lines, down_lines, has_depth, move_now_lines, leave_lines, play_lines, think_lines}
use Rattle.cecp_driver.specs.Ordered.{may_push, ordered_by, game_ordered_in, push_one, game_after_texts}
use Rattle.cecp_driver.proofs.Lasting.{left_true, officer}
use Rattle.cecp_driver.proofs.Starts.{line_good}
use Rattle.cecp_driver.proofs.Pinged.{PingFits}

-- GAMES

-- a game from a position, of moves that are legal in their turn
pub record IsGame (g : Game) : Type 0 where
  pub start : IsNormal g.start
  pub moves : AllByRecursion IsMove g.moves
  pub legal : AreLegal g.start g.moves

abbrev Maybe : Option Game → Type 0
Maybe o = IfSome o (λ g. IsGame g)

moves_more : (ms : List Ply) (m : Ply) → AllByRecursion IsMove ms → IsMove m → AllByRecursion IsMove (ms ++ m ∷ [])
moves_more [] m h k = (k, tt)
moves_more (x ∷ xs) m h k = (h.0, moves_more xs m h.1 k)

push_by : (b : Bool) (g : Game) (m : Move) → IsGame g → may_push g m ≡ b → Maybe (cond b (Some (with_ply g (ply_of m))) None)
push_by true g m h e =
    let is : legal (current_position g) m ≡ true = left_true (legal (current_position g) m) _ e in
    record {
      start = h.start;
      moves = moves_more g.moves (ply_of m) h.moves (m, (refl, officer (current_position g) m is));
      legal = legal-append g.start g.moves (ply_of m) h.legal (is_legal (current_position g) m is);
    }
push_by false g m h e = tt

push_game : (g : Game) (o : Option Move) → IsGame g → Maybe (push_one g o)
push_game g None h = tt
push_game g (Some m) h = push_by (may_push g m) g m h refl

pushed_game : (ts : List (List ℕ)) (o : Option Game) → Maybe o → Maybe (game_after_texts ts o)
pushed_game [] o h = h
pushed_game (t ∷ ts) None h = tt
pushed_game (t ∷ ts) (Some g) h = pushed_game ts (push_one g (move_spelled_by t)) (push_game g (move_spelled_by t) h)

ordered_game : (text : List ℕ) (o : Option SpokenLine) → position_line_in text ≡ o → Maybe (ordered_by o)
ordered_game text None e = tt
ordered_game text (Some line) e = pushed_game line.moves (Some (game_from line.start)) (record { start = line_good text line e; moves = tt; legal = tt })

pub start_game : IsGame (game_from start_position)
start_game = record { start = (start-is, refl); moves = tt; legal = tt }

or_start : (o : Option Game) → Maybe o → IsGame (unwrap_or o (game_from start_position))
or_start None h = start_game
or_start (Some g) h = h

pub ordered_is : (text : List ℕ) → IsGame (unwrap_or (game_ordered_in text) (game_from start_position))
ordered_is text = or_start (game_ordered_in text) (ordered_game text (position_line_in text) refl)

-- A SET-UP

abbrev AllSaid : List DownLine → Type 0
AllSaid lines = AllByRecursion EngineLineCanBeRead lines

all_said : (a b : List DownLine) → AllSaid a → AllSaid b → AllSaid (a ++ b)
all_said [] b h k = k
all_said (l ∷ ls) b h k = (h.0, all_said ls b h.1 k)

abbrev RestIs : Option (List Ply) → Type 0
RestIs o = IfSome o (λ rest. AllByRecursion IsMove rest)

further_moves : (ks ms : List Ply) → AllByRecursion IsMove ms → RestIs (further ks ms)
further_moves [] ms h = h
further_moves (k ∷ ks) [] h = tt
further_moves (k ∷ ks) (m ∷ ms) h = further_by (same_ply k m) (further ks ms) (further_moves ks ms h.1)
  where
    further_by : (b : Bool) (o : Option (List Ply)) → RestIs o → RestIs (cond b o None)
    further_by true o h = h
    further_by false o h = tt

continued_by : (b : Bool) (o : Option (List Ply)) → RestIs o → RestIs (cond b o None)
continued_by true o h = h
continued_by false o h = tt

continued_moves : (sent_game : SentGame) (g : Game) (deep : Bool) → IsGame g → RestIs (continued sent_game g deep)
continued_moves sent_game g deep h =
    continued_by ((sent_game.known && not (sent_game.limited && not deep)) && same_position sent_game.game.start g.start) (further sent_game.game.moves g.moves) (further_moves sent_game.game.moves g.moves h.moves)

played_said : (has_usermove : Bool) (ms : List Ply) → AllByRecursion IsMove ms → AllSaid (ply_lines has_usermove ms)
played_said has_usermove [] h = tt
played_said has_usermove (m ∷ ms) h = (h.0, played_said has_usermove ms h.1)

start_said : (standard : Bool) (p : Position) → IsNormal p → AllSaid (cond standard [] (SetBoard p ∷ []))
start_said true p h = tt
start_said false p h = (h, tt)

setup_said : (o : Option (List Ply)) (has_usermove : Bool) (g : Game) → RestIs o → IsGame g → AllSaid (setup_lines o has_usermove g)
setup_said (Some rest) has_usermove g r h = (tt, played_said has_usermove rest r)
setup_said None has_usermove g r h =
    (tt, (tt, (tt, all_said (start_lines g.start) (ply_lines has_usermove g.moves) (start_said (is_standard g.start) g.start h.start) (played_said has_usermove g.moves h.moves))))

-- CLOCKS

least : (a b : ℕ) → min a b ≤ b
least a b = omega arith

control_said : (side : Side) (c : GoClocks) (o : Option ℕ) → AllSaid (control_lines side c o)
control_said side c (Some time) = (omega (arith, least (seconds_up time) 999999), tt)
control_said side c None = (
  (omega (arith, least c.movestogo 9999), omega (arith, least (mine side c) 599999000), omega (arith, least (increment side c / 1000) 999999)),
  (omega (arith, least (mine side c) 599999000), (omega (arith, least (theirs side c) 599999000), tt)),
)

depth_said : (b : Bool) (depth : ℕ) → AllSaid (cond b [] (Sd (min depth 999999999) ∷ []))
depth_said true depth = tt
depth_said false depth = (omega (arith, least depth 999999999), tt)

move_now_said : (at_once : Bool) → AllSaid (move_now_lines at_once)
move_now_said true = (tt, tt)
move_now_said false = tt

think_said : (g : Game) (c : GoClocks) (at_once : Bool) → AllSaid (think_lines g c at_once)
think_said g c at_once =
    let side = (current_position g).side in
    all_said (clock_lines side c) (Go ∷ move_now_lines at_once)
    (all_said (control_lines side c c.movetime) (depth_lines c.depth) (control_said side c c.movetime) (depth_said (eqb c.depth 0) c.depth))
    (tt, move_now_said at_once)

-- A DEED

analysed_said : (g : Game) (has_usermove : Bool) (sent_game : SentGame) (c : GoClocks) (ping : Option ℕ) → PingFits (downs.Analyse c ping) → AllSaid (Analyze ∷ leave_lines ping)
analysed_said g has_usermove sent_game c None p = (tt, tt)
analysed_said g has_usermove sent_game c (Some n) p = (tt, (tt, (p, tt)))

pub action_said : (sent_game : SentGame) (g : Game) (has_usermove : Bool) (down : ToEngine) → IsGame g → PingFits down → AllSaid (down_lines sent_game g has_usermove down)
action_said sent_game g has_usermove downs.Nothing h p = tt
action_said sent_game g has_usermove downs.Greeting h p = (tt, (tt, tt))
action_said sent_game g has_usermove downs.Quit h p = (tt, tt)
action_said sent_game g has_usermove (downs.Play c at_once) h p =
    let o = continued sent_game g (has_depth c) in
    all_said (setup_lines o has_usermove g) (think_lines g c at_once) (setup_said o has_usermove g (continued_moves sent_game g (has_depth c) h) h) (think_said g c at_once)
action_said sent_game g has_usermove (downs.Resume c) h p = think_said g c false
action_said sent_game g has_usermove (downs.Analyse c ping) h p =
    let o = continued sent_game g (has_depth c) in
    all_said (setup_lines o has_usermove g) (Analyze ∷ leave_lines ping) (setup_said o has_usermove g (continued_moves sent_game g (has_depth c) h) h) (analysed_said g has_usermove sent_game c ping p)
action_said sent_game g has_usermove downs.OrderMoveNow h p = (tt, tt)
action_said sent_game g has_usermove (downs.Leave n) h p = (tt, (p, tt))
action_said sent_game g has_usermove (downs.Retreat n) h p = (tt, (p, tt))
