-- How often `?` is among the lines of a deed.
use Rattle.std.proofs.Common.{◌≡◌, ℕ, ◌+◌, Bool, true, false, cond, List, [], ◌∷◌, ◌++◌, Option, Some, None, refl, arith}
use Rattle.std.specs.Prelude.{◌==◌, min}
use Rattle.chess_board.specs.declared.board.Side.{Side}
use Rattle.chess_board.specs.Position.{Position}
use Rattle.game_record.specs.Game.{Game, Ply, current_position}
use Rattle.game_record.specs.Line.{is_standard}
use Rattle.driver_state_machine.specs.declared.words.GoClocks.{GoClocks}
use Rattle.driver_state_machine.specs.declared.words.ToEngine.{ToEngine}
use Rattle.driver_state_machine.specs.declared.words.ToEngine.TheVariants as downs
use Rattle.driver_state_machine.specs.Laws.{one_if, writes_prompt}
use Rattle.driver_state_machine.specs.Clocks.{clock_lines, control_lines, depth_lines}
use Rattle.driver_state_machine.specs.Lines.{DownLine, SetBoard, Sd, Go, Analyze, OrderMoveNow, Accepted, Rejected}
use Rattle.driver_state_machine.specs.Parts.{Feature}
use Rattle.cecp_driver.specs.Busy.{prompt_lines}
use Rattle.cecp_driver.specs.Actions.{down_lines, has_depth, move_now_lines, leave_lines, think_lines}
use Rattle.cecp_driver.specs.Features.{feature_answers, rejects}
use Rattle.cecp_driver.specs.SetUp.{SentGame, continued, ply_lines, setup_lines, start_lines}

joined : (a b : List DownLine) → prompt_lines (a ++ b) ≡ prompt_lines a + prompt_lines b
joined [] b = omega arith
joined (OrderMoveNow ∷ a) b = let rest = joined a b in omega (arith, rest)
joined (line ∷ a) b = joined a b

none_in_plies : (has_usermove : Bool) (moves : List Ply) → prompt_lines (ply_lines has_usermove moves) ≡ 0
none_in_plies has_usermove [] = refl
none_in_plies has_usermove (m ∷ moves) = none_in_plies has_usermove moves

start_by : (b : Bool) (p : Position) → prompt_lines (cond b [] (SetBoard p ∷ [])) ≡ 0
start_by true p = refl
start_by false p = refl

none_in_setup : (further : Option (List Ply)) (has_usermove : Bool) (g : Game) → prompt_lines (setup_lines further has_usermove g) ≡ 0
none_in_setup (Some moves) has_usermove g = none_in_plies has_usermove moves
none_in_setup None has_usermove g =
    let both = joined (start_lines g.start) (ply_lines has_usermove g.moves) in
    let start = start_by (is_standard g.start) g.start in
    let plies = none_in_plies has_usermove g.moves in
    omega (arith, both, start, plies)

none_in_control : (side : Side) (c : GoClocks) (time : Option ℕ) → prompt_lines (control_lines side c time) ≡ 0
none_in_control side c (Some time) = refl
none_in_control side c None = refl

depth_by : (b : Bool) (plies : ℕ) → prompt_lines (cond b [] (Sd plies ∷ [])) ≡ 0
depth_by true plies = refl
depth_by false plies = refl

none_in_clocks : (side : Side) (c : GoClocks) → prompt_lines (clock_lines side c) ≡ 0
none_in_clocks side c =
    let both = joined (control_lines side c c.movetime) (depth_lines c.depth) in
    let control = none_in_control side c c.movetime in
    let depth : prompt_lines (depth_lines c.depth) ≡ 0 = depth_by (c.depth == 0) (min c.depth 999999999) in
    omega (arith, both, control, depth)

go_by : (b : Bool) → prompt_lines (Go ∷ move_now_lines b) ≡ one_if b
go_by true = refl
go_by false = refl

in_thinking : (g : Game) (c : GoClocks) (b : Bool) → prompt_lines (think_lines g c b) ≡ one_if b
in_thinking g c b =
    let both = joined (clock_lines (current_position g).side c) (Go ∷ move_now_lines b) in
    let clocks = none_in_clocks (current_position g).side c in
    let go = go_by b in
    omega (arith, both, clocks, go)

none_in_leave : (ping : Option ℕ) → prompt_lines (leave_lines ping) ≡ 0
none_in_leave None = refl
none_in_leave (Some n) = refl

pub in_deed : (sent_game : SentGame) (g : Game) (has_usermove : Bool) (down : ToEngine) → prompt_lines (down_lines sent_game g has_usermove down) ≡ one_if (writes_prompt down)
in_deed sent_game g has_usermove downs.Nothing = refl
in_deed sent_game g has_usermove downs.Greeting = refl
in_deed sent_game g has_usermove downs.Quit = refl
in_deed sent_game g has_usermove (downs.Play clocks b) =
    let set_up = setup_lines (continued sent_game g (has_depth clocks)) has_usermove g in
    let both = joined set_up (think_lines g clocks b) in
    let first = none_in_setup (continued sent_game g (has_depth clocks)) has_usermove g in
    let then = in_thinking g clocks b in
    omega (arith, both, first, then)
in_deed sent_game g has_usermove (downs.Resume clocks) = in_thinking g clocks false
in_deed sent_game g has_usermove (downs.Analyse clocks ping) =
    let set_up = setup_lines (continued sent_game g (has_depth clocks)) has_usermove g in
    let both = joined set_up (Analyze ∷ leave_lines ping) in
    let first = none_in_setup (continued sent_game g (has_depth clocks)) has_usermove g in
    let then = none_in_leave ping in
    omega (arith, both, first, then)
in_deed sent_game g has_usermove downs.OrderMoveNow = refl
in_deed sent_game g has_usermove (downs.Leave ping) = refl
in_deed sent_game g has_usermove (downs.Retreat ping) = refl

answer_by : (b : Bool) (name : List ℕ) (rest : List DownLine) → prompt_lines (cond b (Rejected name) (Accepted name) ∷ rest) ≡ prompt_lines rest
answer_by true name rest = refl
answer_by false name rest = refl

pub none_in_answers : (fs : List Feature) → prompt_lines (feature_answers fs) ≡ 0
none_in_answers [] = refl
none_in_answers (f ∷ fs) =
    let one = answer_by (rejects f) f.name (feature_answers fs) in
    let rest = none_in_answers fs in
    omega (arith, one, rest)
