-- The engine's game is the one that it was told, and it searches on the ordered one.
use Rattle.std.proofs.Common.{◌≡◌, ℕ, Bool, true, false, cond, not, ◌&&◌, eqb, List, [], ◌∷◌, ◌++◌, Option, Some, None, is_some, refl, sym, ap, subst, ◌∙◌, append_assoc, append-nil}
use Rattle.std.specs.Option.{option_eq}
use Rattle.std.specs.List.{AllByRecursion}
use Rattle.std.proofs.lemmas.Bool.Decides.{Decides-eqb}
use Rattle.chess_board.specs.declared.board.Kind.{Kind}
use Rattle.chess_board.specs.declared.board.Side.{Side}
use Rattle.chess_board.specs.declared.board.Move.{Move}
use Rattle.chess_board.specs.declared.board.Rights.{Rights}
use Rattle.chess_board.specs.Position.{Position}
use Rattle.chess_board.specs.Play.{start_position}
use Rattle.game_record.specs.Game.{Ply, Game, game_from, current_position, ply_of, with_ply}
use Rattle.game_record.specs.Ending.{is_same}
use Rattle.game_record.specs.Line.{is_standard}
use Rattle.game_record.proofs.Sames.{same-law}
use Rattle.game_record.proofs.Lines.{standard-law}
use Rattle.san_text.specs.Writing.{same_san_kind}
use Rattle.san_text.proofs.Alone.{promotions-Decides}
use Rattle.driver_state_machine.specs.declared.words.GoClocks.{GoClocks}
use Rattle.driver_state_machine.specs.declared.words.ToEngine.{ToEngine}
use Rattle.driver_state_machine.specs.declared.words.ToEngine.TheVariants as downs
use Rattle.driver_state_machine.specs.Lines.{DownLine, SetBoard, Sd, Go, Analyze, lines_text}
use Rattle.driver_state_machine.specs.Clocks.{clock_lines, control_lines, depth_lines}
use Rattle.cecp_driver.specs.Same.{same_position, same_ply}
use Rattle.cecp_driver.specs.SetUp.{SentGame, further, continued, ply_lines, start_lines, setup_lines, set_up, sent_with_limit}
use Rattle.cecp_driver.specs.Actions.{has_depth, move_now_lines, leave_lines, think_lines, play_lines, analyse_lines, down_lines, sent_after_line}
use Rattle.cecp_driver.specs.DriverInvariant.{IsSentGame}
use Rattle.cecp_driver.specs.EngineGame.{game_set_by, set_by_all, SearchesOn}
use Rattle.cecp_driver.proofs.Good.{FitsSent}
use Rattle.cecp_driver.proofs.Lasting.{left_true, right_true}

-- EQUAL POSITIONS AND MOVES

abbrev position : List (Option (Side × Kind)) → Side → Rights → Option ℕ → ℕ → ℕ → Position
position pieces side rights passant half full = record { pieces = pieces; side = side; rights = rights; passant = passant; half = half; full = full }

same_positions : (p q : Position) → same_position p q ≡ true → p ≡ q
same_positions p q e =
    let counts : ((eqb p.half q.half) && (eqb p.full q.full)) ≡ true = right_true (is_same p q) ((eqb p.half q.half) && (eqb p.full q.full)) e in
    let s = (same-law p q).0 (left_true (is_same p q) ((eqb p.half q.half) && (eqb p.full q.full)) e) in
    let half : p.half ≡ q.half = (Decides-eqb p.half q.half).0 (left_true (eqb p.half q.half) (eqb p.full q.full) counts) in
    let full : p.full ≡ q.full = (Decides-eqb p.full q.full).0 (right_true (eqb p.half q.half) (eqb p.full q.full) counts) in
    let whole : position p.pieces p.side p.rights p.passant p.half p.full ≡ position q.pieces q.side q.rights q.passant q.half q.full =
    ap (λ (x : List (Option (Side × Kind))). position x p.side p.rights p.passant p.half p.full) s.pieces
    ∙ ap (λ (x : Side). position q.pieces x p.rights p.passant p.half p.full) s.side
    ∙ ap (λ (x : Rights). position q.pieces q.side x p.passant p.half p.full) s.rights
    ∙ ap (λ (x : Option ℕ). position q.pieces q.side q.rights x p.half p.full) s.passant
    ∙ ap (λ (x : ℕ). position q.pieces q.side q.rights q.passant x p.full) half
    ∙ ap (λ (x : ℕ). position q.pieces q.side q.rights q.passant q.half x) full in
    whole

abbrev ply : ℕ → ℕ → Option Kind → Ply
ply from to promotion = record { from = from; to = to; promotion = promotion }

same_plies : (a b : Ply) → same_ply a b ≡ true → a ≡ b
same_plies a b e =
    let squares : ((eqb a.from b.from) && (eqb a.to b.to)) ≡ true = left_true ((eqb a.from b.from) && (eqb a.to b.to)) (option_eq same_san_kind a.promotion b.promotion) e in
    let from : a.from ≡ b.from = (Decides-eqb a.from b.from).0 (left_true (eqb a.from b.from) (eqb a.to b.to) squares) in
    let to : a.to ≡ b.to = (Decides-eqb a.to b.to).0 (right_true (eqb a.from b.from) (eqb a.to b.to) squares) in
    let promotion : a.promotion ≡ b.promotion = promotions-Decides a.promotion b.promotion (right_true ((eqb a.from b.from) && (eqb a.to b.to)) (option_eq same_san_kind a.promotion b.promotion) e) in
    let whole : ply a.from a.to a.promotion ≡ ply b.from b.to b.promotion =
    ap (λ (x : ℕ). ply x a.to a.promotion) from ∙ ap (λ (x : ℕ). ply b.from x a.promotion) to ∙ ap (λ (x : Option Kind). ply b.from b.to x) promotion in
    whole

-- the further moves complete those that are known
further_by : (b : Bool) (k m : Ply) (ks ms rest : List Ply) (o : Option (List Ply)) → same_ply k m ≡ b → (o ≡ Some rest → ms ≡ ks ++ rest) → cond b o None ≡ Some rest → m ∷ ms ≡ k ∷ (ks ++ rest)
further_by true k m ks ms rest o s f e = ap (λ (x : Ply). x ∷ ms) (sym (same_plies k m s)) ∙ ap (λ (xs : List Ply). k ∷ xs) (f e)
further_by false k m ks ms rest o s f e = absurd (cc)

further_rest : (ks ms rest : List Ply) → further ks ms ≡ Some rest → ms ≡ ks ++ rest
further_rest [] ms rest e = let same : ms ≡ rest = cc in same
further_rest (k ∷ ks) [] rest e = absurd (cc)
further_rest (k ∷ ks) (m ∷ ms) rest e = further_by (same_ply k m) k m ks ms rest (further ks ms) refl (further_rest ks ms rest) e

-- LINES AMONG WHICH NO SEARCH BEGINS

abbrev pub IsQuiet : DownLine → Type 0
IsQuiet Go = ⊥
IsQuiet Analyze = ⊥
IsQuiet line = Unit {0}

abbrev pub AreQuiet : List DownLine → Type 0
AreQuiet lines = AllByRecursion IsQuiet lines

quiet_first : (o g : Game) (line : DownLine) (lines : List DownLine) → IsQuiet line → SearchesOn o (game_set_by g line) lines → SearchesOn o g (line ∷ lines)
quiet_first o g Go lines q s = absurd q
quiet_first o g Analyze lines q s = absurd q
quiet_first o g line lines q s = s

searches_then : (o g : Game) (a b : List DownLine) → AreQuiet a → SearchesOn o (set_by_all g a) b → SearchesOn o g (a ++ b)
searches_then o g [] b q s = s
searches_then o g (l ∷ ls) b q s = quiet_first o g l (ls ++ b) q.0 (searches_then o (game_set_by g l) ls b q.1 s)

pub quiet_searches : (o g : Game) (lines : List DownLine) → AreQuiet lines → SearchesOn o g lines
quiet_searches o g [] q = tt
quiet_searches o g (l ∷ ls) q = quiet_first o g l ls q.0 (quiet_searches o (game_set_by g l) ls q.1)

sets_then : (g : Game) (a b : List DownLine) → set_by_all g (a ++ b) ≡ set_by_all (set_by_all g a) b
sets_then g [] b = refl
sets_then g (l ∷ ls) b = sets_then (game_set_by g l) ls b

quiet_then : (a b : List DownLine) → AreQuiet a → AreQuiet b → AreQuiet (a ++ b)
quiet_then [] b q r = r
quiet_then (l ∷ ls) b q r = (q.0, quiet_then ls b q.1 r)

-- A SET-UP

abbrev game : Position → List Ply → Game
game start moves = record { start = start; moves = moves }

played_quiet : (has_usermove : Bool) (ms : List Ply) → AreQuiet (ply_lines has_usermove ms)
played_quiet has_usermove [] = tt
played_quiet has_usermove (m ∷ ms) = (tt, played_quiet has_usermove ms)

played_sets : (has_usermove : Bool) (ms : List Ply) (g : Game) → set_by_all g (ply_lines has_usermove ms) ≡ game g.start (g.moves ++ ms)
played_sets has_usermove [] g = ap (λ (x : List Ply). game g.start x) (sym (append-nil g.moves))
played_sets has_usermove (m ∷ ms) g = played_sets has_usermove ms (with_ply g m) ∙ ap (λ (x : List Ply). game g.start x) (append_assoc g.moves (m ∷ []) ms)

start_quiet : (standard : Bool) (p : Position) → AreQuiet (cond standard [] (SetBoard p ∷ []))
start_quiet true p = tt
start_quiet false p = (tt, tt)

pub start_sets : (standard : Bool) (p : Position) → is_standard p ≡ standard → set_by_all (game_from start_position) (cond standard [] (SetBoard p ∷ [])) ≡ game_from p
start_sets true p e = ap game_from (sym ((standard-law p).0 e))
start_sets false p e = refl

-- the further moves lead from the engine's game to the ordered one
abbrev pub IsRest : Game → Game → Option (List Ply) → Type 0
IsRest eg g None = Unit {0}
IsRest eg g (Some rest) = (eg.start ≡ g.start) × (g.moves ≡ eg.moves ++ rest)

setup_quiet : (o : Option (List Ply)) (has_usermove : Bool) (g : Game) → AreQuiet (setup_lines o has_usermove g)
setup_quiet (Some rest) has_usermove g = (tt, played_quiet has_usermove rest)
setup_quiet None has_usermove g =
    (tt, (tt, (tt, quiet_then (start_lines g.start) (ply_lines has_usermove g.moves) (start_quiet (is_standard g.start) g.start) (played_quiet has_usermove g.moves))))

pub setup_sets : (o : Option (List Ply)) (has_usermove : Bool) (eg g : Game) → IsRest eg g o → set_by_all eg (setup_lines o has_usermove g) ≡ g
setup_sets (Some rest) has_usermove eg g r =
    played_sets has_usermove rest eg
    ∙ ap (λ (x : Position). game x (eg.moves ++ rest)) r.0
    ∙ ap (λ (x : List Ply). game g.start x) (sym r.1)
setup_sets None has_usermove eg g r =
    sets_then (game_from start_position) (start_lines g.start) (ply_lines has_usermove g.moves)
    ∙ ap (λ (x : Game). set_by_all x (ply_lines has_usermove g.moves)) (start_sets (is_standard g.start) g.start refl)
    ∙ played_sets has_usermove g.moves (game_from g.start)

rest_from : (sent_game : SentGame) (eg g : Game) (o : Option (List Ply)) → eg ≡ sent_game.game → same_position sent_game.game.start g.start ≡ true → further sent_game.game.moves g.moves ≡ o → IsRest eg g o
rest_from sent_game eg g None k e f = tt
rest_from sent_game eg g (Some rest) k e f = (
  ap (λ (x : Game). x.start) k ∙ same_positions sent_game.game.start g.start e,
  further_rest sent_game.game.moves g.moves rest f ∙ ap (λ (x : Game). x.moves ++ rest) (sym k),
)

rest_by : (b : Bool) (sent_game : SentGame) (eg g : Game) (deep : Bool) → (sent_game.known ≡ true → eg ≡ sent_game.game) → ((sent_game.known && not (sent_game.limited && not deep)) && same_position sent_game.game.start g.start) ≡ b
    → IsRest eg g (cond b (further sent_game.game.moves g.moves) None)
rest_by true sent_game eg g deep k e =
    let known = left_true sent_game.known (not (sent_game.limited && not deep)) (left_true (sent_game.known && not (sent_game.limited && not deep)) (same_position sent_game.game.start g.start) e) in
    rest_from sent_game eg g (further sent_game.game.moves g.moves) (k known) (right_true (sent_game.known && not (sent_game.limited && not deep)) (same_position sent_game.game.start g.start) e) refl
rest_by false sent_game eg g deep k e = tt

pub rest_of : (sent_game : SentGame) (eg g : Game) (deep : Bool) → (sent_game.known ≡ true → eg ≡ sent_game.game) → IsRest eg g (continued sent_game g deep)
rest_of sent_game eg g deep k = rest_by ((sent_game.known && not (sent_game.limited && not deep)) && same_position sent_game.game.start g.start) sent_game eg g deep k refl

-- CLOCKS, AND A SEARCH

control_quiet : (side : Side) (c : GoClocks) (o : Option ℕ) → AreQuiet (control_lines side c o)
control_quiet side c None = (tt, (tt, (tt, tt)))
control_quiet side c (Some time) = (tt, tt)

control_sets : (side : Side) (c : GoClocks) (o : Option ℕ) (g : Game) → set_by_all g (control_lines side c o) ≡ g
control_sets side c None g = refl
control_sets side c (Some time) g = refl

depth_quiet : (b : Bool) (n : ℕ) → AreQuiet (cond b [] (Sd n ∷ []))
depth_quiet true n = tt
depth_quiet false n = (tt, tt)

depth_sets : (b : Bool) (n : ℕ) (g : Game) → set_by_all g (cond b [] (Sd n ∷ [])) ≡ g
depth_sets true n g = refl
depth_sets false n g = refl

clocks_quiet : (side : Side) (c : GoClocks) → AreQuiet (clock_lines side c)
clocks_quiet side c = quiet_then (control_lines side c c.movetime) (depth_lines c.depth) (control_quiet side c c.movetime) (depth_quiet (eqb c.depth 0) _)

clocks_set : (side : Side) (c : GoClocks) (g : Game) → set_by_all g (clock_lines side c) ≡ g
clocks_set side c g =
    sets_then g (control_lines side c c.movetime) (depth_lines c.depth)
    ∙ ap (λ (x : Game). set_by_all x (depth_lines c.depth)) (control_sets side c c.movetime g)
    ∙ depth_sets (eqb c.depth 0) _ g

move_now_on : (o g : Game) (at_once : Bool) → SearchesOn o g (move_now_lines at_once)
move_now_on o g true = tt
move_now_on o g false = tt

move_now_sets : (g : Game) (at_once : Bool) → set_by_all g (move_now_lines at_once) ≡ g
move_now_sets g true = refl
move_now_sets g false = refl

think_on : (o g on : Game) (c : GoClocks) (at_once : Bool) → g ≡ o → SearchesOn o g (think_lines on c at_once)
think_on o g on c at_once e =
    let side = (current_position on).side in
    searches_then o g (clock_lines side c) (Go ∷ move_now_lines at_once) (clocks_quiet side c)
    (subst (λ (x : Game). SearchesOn o x (Go ∷ move_now_lines at_once)) (sym (clocks_set side c g)) (e, move_now_on o g at_once))

think_sets : (g on : Game) (c : GoClocks) (at_once : Bool) → set_by_all g (think_lines on c at_once) ≡ g
think_sets g on c at_once =
    let side = (current_position on).side in
    sets_then g (clock_lines side c) (Go ∷ move_now_lines at_once)
    ∙ ap (λ (x : Game). set_by_all x (Go ∷ move_now_lines at_once)) (clocks_set side c g)
    ∙ move_now_sets g at_once

leave_on : (o g : Game) (ping : Option ℕ) → SearchesOn o g (leave_lines ping)
leave_on o g None = tt
leave_on o g (Some n) = tt

leave_sets : (g : Game) (ping : Option ℕ) → set_by_all g (leave_lines ping) ≡ g
leave_sets g None = refl
leave_sets g (Some n) = refl

-- WHAT A DEED WRITES

abbrev pub IsKnown : SentGame → Game → Type 0
IsKnown sent_game eg = sent_game.known ≡ true → eg ≡ sent_game.game

abbrev pub ActionOn : Game → Game → SentGame → Bool → ToEngine → Type 0
ActionOn g eg sent_game has_usermove down = SearchesOn g eg (down_lines sent_game g has_usermove down) × IsKnown (sent_after_line g down sent_game) (set_by_all eg (down_lines sent_game g has_usermove down))

pub action_on : (g eg : Game) (sent_game : SentGame) (has_usermove : Bool) (down : ToEngine) → FitsSent g sent_game down → IsKnown sent_game eg → ActionOn g eg sent_game has_usermove down
action_on g eg sent_game has_usermove (downs.Resume c) f k = (think_on g eg g c false (k f.0 ∙ f.1), λ h. think_sets eg g c false ∙ k h)
action_on g eg sent_game has_usermove (downs.Play c at_once) f k =
    let o = continued sent_game g (has_depth c) in
    let setup = setup_lines o has_usermove g in
    let whole = setup_sets o has_usermove eg g (rest_of sent_game eg g (has_depth c) k) in (
      searches_then g eg setup (think_lines g c at_once) (setup_quiet o has_usermove g) (think_on g (set_by_all eg setup) g c at_once whole),
      λ h. sets_then eg setup (think_lines g c at_once) ∙ think_sets (set_by_all eg setup) g c at_once ∙ whole,
    )
action_on g eg sent_game has_usermove (downs.Analyse c ping) f k =
    let o = continued sent_game g (has_depth c) in
    let setup = setup_lines o has_usermove g in
    let whole = setup_sets o has_usermove eg g (rest_of sent_game eg g (has_depth c) k) in (
      searches_then g eg setup (Analyze ∷ leave_lines ping) (setup_quiet o has_usermove g) (whole, leave_on g (set_by_all eg setup) ping),
      λ h. sets_then eg setup (Analyze ∷ leave_lines ping) ∙ leave_sets (set_by_all eg setup) ping ∙ whole,
    )
action_on g eg sent_game has_usermove down f k = (tt, k)
