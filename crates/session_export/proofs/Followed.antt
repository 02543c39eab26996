-- A game that goes with another.
use Rattle.std.proofs.Common.{◌≡◌, ℕ, zero, suc, ◌-◌, ◌<◌, ◌≤◌, List, [], ◌∷◌, ◌++◌, length, take, Some, None, refl, sym, ap, ◌∙◌, arith, length-append}
use Rattle.std.specs.List.{slice_get}
use Rattle.std.proofs.lemmas.List.{length-take-le, length-map, take_all}
use Rattle.chess_board.specs.declared.board.Move.{Move}
use Rattle.chess_board.specs.Position.{Position}
use Rattle.game_record.specs.Game.{Ply, Game, ply_of, plies_of, IsPlayablePly, position_after_ply, now_after, AreLegal, game_from, with_ply, without_last}
use Rattle.session_export.specs.Following.{GameFollows, Stays, Begins, Plays, TakesBack}

-- A MOVE IS PLAYED

pub plays : (g h : Game) → GameFollows g h → length g.moves < length h.moves → (m : Ply) × (h ≡ with_ply g m)
plays g h (Stays e) lt = let n = ap (λ (x : Game). length x.moves) e in absurd (let z : ⊥ = omega (arith, n) in z)
plays g h (Begins p e) lt = let n = ap (λ (x : Game). length x.moves) e in absurd (let z : ⊥ = omega (arith, n) in z)
plays g h (Plays m e) lt = (m, e)
plays g h (TakesBack k e) lt =
    let n = ap (λ (x : Game). length x.moves) e in
    let t = length-take-le (length g.moves - k) g.moves (omega arith) in
    absurd (let z : ⊥ = omega (arith, n, t) in z)

pub legal_last : (p : Position) (moves : List Ply) (m : Ply) → AreLegal p (moves ++ m ∷ []) → IsPlayablePly (now_after p moves) m
legal_last p [] m h = h.0
legal_last p (n ∷ moves) m h = legal_last (position_after_ply p n) moves m h.1

at_end : (moves : List Ply) (m : Ply) → slice_get (moves ++ m ∷ []) (length moves) ≡ Some m
at_end [] m = refl
at_end (n ∷ moves) m = at_end moves m

get_ply : (moves : List Move) (i : ℕ) (x : Move) → slice_get moves i ≡ Some x → slice_get (plies_of moves) i ≡ Some (ply_of x)
get_ply [] i x e = cc
get_ply (y ∷ moves) zero x e = let same : y ≡ x = cc in ap (λ (z : Move). Some (ply_of z)) same
get_ply (y ∷ moves) (suc i) x e = get_ply moves i x e

-- the last of the moves is the one that was played
pub last_is : (moves : List Move) (before : List Ply) (m : Ply) (x : Move) → plies_of moves ≡ before ++ m ∷ [] → slice_get moves (length moves - 1) ≡ Some x → ply_of x ≡ m
last_is moves before m x e g =
    let count : length moves - 1 ≡ length before =
    let a = ap length e in let b = length-map moves ply_of in let c = length-append before (m ∷ []) in omega (arith, a, b, c) in
    let there : slice_get (plies_of moves) (length moves - 1) ≡ Some (ply_of x) = get_ply moves (length moves - 1) x g in
    let here : slice_get (plies_of moves) (length moves - 1) ≡ Some m =
    ap (slice_get (plies_of moves)) count ∙ ap (λ (ps : List Ply). slice_get ps (length before)) e ∙ at_end before m in
    cc

some_last : (x : Move) (moves : List Move) → (y : Move) × (slice_get (x ∷ moves) (length moves) ≡ Some y)
some_last x [] = (x, refl)
some_last x (y ∷ moves) = some_last y moves

-- a game with moves has a last one
pub has_last : (moves : List Move) → 0 < length moves → slice_get moves (length moves - 1) ≡ None → ⊥
has_last [] some e = omega arith
has_last (x ∷ moves) some e =
    let y = some_last x moves in
    let n : suc (length moves) - 1 ≡ length moves = omega arith in
    let there : slice_get (x ∷ moves) (length moves) ≡ None = ap (slice_get (x ∷ moves)) (sym n) ∙ e in
    let here = y.1 in
    cc

-- MOVES ARE TAKEN BACK

course : Position → List Ply → Game
course p moves = record { start = p; moves = moves }

back : (g : Game) (a b : ℕ) → a ≡ b → without_last g a ≡ without_last g b
back g a b e = ap (without_last g) e

taken_none : (g : Game) → without_last g 0 ≡ g
taken_none g = ap (λ (ms : List Ply). let x : Game = record { start = g.start; moves = ms } in x) (take_all (length g.moves - 0) g.moves (omega arith))

by_count : (g : Game) (a b : ℕ) → length g.moves - a ≡ length g.moves - b → without_last g a ≡ without_last g b
by_count g a b e = ap (λ (n : ℕ). let x : Game = record { start = g.start; moves = take n g.moves } in x) e

pub takes_back : (g h : Game) → GameFollows g h → length h.moves ≤ length g.moves → 0 < length h.moves
    → without_last g (length g.moves - length h.moves) ≡ h
takes_back g h (Stays e) le some =
    let n = ap (λ (x : Game). length x.moves) e in
    back g (length g.moves - length h.moves) 0 (omega (arith, n)) ∙ taken_none g ∙ sym e
takes_back g h (Begins p e) le some = let n = ap (λ (x : Game). length x.moves) e in absurd (let z : ⊥ = omega (arith, n) in z)
takes_back g h (Plays m e) le some =
    let n = ap (λ (x : Game). length x.moves) e in
    let t = length-append g.moves (m ∷ []) in
    absurd (let z : ⊥ = omega (arith, n, t) in z)
takes_back g h (TakesBack k e) le some =
    let n = ap (λ (x : Game). length x.moves) e in
    let t = length-take-le (length g.moves - k) g.moves (omega arith) in
    by_count g (length g.moves - length h.moves) k (omega (arith, n, t)) ∙ sym e

pub unchanged : (g h : Game) → GameFollows g h → length h.moves ≤ length g.moves → length g.moves ≤ length h.moves → 0 < length h.moves → g ≡ h
unchanged g h f le ge some = sym (taken_none g) ∙ back g 0 (length g.moves - length h.moves) (omega arith) ∙ takes_back g h f le some

-- NO MOVES

begun_by : (p : Position) (moves : List Ply) → length moves ≡ 0 → game_from p ≡ (let x : Game = record { start = p; moves = moves } in x)
begun_by p [] e = refl
begun_by p (m ∷ moves) e = absurd (let z : ⊥ = omega (arith, e) in z)

pub no_moves : (h : Game) → length h.moves ≡ 0 → game_from h.start ≡ h
no_moves h e = begun_by h.start h.moves e
