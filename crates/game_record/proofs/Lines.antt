-- The standard start, and how long a line may be.
use Rattle.std.proofs.Common.{◌≡◌, ℕ, Bool, zero, suc, ◌+◌, ◌*◌, ◌<◌, ◌≤◌, ltb, get_or, subst, append_assoc, append-nil, List, [], ◌∷◌, ◌++◌, true, false, ◌&&◌, cond, eqb, length, Option, Some, None, refl, sym, ap, ◌∙◌, arith, length-append}
use Rattle.std.specs.Bool.{Decides}
use Rattle.std.specs.Option.{option_to_list}
use Rattle.std.specs.Prelude.{codes}
use Rattle.std.proofs.lemmas.Bool.Decides.{Decides-and, Decides-eqb, nat_tests}
use Rattle.chess_board.specs.declared.board.Side.{Side}
use Rattle.chess_board.specs.declared.board.Rights.{Rights}
use Rattle.chess_board.specs.Board.{Pieces}
use Rattle.chess_board.specs.Position.{Position}
use Rattle.chess_board.specs.Play.{start_position, IsPosition}
use Rattle.fen_text.specs.Written.{position_fen}
use Rattle.fen_text.proofs.Lengths.{length-written}
use Rattle.line_io.specs.Out.{Text, with}
use Rattle.std.specs.List.{AllByRecursion}
use Rattle.chess_board.specs.declared.board.Move.{Move}
use Rattle.chess_board.specs.Text.{text_of_move, IsOfficer}
use Rattle.chess_board.proofs.Texts.{legal-written}
use Rattle.chess_board.proofs.TextLengths.{promotion_length}
use Rattle.game_record.specs.Game.{Ply, Game, ply_of, plies_of, position_after_ply, AreLegal}
use Rattle.game_record.specs.Ending.{is_same}
use Rattle.game_record.specs.Line.{ply_text, spaced_plies, plies_and_hint, game_moves_text, is_standard, game_start_text, game_position_text, StandardLaw, PositionLineIsShort}
use Rattle.game_record.proofs.Sames.{same-law}

abbrev six : Pieces → Side → Rights → Option ℕ → ℕ → ℕ → Position
six pieces side rights passant half full = record { pieces = pieces; side = side; rights = rights; passant = passant; half = half; full = full }

same_parts : (p q : Position) → p.pieces ≡ q.pieces → p.side ≡ q.side → p.rights ≡ q.rights → p.passant ≡ q.passant → p.half ≡ q.half → p.full ≡ q.full → p ≡ q
same_parts p q m s r e h f =
    let whole : six p.pieces p.side p.rights p.passant p.half p.full ≡ six q.pieces q.side q.rights q.passant q.half q.full =
    ap (λ (x : Pieces). six x p.side p.rights p.passant p.half p.full) m ∙ ap (λ (x : Side). six q.pieces x p.rights p.passant p.half p.full) s
    ∙ ap (λ (x : Rights). six q.pieces q.side x p.passant p.half p.full) r ∙ ap (λ (x : Option ℕ). six q.pieces q.side q.rights x p.half p.full) e
    ∙ ap (λ (x : ℕ). six q.pieces q.side q.rights q.passant x p.full) h ∙ ap (λ (x : ℕ). six q.pieces q.side q.rights q.passant q.half x) f in
    whole

equal_by : (p q : Position) → Decides (is_same p q && (eqb p.half q.half && eqb p.full q.full)) (p ≡ q)
equal_by p q =
    let both = Decides-and (is_same p q) (eqb p.half q.half && eqb p.full q.full) (same-law p q) (Decides-and (eqb p.half q.half) (eqb p.full q.full) (Decides-eqb p.half q.half) (Decides-eqb p.full q.full)) in (
      λ e. let parts = both.0 e in same_parts p q parts.0.pieces parts.0.side parts.0.rights parts.0.passant parts.1.0 parts.1.1,
      λ e. both.1 (
        record { pieces = ap (λ (x : Position). x.pieces) e; side = ap (λ (x : Position). x.side) e; rights = ap (λ (x : Position). x.rights) e; passant = ap (λ (x : Position). x.passant) e },
        (ap (λ (x : Position). x.half) e, ap (λ (x : Position). x.full) e),
      ),
    )

pub standard-law : StandardLaw
unfolding is_standard
standard-law p = equal_by p start_position

-- two tests for one thing
one_test : {P : Type 0} → (a b : Bool) → Decides a P → Decides b P → a ≡ b
one_test true true d e = refl
one_test true false d e = sym (e.1 (d.0 refl))
one_test false true d e = d.1 (e.0 refl)
one_test false false d e = refl

-- every test for the standard start
pub standard_test : (b : Bool) (p : Position) → Decides b (p ≡ start_position) → is_standard p ≡ b
standard_test b p d = one_test (is_standard p) b (standard-law p) d

-- the text of the start, by such a test
pub start_by : (b c : Bool) (p : Position) → Decides b (p ≡ start_position) → b ≡ c → game_start_text p ≡ cond c (codes "startpos") (codes "fen " ++ position_fen p)
start_by b c p d e = ap (λ (v : Bool). cond v (codes "startpos") (codes "fen " ++ position_fen p)) (standard_test b p d ∙ e)

length-spaced : (moves : List Ply) → length (spaced_plies moves) ≤ 6 * length moves
length-spaced [] = omega arith
length-spaced (m ∷ moves) =
    let text : length (ply_text m) ≤ 5 = let promotion = promotion_length m.promotion in omega arith in
    let rest = length-spaced moves in
    let both = length-append (ply_text m) (spaced_plies moves) in
    omega arith

length-moves : (moves : List Ply) → length (game_moves_text moves) ≤ 6 + 6 * length moves
length-moves moves =
    let rest = length-spaced moves in
    let both = length-append (codes " moves") (spaced_plies moves) in
    elim (ltb 0 (length moves)) as (λ v. length (cond v (codes " moves" ++ spaced_plies moves) []) ≤ 6 + 6 * length moves) [ true ↦ omega arith | false ↦ omega arith ]

length-start : (p : Position) → IsPosition p → length (game_start_text p) ≤ 97
length-start p q =
    let text = length-written p q in
    let both = length-append (codes "fen ") (position_fen p) in
    elim (is_standard p) as (λ v. length (cond v (codes "startpos") (codes "fen " ++ position_fen p)) ≤ 97) [ true ↦ omega arith | false ↦ omega arith ]

pub short-law : PositionLineIsShort
unfolding game_position_text
short-law g hint q =
    let start = length-start g.start q in
    let moves = length-moves (plies_and_hint g.moves hint) in
    let tail = length-append (game_start_text g.start) (game_moves_text (plies_and_hint g.moves hint)) in
    let all = length-append (codes "position ") (game_start_text g.start ++ game_moves_text (plies_and_hint g.moves hint)) in
    omega arith

-- a buffer after one piece, and after another
pub after_put : (old new : Text) (piece : List ℕ) → new ≡ with old piece → (length new.text ≡ length old.text + length piece) × (new.room ≡ old.room)
after_put old new piece e = (ap (λ (t : Text). length t.text) e ∙ length-append old.text piece, ap (λ (t : Text). t.room) e)

pub spaced-append : (a b : List Ply) → spaced_plies (a ++ b) ≡ spaced_plies a ++ spaced_plies b
spaced-append [] b = refl
spaced-append (m ∷ a) b = ap (λ (t : List ℕ). 32 ∷ (ply_text m ++ t)) (spaced-append a b) ∙ ap (λ (t : List ℕ). 32 ∷ t) (sym (append_assoc (ply_text m) (spaced_plies a) (spaced_plies b)))

-- the text of moves of which there are some
pub moves_text-some : (moves : List Ply) (hint : Option Ply) → 0 < length (plies_and_hint moves hint) → game_moves_text (plies_and_hint moves hint) ≡ codes " moves" ++ (spaced_plies moves ++ spaced_plies (option_to_list hint))
moves_text-some moves hint h =
    let some : ltb 0 (length (plies_and_hint moves hint)) ≡ true = grind (arith, nat_tests) in
    rw some (ap (λ (t : List ℕ). codes " moves" ++ t) (spaced-append moves (option_to_list hint)))

pub moves_text-none : (moves : List Ply) → (0 < length moves → ⊥) → game_moves_text moves ≡ []
moves_text-none [] h = refl
moves_text-none (m ∷ moves) h = absurd (h (omega arith))

pub reported_some : (moves : List Ply) (m : Move) → 0 < length (plies_and_hint moves (Some (ply_of m))) → game_moves_text (plies_and_hint moves (Some (ply_of m))) ≡ codes " moves" ++ (spaced_plies moves ++ (32 ∷ text_of_move m))
reported_some moves m h =
    moves_text-some moves (Some (ply_of m)) h ∙ ap (λ (t : List ℕ). codes " moves" ++ (spaced_plies moves ++ (32 ∷ t))) (append-nil (text_of_move m))

pub reported_none : (moves : List Ply) → 0 < length (plies_and_hint moves None) → game_moves_text (plies_and_hint moves None) ≡ codes " moves" ++ spaced_plies moves
reported_none moves h = moves_text-some moves None h ∙ ap (λ (t : List ℕ). codes " moves" ++ t) (append-nil (spaced_plies moves))

-- the room for the parts
pub parts_fit : (moves : List Ply) (hint : Option Ply) (before room : ℕ) → 0 < length (plies_and_hint moves hint) → before + length (game_moves_text (plies_and_hint moves hint)) ≤ room → before + 6 + length (spaced_plies moves) + length (spaced_plies (option_to_list hint)) ≤ room
parts_fit moves hint before room h fits =
    let all = ap length (moves_text-some moves hint h) in
    let prefix = length-append (codes " moves") (spaced_plies moves ++ spaced_plies (option_to_list hint)) in
    let both = length-append (spaced_plies moves) (spaced_plies (option_to_list hint)) in
    omega arith

-- the room for the next of the moves
pub next_fits : (out before : List ℕ) (moves rest : List Move) (m : Move) (room : ℕ) → out ++ spaced_plies (plies_of (m ∷ rest)) ≡ before ++ spaced_plies (plies_of moves) → length before + length (spaced_plies (plies_of moves)) ≤ room → length out + length (32 ∷ text_of_move m) ≤ room
next_fits out before moves rest m room e fits =
    let all = ap length e in
    let left = length-append out (spaced_plies (plies_of (m ∷ rest))) in
    let right = length-append before (spaced_plies (plies_of moves)) in
    let next = length-append (text_of_move m) (spaced_plies (plies_of rest)) in
    omega arith

pub officer_at : (moves : List Move) (i : ℕ) (m : Move) → i < length moves → m ≡ get_or moves i m → AllByRecursion (λ (m : Ply). IsOfficer m.promotion) (plies_of moves) → IsOfficer m.promotion
officer_at [] i m h e a = absurd (omega arith)
officer_at (x ∷ moves) zero m h e a = subst (λ (n : Move). IsOfficer n.promotion) (sym e) a.0
officer_at (x ∷ moves) (suc i) m h e a = officer_at moves i m (omega arith) e a.1

-- legal moves have texts
pub officers : (p : Position) (moves : List Move) → AreLegal p (plies_of moves) → AllByRecursion (λ (m : Ply). IsOfficer m.promotion) (plies_of moves)
officers p [] h = tt
officers p (m ∷ moves) h = (legal-written p m h.0, officers (position_after_ply p (ply_of m)) moves h.1)

pub line_fits : (g : Game) (hint : Option Ply) (before room : ℕ) → before + length (game_position_text g hint) ≤ room → before + 9 + length (game_start_text g.start) + length (game_moves_text (plies_and_hint g.moves hint)) ≤ room
unfolding game_position_text
line_fits g hint before room fits =
    let tail = length-append (game_start_text g.start) (game_moves_text (plies_and_hint g.moves hint)) in
    let all = length-append (codes "position ") (game_start_text g.start ++ game_moves_text (plies_and_hint g.moves hint)) in
    omega arith

at_most_one : (hint : Option Ply) → length (option_to_list hint) ≤ 1
at_most_one None = omega arith
at_most_one (Some m) = omega arith

-- no line of a game of at most 12,000 moves has more bytes
pub most_bytes : (g : Game) (hint : Option Ply) → IsPosition g.start → length g.moves ≤ 12000 → length (game_position_text g hint) ≤ 72126
most_bytes g hint q few =
    let short = short-law g hint q in
    let count = length-append g.moves (option_to_list hint) in
    let one = at_most_one hint in
    omega arith
