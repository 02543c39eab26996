-- The number of times that a position stood, and the end of a game.
use Rattle.std.specs.Prelude.{ℕ, ◌<◌, ◌≤◌, ◌↔◌, Bool, true, false, IsTrue, ◌&&◌, ◌||◌, ◌==◌, not}
use Rattle.std.specs.Prelude.{nat_le, if◌then◌else◌, List, [], ◌∷◌, count_by, Option, Some, None}
use Rattle.chess_board.specs.declared.board.Kind.{Kind}
use Rattle.chess_board.specs.declared.board.Kind.TheVariants.{Pawn, Knight, Bishop}
use Rattle.chess_board.specs.declared.board.Kind.TheVariants.{Rook, Queen, King}
use Rattle.chess_board.specs.declared.board.Rights.{Rights}
use Rattle.chess_board.specs.declared.board.State.{State}
use Rattle.chess_board.specs.declared.board.Variant.{Variant}
use Rattle.chess_board.specs.declared.board.Variant.TheVariants.{Normal, Fischer}
use Rattle.chess_board.specs.declared.board.State.TheVariants as states
use Rattle.chess_board.specs.Attack.{is_checked}
use Rattle.chess_board.specs.Board.{Occupant, Pieces, same_side}
use Rattle.chess_board.specs.Laws.{Same}
use Rattle.chess_board.specs.Position.{Position}
use Rattle.chess_board.specs.Place.{has_any_way}
use Rattle.chess_board.specs.Play.{is_piece, is_minor, StateFits}
use Rattle.game_record.specs.declared.ending.GameEnd.{GameEnd}
use Rattle.game_record.specs.declared.ending.GameEnd.TheVariants.{Mate, Stale, Dead}
use Rattle.game_record.specs.declared.ending.GameEnd.TheVariants.{Repetition, Fifty}
use Rattle.game_record.specs.Game.{Game, current_position, positions_of}

-- each kind by a number of its own
abbrev pub kind_number : Kind → ℕ
kind_number Pawn = 0
kind_number Knight = 1
kind_number Bishop = 2
kind_number Rook = 3
kind_number Queen = 4
kind_number King = 5

abbrev pub same_piece : Occupant → Occupant → Bool
same_piece None None = true
same_piece None (Some b) = false
same_piece (Some a) None = false
same_piece (Some a) (Some b) = same_side a.0 b.0 && (kind_number a.1 == kind_number b.1)

abbrev pub same_pieces : Pieces → Pieces → Bool
same_pieces [] [] = true
same_pieces [] (b ∷ others) = false
same_pieces (a ∷ pieces) [] = false
same_pieces (a ∷ pieces) (b ∷ others) = same_piece a b && same_pieces pieces others

abbrev pub same_variant : Variant → Variant → Bool
same_variant Normal Normal = true
same_variant Fischer Fischer = true
same_variant Normal Fischer = false
same_variant Fischer Normal = false

abbrev pub same_square : Option ℕ → Option ℕ → Bool
same_square None None = true
same_square None (Some b) = false
same_square (Some a) None = false
same_square (Some a) (Some b) = a == b

-- the same rooks may castle, by the rules of the same variant
abbrev pub same_rights : Rights → Rights → Bool
same_rights a b =
    same_variant a.variant b.variant
    && ((same_square a.wk b.wk && same_square a.wq b.wq) && (same_square a.bk b.bk && same_square a.bq b.bq))

-- true if two positions are the same for repetition: pieces, side on move, rights and en passant square
unfoldable pub is_same : Position → Position → Bool
is_same p q =
    (same_pieces p.pieces q.pieces && same_side p.side q.side)
    && (same_rights p.rights q.rights && same_square p.passant q.passant)

-- the test for it decides the relation of the Laws
abbrev pub SameLaw : Type 0
SameLaw = (p q : Position) → IsTrue (is_same p q) ↔ Same p q

-- how many of the positions are the same as this one
abbrev pub stood_in : Position → List Position → ℕ
stood_in p positions = count_by (is_same p) positions

-- how often the present position stood, the present time counted
abbrev pub repeats_of : Game → ℕ
repeats_of g = stood_in (current_position g) (positions_of g)

-- true if the side on move has a legal move
unfoldable pub has_legal : Position → Bool
has_legal p = has_any_way p

-- beside the two kings no piece, or one bishop or knight alone
abbrev pub is_dead : Pieces → Bool
is_dead pieces =
    (count_by is_piece pieces == 2) || ((count_by is_piece pieces == 3) && (count_by is_minor pieces == 1))

abbrev pub state_by : Bool → Bool → Bool → State
state_by false true dead = states.Mate
state_by false false dead = states.Stale
state_by true checked true = states.Dead
state_by true checked false = states.Open

-- the state of a position: the first that holds of mate, stalemate and dead
unfoldable pub state_of : Position → State
state_of p = state_by (has_legal p) (is_checked p.pieces p.side) (is_dead p.pieces)

abbrev pub StateLaw : Type 0
StateLaw = (p : Position) → StateFits p (state_of p)

-- the first that holds of mate, stalemate, dead position, third occurrence and 100 moves
-- without pawn move or capture
abbrev pub ended_by : State → ℕ → ℕ → Option GameEnd
ended_by states.Mate repeats half = Some Mate
ended_by states.Stale repeats half = Some Stale
ended_by states.Dead repeats half = Some Dead
ended_by states.Open repeats half =
    if nat_le 3 repeats then Some Repetition else (if nat_le 100 half then Some Fifty else None)

-- how a game has ended, if it has
unfoldable pub ended_of : Game → Option GameEnd
ended_of g = ended_by (state_of (current_position g)) (repeats_of g) (current_position g).half

-- the end of a game in the words of the Laws
abbrev pub GameEndsBy : Game → Option GameEnd → Type 0
GameEndsBy g (Some Mate) = StateFits (current_position g) states.Mate
GameEndsBy g (Some Stale) = StateFits (current_position g) states.Stale
GameEndsBy g (Some Dead) = StateFits (current_position g) states.Dead
GameEndsBy g (Some Repetition) = StateFits (current_position g) states.Open × (3 ≤ repeats_of g)
GameEndsBy g (Some Fifty) =
    StateFits (current_position g) states.Open × (repeats_of g < 3) × (100 ≤ (current_position g).half)
GameEndsBy g None = StateFits (current_position g) states.Open × (repeats_of g < 3) × ((current_position g).half < 100)

abbrev pub EndingLaw : Type 0
EndingLaw = (g : Game) → GameEndsBy g (ended_of g)
