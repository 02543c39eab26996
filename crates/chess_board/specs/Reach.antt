-- Where a piece could go on an empty board, and sets of squares by the bits of a number.
use Rattle.std.specs.Prelude.{ℕ, ◌≡◌, ◌<◌, Bool, true, false, ◌&&◌, ◌||◌, ◌==◌}
use Rattle.std.specs.Prelude.{Option, Some, None, max, nat_lt, nat_le, ◌≢◌, slice_set}
use Rattle.std.specs.Int.{bit_at}
use Rattle.chess_board.specs.declared.board.Wing.{Wing}
use Rattle.chess_board.specs.declared.board.Wing.TheVariants.{HSide, ASide}
use Rattle.chess_board.specs.declared.board.Side.{Side}
use Rattle.chess_board.specs.declared.board.Kind.{Kind}
use Rattle.chess_board.specs.declared.board.Kind.TheVariants.{Pawn, Knight, Bishop}
use Rattle.chess_board.specs.declared.board.Kind.TheVariants.{Rook, Queen, King}
use Rattle.chess_board.specs.Board.{Occupant, Pieces, piece_at, gap, files_apart, rank_of_square}
use Rattle.chess_board.specs.Attack.{is_ahead, attacks, is_checked}
use Rattle.chess_board.specs.Position.{Position}
use Rattle.chess_board.specs.Rules.{right_of, is_on_file, castling_file}
use Rattle.chess_board.specs.Rules.{reaches_to, may_land, promotes, pieces_after}

-- what a piece's move looks like on an empty board: by how many files, from which rank to which
abbrev pub shape : Side → Kind → ℕ → ℕ → ℕ → Bool
shape side Pawn files from to =
    nat_le files 1 && (is_ahead side from to 1 || ((files == 0) && is_ahead side from to 2))
shape side Knight files from to =
    ((files == 1) && (gap from to == 2)) || ((files == 2) && (gap from to == 1))
shape side King files from to = nat_le files 1 && nat_le (gap from to) 1
shape side Bishop files from to = nat_lt 0 (max files (gap from to)) && (files == gap from to)
shape side Rook files from to =
    nat_lt 0 (max files (gap from to)) && ((files == 0) || (gap from to == 0))
shape side Queen files from to =
    nat_lt 0 (max files (gap from to))
    && ((files == gap from to) || ((files == 0) || (gap from to == 0)))

-- whether a piece could go from a square to another on an empty board
abbrev pub form : Side → Kind → ℕ → ℕ → Bool
form side piece from to = shape side piece (files_apart from to) (rank_of_square from) (rank_of_square to)

-- whether a square is in a set: the bit of its number
abbrev pub has : ℕ → ℕ → Bool
has set s = bit_at set s == 1

-- the set of the squares that pass a test
abbrev pub IsSetOf : (ℕ → Bool) → ℕ → Type 0
IsSetOf test set = (s : ℕ) → s < 64 → has set s ≡ test s

-- whether a square spells castling with a rook whose right the side on move holds
abbrev pub spells_right : Position → Wing → ℕ → Option ℕ → Bool
spells_right p wing to None = false
spells_right p wing to (Some rook) =
    nat_lt rook 8 && is_on_file p.side (castling_file p.rights.variant wing rook) to

abbrev pub could_castle : Position → Kind → ℕ → Bool
could_castle p King to =
    spells_right p HSide to (right_of p.rights p.side HSide)
    || spells_right p ASide to (right_of p.rights p.side ASide)
could_castle p _ to = false

-- whether the piece on a square could go to another on an empty board, and may land there, or could castle so
abbrev pub could_go : Position → Occupant → ℕ → ℕ → Bool
could_go p None from to = false
could_go p (Some occupant) from to =
    (may_land p.side (piece_at p.pieces to) && form p.side occupant.1 from to)
    || could_castle p occupant.1 to

-- the squares to which the piece on a square could go
abbrev pub AreWays : Position → ℕ → ℕ → Type 0
AreWays p from set = IsSetOf (could_go p (piece_at p.pieces from) from) set

-- whether a piece of the kind goes any way along a line
abbrev pub is_slider : Kind → Bool
is_slider Bishop = true
is_slider Rook = true
is_slider Queen = true
is_slider _ = false

-- from a square no piece goes to a square outside the set
abbrev pub Bounds : Position → ℕ → ℕ → Type 0
Bounds p from set = (to : ℕ) → to < 64 → has set to ≡ false → reaches_to p from to ≡ false

-- no piece of the side that stands outside the set attacks the square, wherever the other pieces stand
abbrev pub Nears : Pieces → Side → ℕ → ℕ → Type 0
Nears pieces side at set =
    (others : Pieces) (s : ℕ) → s < 64 → has set s ≡ false → piece_at others s ≡ piece_at pieces s
    → attacks others side s at ≡ false

-- no piece that stands outside the set shields a square from an attack: with it away, what attacks
-- it from another square did before
abbrev pub Shields : Pieces → Side → ℕ → ℕ → ℕ → Type 0
Shields pieces side from at set =
    (s : ℕ) → s < 64 → from ≢ s → has set s ≡ false
    → attacks (slice_set pieces s None) side from at ≡ true → attacks pieces side from at ≡ true

-- a piece that leaves a square outside the set leaves its king unattacked
abbrev pub Frees : Position → ℕ → Type 0
Frees p set =
    (piece : Kind) (from to : ℕ) (promotion : Option Kind) → from < 64 → to < 64
    → has set from ≡ false → piece_at p.pieces from ≡ Some (p.side, piece)
    → promotes p.side piece to promotion ≡ true
    → is_checked (pieces_after p piece from to promotion) p.side ≡ false
