-- Castling ends on the first rank.
use Rattle.std.proofs.Common.{◌≡◌, ◌≢◌, ℕ, false, nat_lt, refl, Option, Some, None}
use mathlib.Core.Bool.{and-false}
use Rattle.chess_board.specs.declared.board.Kind.{Kind}
use Rattle.chess_board.specs.declared.board.Kind.TheVariants.{Pawn, Knight, Bishop, Rook, Queen, King}
use Rattle.chess_board.specs.declared.board.Wing.{Wing}
use Rattle.chess_board.specs.declared.board.Wing.TheVariants.{HSide, ASide}
use Rattle.chess_board.specs.Board.{rank_of_square}
use Rattle.chess_board.specs.Position.{Position}
use Rattle.chess_board.specs.Rules.{first_rank, right_of, may_castle, may_castle_by, may_castle_with, castling_of}
use Rattle.chess_board.proofs.Prepared.{not_equal}

ends_by : (p : Position) (wing : Wing) (from to : ℕ) (right : Option ℕ) → rank_of_square to ≢ first_rank p.side → may_castle_by p wing from to right ≡ false
unfolding may_castle_with
ends_by p wing from to None off = refl
ends_by p wing from to (Some rook) off = rw (not_equal (rank_of_square to) (first_rank p.side) off, and-false (nat_lt rook 8)) refl

ends : (p : Position) (wing : Wing) (from to : ℕ) → rank_of_square to ≢ first_rank p.side → may_castle p wing from to ≡ false
unfolding may_castle
ends p wing from to off = ends_by p wing from to (right_of p.rights p.side wing) off

pub castling_off : (p : Position) (kind : Kind) (from to : ℕ) → rank_of_square to ≢ first_rank p.side → None ≡ castling_of p kind from to
castling_off p Pawn from to off = refl
castling_off p Knight from to off = refl
castling_off p Bishop from to off = refl
castling_off p Rook from to off = refl
castling_off p Queen from to off = refl
castling_off p King from to off = rw (ends p HSide from to off, ends p ASide from to off) refl
