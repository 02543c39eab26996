-- The pieces of the lower ranks.
use Rattle.std.proofs.Common.{◌≡◌, ◌-◌, ◌*◌, Some, drop, length}
use Rattle.fen_text.specs.Squares.{pieces_on_ranks, ranks_in}
use Rattle.fen_text.proofs.squares.read_squares.Given as goal

abbrev pub invariant-loop-rank : goal.invariant-loop-rank
invariant-loop-rank l = record { pieces : pieces_on_ranks (drop (8 - l.rank) (ranks_in l.field)) ≡ Some l.squares.items; count : length l.squares.items ≡ 8 * l.rank; ranks : length (ranks_in l.field) ≡ 8 }
