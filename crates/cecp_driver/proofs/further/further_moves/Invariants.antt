-- The rest of both goes on as all did.
use Rattle.std.proofs.Common.{◌≡◌, ◌≤◌, length}
use Rattle.std.specs.List.{AllByRecursion}
use Rattle.chess_board.specs.Text.{IsOfficer}
use Rattle.game_record.specs.Game.{plies_of}
use Rattle.cecp_driver.specs.SetUp.{further}
use Rattle.cecp_driver.proofs.further.further_moves.Given as goal

abbrev pub invariant-loop-left : goal.invariant-loop-left
invariant-loop-left l = record {
  same : further (plies_of l.left) (plies_of l.rest) ≡ further (plies_of l.fn.known) (plies_of l.fn.moves);
  few : length l.rest ≤ length l.fn.moves;
  officers : AllByRecursion (λ m. IsOfficer m.promotion) (plies_of l.fn.moves) → AllByRecursion (λ m. IsOfficer m.promotion) (plies_of l.rest);
}

abbrev pub decreases-loop-left : goal.decreases-loop-left
decreases-loop-left l = length l.left
