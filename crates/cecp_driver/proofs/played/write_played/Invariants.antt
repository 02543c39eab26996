-- The rest of the moves completes the text.
use Rattle.std.proofs.Common.{◌≡◌, ◌≤◌, ◌+◌, ◌*◌, ◌++◌, length}
use Rattle.std.specs.List.{AllByRecursion}
use Rattle.chess_board.specs.Text.{IsOfficer}
use Rattle.game_record.specs.Game.{plies_of}
use Rattle.driver_state_machine.specs.Lines.{lines_text}
use Rattle.cecp_driver.specs.SetUp.{ply_lines}
use Rattle.cecp_driver.proofs.played.write_played.Given as goal

abbrev pub invariant-loop-rest : goal.invariant-loop-rest
invariant-loop-rest l = record {
  text : l.out.text ++ lines_text (ply_lines l.fn.has_usermove (plies_of l.rest)) ≡ l.initial.out.text ++ lines_text (ply_lines l.fn.has_usermove (plies_of l.fn.moves));
  room : l.out.room ≡ l.initial.out.room;
  officers : AllByRecursion (λ m. IsOfficer m.promotion) (plies_of l.rest);
  fits : length l.out.text + 15 * length l.rest ≤ length l.initial.out.text + 15 * length l.fn.moves;
}

abbrev pub decreases-loop-rest : goal.decreases-loop-rest
decreases-loop-rest l = length l.rest
