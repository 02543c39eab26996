use Rattle.std.proofs.Common.{sym, subst}
use Rattle.cecp_driver.specs.Actions.{CanPush}
use Rattle.cecp_driver.proofs.driver.DriverParts.take.Goals as goal

pub note_board-requires : goal.note_board-requires
note_board-requires c = subst (CanPush c.args.turn.action.board) (sym c.write_down.ensures.sent_game) c.requires.push
