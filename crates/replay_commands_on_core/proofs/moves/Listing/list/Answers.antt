use Rattle.std.proofs.Common.{refl}
use Rattle.replay_commands_on_core.specs.Moves.{Refuses, Writes_all}
use Rattle.replay_commands_on_core.proofs.moves.Listing.list.Goals as goal

pub returns-in-Err : goal.returns-in-Err
returns-in-Err g c = Refuses c.in-Err.fault (let a = c.read_fen.ensures in let b = c.in-Err.is in let s = c.as_slice.ensures.value in cc) refl c.report_without_buffer.ensures

pub returns-in-Ok : goal.returns-in-Ok
returns-in-Ok g c = Writes_all c.in-Ok.position (let a = c.read_fen.ensures in let b = c.in-Ok.is in let s = c.as_slice.ensures.value in cc) c.write_moves.ensures
