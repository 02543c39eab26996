use Rattle.std.proofs.Common.{refl}
use Rattle.replay_commands_on_core.specs.Moves.{WantsMemory}
use Rattle.replay_commands_on_core.proofs.moves.list_moves.Goals as goal

pub returns-in-Err : goal.returns-in-Err
returns-in-Err g c = WantsMemory refl c.report_without_buffer.ensures
