use Rattle.replay_commands_on_core.specs.Drilled.{Plays}
use Rattle.replay_command_base.proofs.Announcing.{writes_as}
use Rattle.replay_commands_on_core.proofs.play.play_drill.Goals as goal

pub returns-in-Ok : goal.returns-in-Ok
returns-in-Ok g c = Plays c.in-Ok.line.text c.in-Ok.ensures (writes_as _ _ _ _ _ _ _ _ c.bytes.ensures.text c.write_lines.ensures)
