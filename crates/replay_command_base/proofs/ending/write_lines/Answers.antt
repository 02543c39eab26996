use Rattle.std.proofs.Common.{refl, inl, inr}
use Rattle.replay_command_base.proofs.ending.write_lines.Goals as goal

pub returns-in-Ok : goal.returns-in-Ok
returns-in-Ok g c = inl (refl, refl, c.in-Ok.ensures.ok, c.in-Ok.ensures.cause.same)

pub returns-in-Err : goal.returns-in-Err
returns-in-Err g c = inr (c.in-Err.ensures.cause.failed, c.in-Err.ensures.err, c.report_without_buffer.ensures)
