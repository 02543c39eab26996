use Rattle.std.proofs.Common.{refl, inl, inr, subst, List, ℕ}
use Rattle.std.specs.Io.KnownBytes.{Appends}
use Rattle.line_io.specs.Source.{TakesPrefix}
use Rattle.replay_command_base.proofs.ending.report_without_buffer.Goals as goal

pub returns-in-Ok : goal.returns-in-Ok
returns-in-Ok g c = inl (refl, subst (λ (l : List ℕ). Appends (g.D.Sink.state c.args.diag.now).taken (g.D.Sink.state c.write_all.new.sink).taken l) c.tail.ensures c.in-Ok.ensures.ok, c.in-Ok.ensures.cause.same)

pub returns-in-Err : goal.returns-in-Err
returns-in-Err g c = inr (refl, c.in-Err.ensures.cause.failed, subst (λ (l : List ℕ). TakesPrefix (g.D.Sink.state c.args.diag.now).taken (g.D.Sink.state c.write_all.new.sink).taken l) c.tail.ensures c.in-Err.ensures.err)
