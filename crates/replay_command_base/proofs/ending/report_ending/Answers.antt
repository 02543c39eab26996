use Rattle.std.proofs.Common.{refl, inl, inr, ap, subst, List, ℕ, ◌∙◌}
use Rattle.std.specs.Io.KnownBytes.{Appends}
use Rattle.std.proofs.Common.{◌++◌}
use Rattle.replay_command_base.specs.Diagnostics.{command_diagnostic}
use Rattle.line_io.specs.Out.{Text}
use Rattle.line_io.specs.Source.{TakesPrefix}
use Rattle.replay_command_base.proofs.ending.report_ending.Goals as goal

pub returns-in-Ok : goal.returns-in-Ok
returns-in-Ok g c =
    let same = c.bytes.ensures.text ∙ ap (λ (t : Text). t.text) c.put_diagnostic.ensures ∙ ap (λ (t : Text). t.text ++ command_diagnostic c.args.ending) c.clear.ensures in
    inl (refl, subst (λ (l : List ℕ). Appends (g.D.Sink.state c.args.diag.now).taken (g.D.Sink.state c.write_all.new.sink).taken l) same c.in-Ok.ensures.ok, c.in-Ok.ensures.cause.same)

pub returns-in-Err : goal.returns-in-Err
returns-in-Err g c =
    let same = c.bytes.ensures.text ∙ ap (λ (t : Text). t.text) c.put_diagnostic.ensures ∙ ap (λ (t : Text). t.text ++ command_diagnostic c.args.ending) c.clear.ensures in
    inr (refl, c.in-Err.ensures.cause.failed, subst (λ (l : List ℕ). TakesPrefix (g.D.Sink.state c.args.diag.now).taken (g.D.Sink.state c.write_all.new.sink).taken l) same c.in-Err.ensures.err)
