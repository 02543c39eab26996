use Rattle.std.proofs.Common.{◌∙◌, ◌++◌, List, ℕ, sym, ap, subst}
use Rattle.program_lifecycle.specs.Program.{IsReportedTo}
use Rattle.program_lifecycle.proofs.CountsFault.{failing, reported_both, reported_prefix}
use Rattle.program_lifecycle.proofs.ending.report_ending.Goals as goal

pub returns-then-is_ok : goal.returns-then-is_ok
returns-then-is_ok g c =
    let a = g.D.Sink.state c.args.diag.now in
    let z = g.D.Sink.state c.write_all-then-is_ok.new.sink in
    subst (λ (t : List ℕ). IsReportedTo a z t)
    (ap (λ (w : List ℕ). c.args.program.now ++ w) c.failure_text.ensures ∙ sym (failing c.args.program.now c.args.ending c.in_default.not-Done))
    (reported_both a (g.D.Sink.state c.write_all.new.sink) z c.args.program.now c.failure_text.result.now c.write_all.result c.write_all-then-is_ok.result
    (sym c.is_ok.ensures.value ∙ c.if-is_ok.true) c.write_all.ensures.ok c.write_all.ensures.cause c.write_all-then-is_ok.ensures.ok c.write_all-then-is_ok.ensures.err
    c.write_all-then-is_ok.ensures.cause)

pub returns-else-is_ok : goal.returns-else-is_ok
returns-else-is_ok g c =
    let a = g.D.Sink.state c.args.diag.now in
    let b = g.D.Sink.state c.write_all.new.sink in
    subst (λ (t : List ℕ). IsReportedTo a b t) (sym (failing c.args.program.now c.args.ending c.in_default.not-Done))
    (reported_prefix a b c.args.program.now _ c.write_all.result (sym c.is_ok.ensures.value ∙ c.if-is_ok.false) c.write_all.ensures.err c.write_all.ensures.cause)
