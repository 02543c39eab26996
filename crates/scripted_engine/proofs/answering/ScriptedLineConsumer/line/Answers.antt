use Rattle.std.proofs.Common.{◌∙◌, sym}
use Rattle.scripted_engine.proofs.Hearing.{heard_line, halted_quit, halted_write, on_ok, on_err}
use Rattle.scripted_engine.proofs.answering.ScriptedLineConsumer.line.Goals as goal

pub returns-then-is_err-clause-takes : goal.returns-then-is_err-clause-takes
returns-then-is_err-clause-takes g c = λ s0 o0 pieces t number blocks stands.
    let failed = sym c.is_err.ensures.value ∙ c.if-is_err.true in
    halted_write blocks c.args.self.now c.answer.follows.lender-at-none pieces (g.O.Sink.state o0) (g.O.Sink.state c.args.output.now) (g.O.Sink.state c.write_all.new.sink) c.args.line.now c.answer.result.now
    (on_err c.write_all.result _ c.write_all.ensures.cause.failed failed) (on_err c.write_all.result _ c.write_all.ensures.err failed) c.answer.follows.holds-at-none (t blocks stands)

pub returns-then-is_quit-clause-takes : goal.returns-then-is_quit-clause-takes
returns-then-is_quit-clause-takes g c = λ s0 o0 pieces t number blocks stands.
    halted_quit blocks c.args.self.now c.answer.follows.lender-at-none pieces (g.O.Sink.state o0) (g.O.Sink.state c.args.output.now) (g.O.Sink.state c.write_all.new.sink) c.args.line.now c.answer.result.now
    (sym c.is_quit.ensures ∙ c.if-is_quit.true) (on_ok c.write_all.result _ c.write_all.ensures.ok (sym c.is_err.ensures.value ∙ c.if-is_err.false)) c.answer.follows.holds-at-none (t blocks stands)

pub returns-clause-takes : goal.returns-clause-takes
returns-clause-takes g c = λ s0 o0 pieces t number blocks stands.
    heard_line blocks c.args.self.now c.answer.follows.lender-at-none pieces (g.O.Sink.state o0) (g.O.Sink.state c.args.output.now) (g.O.Sink.state c.write_all.new.sink) c.args.line.now c.answer.result.now
    (sym c.is_quit.ensures ∙ c.if-is_quit.false) c.write_all.ensures.cause.later (on_ok c.write_all.result _ c.write_all.ensures.ok (sym c.is_err.ensures.value ∙ c.if-is_err.false)) c.answer.follows.holds-at-none (t blocks stands)
