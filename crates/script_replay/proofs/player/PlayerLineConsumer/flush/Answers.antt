use Rattle.std.proofs.Common.{◌∙◌, sym}
use Rattle.script_replay.proofs.Hearing.{Wrote, stood_written, stood_unwritten}
use Rattle.script_replay.proofs.player.PlayerLineConsumer.flush.Goals as goal

pub returns-then-is_err-clause-keeps : goal.returns-then-is_err-clause-keeps
returns-then-is_err-clause-keeps g c = λ s0 o0 pieces t o fresh.
    let old = c.args.self.now in
    let new = c.write.new.self in
    let before = g.O.Sink.state c.args.output.now in
    let after = g.O.Sink.state c.write.new.output in
    let w : Wrote c.write.result old new before after = record { ok = c.write.ensures.ok; err = c.write.ensures.err; cause = c.write.ensures.cause; some = c.write.ensures.some } in
    stood_unwritten c.write.result old new before after w o pieces (g.O.Sink.state o0) (sym c.is_err.ensures.value ∙ c.if-is_err.true) (t o fresh)

pub returns-clause-keeps : goal.returns-clause-keeps
returns-clause-keeps g c = λ s0 o0 pieces t o fresh.
    let old = c.args.self.now in
    let new = c.write.new.self in
    let before = g.O.Sink.state c.args.output.now in
    let after = g.O.Sink.state c.write.new.output in
    let w : Wrote c.write.result old new before after = record { ok = c.write.ensures.ok; err = c.write.ensures.err; cause = c.write.ensures.cause; some = c.write.ensures.some } in
    stood_written c.write.result old new before after w o pieces (g.O.Sink.state o0) (sym c.is_err.ensures.value ∙ c.if-is_err.false) (t o fresh)
