use Rattle.std.proofs.Common.{◌∙◌, sym}
use Rattle.script_replay.proofs.Hearing.{Wrote, finished, not_finished}
use Rattle.script_replay.proofs.player.Player.write_last.Goals as goal

pub returns-then-is_err-clause-finished : goal.returns-then-is_err-clause-finished
returns-then-is_err-clause-finished g c = λ o lines first s f.
    let old = c.args.self.now in
    let new = c.write.new.self in
    let before = g.O.Sink.state c.args.output.now in
    let after = g.O.Sink.state c.write.new.output in
    let w : Wrote c.write.result old new before after = record { ok = c.write.ensures.ok; err = c.write.ensures.err; cause = c.write.ensures.cause; some = c.write.ensures.some } in
    not_finished c.write.result old new before after w o lines c.args.ending first (sym c.is_err.ensures.value ∙ c.if-is_err.true) s f

pub returns-clause-finished : goal.returns-clause-finished
returns-clause-finished g c = λ o lines first s f.
    let old = c.args.self.now in
    let new = c.write.new.self in
    let before = g.O.Sink.state c.args.output.now in
    let after = g.O.Sink.state c.write.new.output in
    let w : Wrote c.write.result old new before after = record { ok = c.write.ensures.ok; err = c.write.ensures.err; cause = c.write.ensures.cause; some = c.write.ensures.some } in
    finished c.write.result old new before after w o lines c.args.ending first (sym c.is_err.ensures.value ∙ c.if-is_err.false) s f
