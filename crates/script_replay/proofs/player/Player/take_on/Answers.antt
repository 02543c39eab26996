use Rattle.std.proofs.Common.{◌∙◌, sym, ap}
use Rattle.line_io.specs.Lines.{Whole}
use Rattle.script_replay.specs.declared.player.Player.{Player}
use Rattle.script_replay.specs.Stages.{is_first_stage}
use Rattle.script_replay.proofs.Hearing.{Wrote, came_broke, came_on, may_taken, may_written, playing_written, same, written}
use Rattle.script_replay.proofs.player.Player.take_on.Goals as goal

pub returns-then-not-is_full-clause-may : goal.returns-then-not-is_full-clause-may
returns-then-not-is_full-clause-may g c =
    may_taken c.args.self.now c.take.new.self _ c.requires.opened c.take.ensures.takes c.take.ensures.stage (c.take.ensures.room ∙ c.requires.may.room)

pub returns-then-not-is_full-clause-came : goal.returns-then-not-is_full-clause-came
returns-then-not-is_full-clause-came g c = λ o lines first v p f n.
    came_on o lines (Whole c.args.line.now) v c.args.number n c.args.self.now c.take.new.self c.take.result first (g.O.Sink.state c.args.output.now) p c.take.ensures.ending c.take.ensures.takes
    (may_taken c.args.self.now c.take.new.self _ c.requires.opened c.take.ensures.takes c.take.ensures.stage (c.take.ensures.room ∙ c.requires.may.room)) f

pub returns-then-is_err-clause-came : goal.returns-then-is_err-clause-came
returns-then-is_err-clause-came g c = λ o lines first v p f n.
    let old = c.args.self.now in
    let new = c.write.new.self in
    let before = g.O.Sink.state c.args.output.now in
    let after = g.O.Sink.state c.write.new.output in
    let w : Wrote c.write.result old new before after = record { ok = c.write.ensures.ok; err = c.write.ensures.err; cause = c.write.ensures.cause; some = c.write.ensures.some } in
    came_broke c.write.result old new before after w o lines (Whole c.args.line.now) first (sym c.is_err.ensures.value ∙ c.if-is_err.true) c.requires.may f p

pub returns-clause-may : goal.returns-clause-may
returns-clause-may g c =
    let old = c.args.self.now in
    let new = c.write.new.self in
    let before = g.O.Sink.state c.args.output.now in
    let after = g.O.Sink.state c.write.new.output in
    let w : Wrote c.write.result old new before after = record { ok = c.write.ensures.ok; err = c.write.ensures.err; cause = c.write.ensures.cause; some = c.write.ensures.some } in
    let done = (sym c.is_err.ensures.value ∙ c.if-is_err.false) in
    let m = may_written c.write.result old new before after w done c.requires.may in
    let is_open = ap (λ (x : Player). is_first_stage x.stage) (written c.write.result old new before after w done).1 ∙ c.requires.opened in
    may_taken new c.take-2.new.self _ is_open c.take-2.ensures.takes c.take-2.ensures.stage (c.take-2.ensures.room ∙ m.room)

pub returns-clause-came : goal.returns-clause-came
returns-clause-came g c = λ o lines first v p f n.
    let old = c.args.self.now in
    let new = c.write.new.self in
    let before = g.O.Sink.state c.args.output.now in
    let after = g.O.Sink.state c.write.new.output in
    let w : Wrote c.write.result old new before after = record { ok = c.write.ensures.ok; err = c.write.ensures.err; cause = c.write.ensures.cause; some = c.write.ensures.some } in
    let done = (sym c.is_err.ensures.value ∙ c.if-is_err.false) in
    let m = may_written c.write.result old new before after w done c.requires.may in
    let is_open = ap (λ (x : Player). is_first_stage x.stage) (written c.write.result old new before after w done).1 ∙ c.requires.opened in
    came_on o lines (Whole c.args.line.now) v c.args.number n new c.take-2.new.self c.take-2.result first after (playing_written c.write.result old new before after w o lines first done p)
    c.take-2.ensures.ending c.take-2.ensures.takes
    (may_taken new c.take-2.new.self _ is_open c.take-2.ensures.takes c.take-2.ensures.stage (c.take-2.ensures.room ∙ m.room)) (same c.write.result old new before after w done ∙ f)
