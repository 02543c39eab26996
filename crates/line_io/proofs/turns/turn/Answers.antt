use Rattle.line_io.specs.Taken.{reading_place}
use Rattle.line_io.proofs.Calls.{stopped_before}
use Rattle.line_io.proofs.turns.turn.Goals as goal

pub returns-in-Some-clause-after : goal.returns-in-Some-clause-after
returns-in-Some-clause-after g c = λ first limit calls h.
    stopped_before g.T.LineConsumer.means limit first (reading_place c.args.consumer.now c.args.output.now (g.I.Source.state c.args.input.now)) c.flush.new.self c.flush.new.output c.args.lines.now calls c.args.count.now c.in-Some.stop c.requires.count h (c.in-Some.ensures.keeps first.consumer first.output h.pieces h.took)
