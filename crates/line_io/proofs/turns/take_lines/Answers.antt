use Rattle.std.proofs.Common.{refl, add-one, arith}
use Rattle.line_io.specs.Taken.{reading_place}
use Rattle.line_io.proofs.Calls.{reached_first, endless}
use Rattle.line_io.proofs.turns.take_lines.Goals as goal

pub loop-init : goal.loop-init
loop-init g c = record {
  may = c.requires.may;
  few = omega arith;
  reached = reached_first g.T.LineConsumer.means c.args.lines.now.limit c.args.lines.now (reading_place c.args.consumer.now c.args.output.now (g.I.Source.state c.args.input.now)) c.requires.fresh c.requires.begins;
}

pub returns-in-Some : goal.returns-in-Some
returns-in-Some g c = c.in-Some.ensures.after _ _ c.loop.counter c.loop.invariant.reached

pub loop-preserved : goal.loop-preserved
loop-preserved g c = record {
  may = c.in_default.ensures.may refl;
  few = omega (arith, c.loop.invariant.few, c.in_default.ensures.count);
  reached = rw add-one (c.in_default.ensures.after _ _ c.loop.counter c.loop.invariant.reached);
}

pub returns-in-None : goal.returns-in-None
returns-in-None g c =
    endless g.T.LineConsumer.means c.args.lines.now.limit (reading_place c.args.consumer.now c.args.output.now (g.I.Source.state c.args.input.now)) (reading_place c.take_held.new.consumer c.take_held.new.output (g.I.Source.state c.take_held.new.input)) c.take_held.new.lines c.loop.counter c.take_held.new.count c.loop-test.false (omega (arith, c.in-None.ensures.count)) (c.in-None.ensures.drained _ _ c.loop.counter c.loop.invariant.reached)

pub returns-in-Some-take_held : goal.returns-in-Some-take_held
returns-in-Some-take_held g c = c.in-Some-take_held.ensures.drained _ _ c.loop.counter c.loop.invariant.reached
