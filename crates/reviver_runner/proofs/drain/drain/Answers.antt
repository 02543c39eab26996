use Rattle.reviver_runner.proofs.HearSteps.{keeps_same, keeps_both, ready_still}
use Rattle.reviver_runner.proofs.DrainSteps.{drained_none, drained_both}
use Rattle.reviver_runner.proofs.drain.drain.Goals as goal

pub loop-init : goal.loop-init
loop-init g c = record { keeps = keeps_same _ c.requires.ready; drained = drained_none _ c.requires.over }

pub drain_next-requires-clause-ready : goal.drain_next-requires-clause-ready
drain_next-requires-clause-ready g c = ready_still _ _ c.requires.ready c.loop.invariant.keeps

pub loop-preserved : goal.loop-preserved
loop-preserved g c = record {
  keeps = keeps_both _ _ _ c.loop.invariant.keeps c.drain_next.ensures.keeps;
  drained = drained_both _ _ _ c.loop.invariant.drained c.drain_next.ensures.drained;
}
