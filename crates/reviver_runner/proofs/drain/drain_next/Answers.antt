use Rattle.std.proofs.Common.{◌∙◌, ap, refl, sym}
use Rattle.line_io.specs.Event.{event_of}
use Rattle.event_pipe.specs.Message.{is_good}
use Rattle.event_pipe.proofs.Standing.{one_sent}
use Rattle.reviver_runner.specs.Messages.{life_meaning, life_messages_stand, script_event}
use Rattle.reviver_runner.proofs.DrainSteps.{order_heard, may_order, drained_order, drained_passed}
use Rattle.reviver_runner.proofs.drain.drain_next.Goals as goal

pub hear-requires-clause-may : goal.hear-requires-clause-may
hear-requires-clause-may g c = may_order c.args.looping.now.revival.state (event_of c.in-Some.event) c.requires.over c.in-Some.ensures.order

pub hear-requires-clause-heard : goal.hear-requires-clause-heard
hear-requires-clause-heard g c = order_heard (event_of c.in-Some.event) c.in-Some.ensures.order

pub hear-requires-clause-good : goal.hear-requires-clause-good
hear-requires-clause-good g c = ap is_good c.in-Some.ensures.is ∙ c.take-message.ensures.follows.1

pub returns-in-Some-clause-drained : goal.returns-in-Some-clause-drained
returns-in-Some-clause-drained g c =
    drained_order _ _ (event_of c.in-Some.event) c.in-Some.ensures.order c.requires.over
    (one_sent life_meaning script_event life_messages_stand _ _ c.take-message.result _ c.take-message.ensures.gets (sym c.in-Some.ensures.is)) c.hear.ensures.state c.hear.ensures.offers.output c.hear.ensures.offers.log

pub returns-clause-drained : goal.returns-clause-drained
returns-clause-drained g c =
    drained_passed _ _ c.requires.over refl (script_event c.take-message.result) c.in-None.ensures.other (one_sent life_meaning script_event life_messages_stand _ _ c.take-message.result _ c.take-message.ensures.gets refl)
