use Rattle.std.proofs.Common.{◌∙◌, ap, not, refl, sym}
use Rattle.line_io.specs.Event.{event_of}
use Rattle.event_pipe.specs.Message.{is_good}
use Rattle.event_pipe.proofs.Standing.{one_sent}
use Rattle.reviver_runner.specs.Messages.{life_meaning, life_messages_stand, script_event}
use Rattle.reviver_runner.proofs.HearSteps.{going_heard, going_same, may_hear, alive_still, goes_or_ends}
use Rattle.reviver_runner.proofs.looping.hear_next.Goals as goal

pub hear-requires-clause-may : goal.hear-requires-clause-may
hear-requires-clause-may g c = may_hear c.args.looping.now.revival.state (event_of c.in-Some.event) c.requires.alive c.in-Some.ensures.heard

pub hear-requires-clause-good : goal.hear-requires-clause-good
hear-requires-clause-good g c = ap is_good c.in-Some.ensures.is ∙ c.take-message.ensures.follows.1

pub returns-in-Some-clause-alive : goal.returns-in-Some-clause-alive
returns-in-Some-clause-alive g c = alive_still c.args.looping.now.revival.state _ (event_of c.in-Some.event) c.in-Some.ensures.heard c.requires.alive c.hear.ensures.state

pub returns-in-Some-clause-next : goal.returns-in-Some-clause-next
returns-in-Some-clause-next g c first sink x =
    going_same _ _ _ _ _ c.close_sink_at_quit.ensures.shown
    (going_heard _ _ _ _ _ _ (event_of c.in-Some.event) x (one_sent life_meaning script_event life_messages_stand _ _ c.take-message.result _ c.take-message.ensures.gets (sym c.in-Some.ensures.is)) c.in-Some.ensures.heard c.requires.alive
    c.hear.ensures.state c.hear.ensures.offers)

pub returns-clause-next : goal.returns-clause-next
returns-clause-next g c first sink x =
    goes_or_ends c.take-message.result _ _ _ _ _ _ (ap not c.is_life_end.ensures) c.in-None.ensures.other x refl (one_sent life_meaning script_event life_messages_stand _ _ c.take-message.result _ c.take-message.ensures.gets refl)
