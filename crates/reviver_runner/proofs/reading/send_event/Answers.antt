use Rattle.std.proofs.Common.{◌∙◌, ap, refl, sym}
use Rattle.event_pipe.specs.Ends.{messages_sent}
use Rattle.event_pipe.specs.Message.{role_of}
use Rattle.event_pipe.proofs.Standing.{last_as, one_sent}
use Rattle.reviver_runner.specs.Messages.{life_meaning, life_messages_stand, script_event}
use Rattle.reviver_runner.proofs.reading.send_event.Goals as goal

pub send-requires-clause-peer : goal.send-requires-clause-peer
send-requires-clause-peer g c = c.requires.of_life ∙ sym (ap role_of c.requires.engine)

pub send-requires-clause-ended : goal.send-requires-clause-ended
send-requires-clause-ended g c = last_as life_meaning script_event life_messages_stand (messages_sent c.args.to.now) ∙ c.requires.going

pub send-requires-clause-good : goal.send-requires-clause-good
send-requires-clause-good g c = c.requires.good

pub returns-clause-adds : goal.returns-clause-adds
returns-clause-adds g c = one_sent life_meaning script_event life_messages_stand _ _ c.args.message _ c.send.ensures.adds refl
