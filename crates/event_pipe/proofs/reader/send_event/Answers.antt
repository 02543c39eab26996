use Rattle.std.proofs.Common.{◌∙◌}
use Rattle.event_pipe.specs.Ends.{messages_sent}
use Rattle.event_pipe.proofs.Standing.{last_as, role_sent, good_sent, one_sent}
use Rattle.event_pipe.proofs.reader.send_event.Goals as goal

pub send-requires-clause-peer : goal.send-requires-clause-peer
send-requires-clause-peer g c = role_sent _ _ g.met.M.ReaderMessage.stands c.of_reader-message.result c.args.to.now.peer c.args.what c.of_reader-message.ensures

pub send-requires-clause-ended : goal.send-requires-clause-ended
send-requires-clause-ended g c = last_as _ _ g.met.M.ReaderMessage.stands (messages_sent c.args.to.now) ∙ c.requires.ended

pub send-requires-clause-good : goal.send-requires-clause-good
send-requires-clause-good g c = good_sent _ _ g.met.M.ReaderMessage.stands c.of_reader-message.result _ c.of_reader-message.ensures c.requires.good

pub returns-clause-adds : goal.returns-clause-adds
returns-clause-adds g c = one_sent _ _ g.met.M.ReaderMessage.stands _ _ c.of_reader-message.result _ c.send.ensures.adds c.of_reader-message.ensures
