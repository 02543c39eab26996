use Rattle.std.proofs.Common.{◌++◌, ◌∷◌, [], ◌∙◌, ap, map, refl}
use Rattle.event_pipe.specs.Arrivals.{last_event}
use Rattle.event_pipe.proofs.Reading.{goes_as, heard_open, heard_more, arrived_done, arrived_quit, arrived_fault, arrived_cut, arrived_none}
use Rattle.event_pipe.proofs.reader.read_messages.Goals as goal

pub returns-in_default-clause-arrived : goal.returns-in_default-clause-arrived
returns-in_default-clause-arrived g c =
    arrived_none c.args.to.now.peer _ _ (c.send_event.ensures.adds ∙ ap (λ l. map g.M.ReaderMessage.event l ++ last_event c.args.to.now.peer ∷ []) c.requires.fresh)

pub loop-init : goal.loop-init
loop-init g c =
    record { sender = c.requires.sender; peer = refl; channel = refl; heard = heard_open c.args.to.now.peer c.in-Ok.lines _ _ c.in-Ok.ensures (ap (map g.M.ReaderMessage.event) c.requires.fresh) }

pub read_turn-requires-clause-limit : goal.read_turn-requires-clause-limit
read_turn-requires-clause-limit g c = c.loop.invariant.heard.limit

pub read_turn-requires-clause-going : goal.read_turn-requires-clause-going
read_turn-requires-clause-going g c = c.loop.invariant.heard.going

pub loop-preserved : goal.loop-preserved
loop-preserved g c =
    record {
      sender = c.read_turn.ensures.keeps.0;
      peer = c.read_turn.ensures.keeps.1 ∙ c.loop.invariant.peer;
      channel = c.read_turn.ensures.keeps.2 ∙ c.loop.invariant.channel;
      heard = heard_more c.args.to.now.peer _ _ _ _ _ _ _ c.loop.invariant.heard c.lines_of_all_calls.ensures.at_fault (goes_as _ _ _ _ _ _ _ _ _ _ c.loop.invariant.peer c.in-More.is c.read_turn.ensures.goes);
    }

pub returns-in-Done-clause-arrived : goal.returns-in-Done-clause-arrived
returns-in-Done-clause-arrived g c =
    arrived_done c.args.to.now.peer _ _ _ _ _ _ _ c.loop.invariant.heard c.lines_of_all_calls.ensures.at_fault c.lines_of_all_calls.ensures.at_end (goes_as _ _ _ _ _ _ _ _ _ _ c.loop.invariant.peer c.in-Done.is c.read_turn.ensures.goes)

pub returns-in-Quit-clause-arrived : goal.returns-in-Quit-clause-arrived
returns-in-Quit-clause-arrived g c =
    arrived_quit c.args.to.now.peer _ _ _ _ _ _ _ c.loop.invariant.heard c.lines_of_all_calls.ensures.at_fault c.lines_of_all_calls.ensures.so_far (goes_as _ _ _ _ _ _ _ _ _ _ c.loop.invariant.peer c.in-Quit.is c.read_turn.ensures.goes)

pub returns-in-Fault-clause-arrived : goal.returns-in-Fault-clause-arrived
returns-in-Fault-clause-arrived g c =
    arrived_fault c.args.to.now.peer _ _ _ _ _ _ _ c.loop.invariant.heard _ c.lines_of_all_calls.ensures.at_fault (goes_as _ _ _ _ _ _ _ _ _ _ c.loop.invariant.peer c.in-Fault.is c.read_turn.ensures.goes)

pub returns-in-NoMemory-clause-arrived : goal.returns-in-NoMemory-clause-arrived
returns-in-NoMemory-clause-arrived g c =
    arrived_cut c.args.to.now.peer _ _ _ _ _ _ _ c.loop.invariant.heard c.lines_of_all_calls.ensures.at_fault c.lines_of_all_calls.ensures.so_far (goes_as _ _ _ _ _ _ _ _ _ _ c.loop.invariant.peer c.in-NoMemory.is c.read_turn.ensures.goes)
