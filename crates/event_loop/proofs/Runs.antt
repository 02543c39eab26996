-- The result of a run.
use Rattle.std.proofs.Common.{◌≡◌, ℕ, List, ◌++◌, subst}
use Rattle.line_io.specs.Event.{Event}
use Rattle.event_pipe.specs.declared.message.Peer.TheVariants as peers
use Rattle.event_pipe.specs.Events.{CameFromPeer}
use Rattle.event_pipe.specs.Arrivals.{Arrived}
use Rattle.event_pipe.proofs.Roles.{all_came}
use Rattle.program_lifecycle.specs.Streams.{RunStreams}
use Rattle.event_loop.specs.declared.run.RunEnd.{RunEnd}
use Rattle.event_loop.specs.Meaning.{MediatorMeaning}
use Rattle.event_loop.specs.First.{first_events, AreOpening}
use Rattle.event_loop.specs.Looped.{Looped}
use Rattle.event_loop.specs.Ran.{MediatorRan}
use Rattle.event_loop.proofs.Firsts.{iface_later, engine_later}

pub ran : {M : Type 0} (means : MediatorMeaning M) (m0 m : M) (first : List ℕ) (before after : RunStreams) (end : RunEnd) (later sent1 sent2 : List Event) → AreOpening first
    → Looped means m0 m (first_events first ++ later) before.into after.into end.done → CameFromPeer peers.Iface later sent1 → CameFromPeer peers.Engine later sent2
    → Arrived peers.Iface before.input after.input sent1 end.iface → Arrived peers.Engine before.source after.source sent2 end.engine
    → MediatorRan means m0 m first before after end
ran means m0 m first before after end later sent1 sent2 opening looped c1 c2 a1 a2 =
    record {
      later = later;
      looped = looped;
      iface = subst (λ (x : List Event). Arrived peers.Iface before.input after.input x end.iface) (all_came peers.Iface later sent1 c1 (iface_later first later opening looped.iface_ended)) a1;
      engine = subst (λ (x : List Event). Arrived peers.Engine before.source after.source x end.engine) (all_came peers.Engine later sent2 c2 (engine_later first later looped.engine_ended)) a2;
    }
