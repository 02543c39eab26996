-- The result of a run of the driver.
use Rattle.std.proofs.Common.{◌≡◌, ◌∙◌, ℕ, true, false, sym, ap, arith, List, [], Some}
use Rattle.line_io.specs.Source.{Supplied, Received}
use Rattle.line_io.specs.Event.{Event}
use Rattle.event_pipe.specs.declared.message.Peer.{Peer}
use Rattle.event_pipe.specs.declared.message.Peer.TheVariants as peers
use Rattle.event_pipe.specs.Message.{role_of}
use Rattle.event_pipe.specs.Events.{is_of_role, sent_by}
use Rattle.cecp_driver.specs.Script.{script_text, driver_lines_up, lines_down}
use Rattle.child_engine.specs.Hosts.{Ledger, HostIsUnused}
use Rattle.child_engine.specs.declared.host.Faults.{Faults}
use Rattle.program_lifecycle.specs.declared.failures.Failures.{Failures}
use Rattle.program_lifecycle.specs.Early.{no_failure, only_memory}
use Rattle.program_lifecycle.specs.Outside.{Outside, outside}
use Rattle.event_loop.specs.Turns.{events_of_turns}
use Rattle.event_loop.proofs.Loops.{filter_swap}
use Rattle.event_loop.specs.Mediated.{Mediated}
use Rattle.event_loop.specs.Mediated as hosts
use Rattle.event_loop.proofs.Wholes.{recorded_as, whole_as, when_whole, nothing_left}
use Rattle.driver_runner.specs.declared.driving.Driving.{Driving}
use Rattle.driver_runner.specs.HeardEvents.{is_not_long, without_long}
use Rattle.driver_runner.specs.Drives.{driving_meaning}
use Rattle.driver_runner.specs.Recorded.{DriverRunIsWhole}
use Rattle.driver_runner.specs.Driven.{DriverRunIs, DriverLeaves}

-- the events of a peer among those that are told are those that are told among the peer's
of_reported : (p : Peer) (reported events : List Event) → reported ≡ without_long events → sent_by p reported ≡ without_long (sent_by p events)
of_reported p reported events e = ap (λ (es : List Event). sent_by p es) e ∙ filter_swap (is_of_role (role_of p)) is_not_long events

module _ (d : Driving) (before after : Outside) (failures : Failures) (x : Mediated driving_meaning d [] before after failures) where
  driven_by : DriverRunIs before after failures
  driven_by =
      let l = x.ran.looped in
      record {
        driving = d;
        mediated = x;
        recorded = recorded_as driving_meaning d [] before after failures x (script_text (events_of_turns l.turns) l.did.states) (lines_down l.did.states) (driver_lines_up l.did.states) l.did.log l.did.down l.did.up;
      }

  whole_by : failures ≡ no_failure → after.ledger.logs_out ≡ 1 → before.ledger.sinks_report ≡ true → (bytes : List ℕ) → before.ledger.says ≡ Some bytes → DriverRunIsWhole bytes before after
  whole_by e one sinks_report bytes says =
      let l = x.ran.looped in
      let w =
      whole_as driving_meaning d [] before after failures x (script_text (events_of_turns l.turns) l.did.states) (lines_down l.did.states) (driver_lines_up l.did.states) l.did.log l.did.down l.did.up e one sinks_report bytes says in
      record {
        events = events_of_turns l.turns;
        states = l.did.states;
        goes = l.did.goes;
        sound = l.did.sound;
        log = w.log;
        engine = of_reported peers.Engine (events_of_turns l.turns) x.ran.later l.received_is ∙ ap without_long w.engine;
        iface = record { arrived = sent_by peers.Iface x.ran.later; did_arrive = w.iface; are = of_reported peers.Iface (events_of_turns l.turns) x.ran.later l.received_is };
        run = w.run;
        output = w.output;
      }

pub leaves_by : (d : Driving) (before after : Outside) (failures : Failures) → hosts.MediatorLeaves driving_meaning d [] before after failures → DriverLeaves before after failures
leaves_by d before after failures x =
    record {
      reported = x.reported;
      closed = x.closed;
      nothing = x.nothing;
      unstarted = x.unstarted;
      driven = λ some. driven_by d before after failures (x.mediated some);
      whole = λ e sinks_report. when_whole (λ bytes. DriverRunIsWhole bytes before after) before after failures x.closed x.mediated e (λ m one bytes says. whole_by d before after failures m e one sinks_report bytes says);
    }

pub leaves_nothing : (i : Supplied) (o : Received) (f : Faults) (b : Ledger) (failures : Failures) → HostIsUnused b → failures ≡ only_memory → DriverLeaves (outside i o f b) (outside i o f b) failures
leaves_nothing i o f b failures u e =
    let x = nothing_left i o f b failures u e in
    record {
      reported = x.reported;
      closed = x.closed;
      nothing = λ _. x.same;
      unstarted = λ _. x.none;
      driven = λ some. absurd (omega (arith, some, x.none));
      whole = λ w. let z : true ≡ false = ap (λ (g : Failures). g.memory) (sym e ∙ w) in cc;
    }
