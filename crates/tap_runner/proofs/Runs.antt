-- The result of a run.
use Rattle.std.proofs.Common.{◌≡◌, List, true, subst, Bool}
use Rattle.line_io.specs.Source.{Supplied, Received}
use Rattle.event_pipe.specs.declared.message.Peer.{Peer}
use Rattle.event_pipe.specs.declared.message.Peer.TheVariants as peers
use Rattle.tap_runner.specs.declared.message.TapMessage.{TapMessage}
use Rattle.tap_runner.specs.Messages.{tap_meaning}
use Rattle.tap_runner.specs.Messages.{marks_of, has_end_mark}
use Rattle.event_pipe.specs.Ends.{CameFrom}
use Rattle.event_pipe.proofs.Roles.{all_sent_came}
use Rattle.program_lifecycle.specs.Streams.{sinks, run_streams}
use Rattle.tap_runner.specs.declared.passing.PassEnd.{PassEnd}
use Rattle.tap_runner.specs.Logging.{Logged}
use Rattle.tap_runner.specs.Passing.{Passed}
use Rattle.tap_runner.specs.Ran.{TapRan}

passed_by : (p : Peer) (messages sent : List TapMessage) (s s' : Supplied) (k k' : Received) (end : PassEnd) → CameFrom tap_meaning p messages sent → has_end_mark (marks_of p messages) ≡ true → Passed p s s' k k' sent end
    → Passed p s s' k k' (marks_of p messages) end
passed_by p messages sent s s' k k' end c e x = subst (λ (es : List TapMessage). Passed p s s' k k' es end) (all_sent_came tap_meaning p messages sent c e) x

pub ran : (first second : PassEnd) (failed : Bool) (i i' s s' : Supplied) (o o' e e' l l' : Received) (received sent1 sent2 : List TapMessage)
    → Logged received l l' failed → CameFrom tap_meaning peers.Iface received sent1 → CameFrom tap_meaning peers.Engine received sent2 → Passed peers.Iface i i' e e' sent1 first → Passed peers.Engine s s' o o' sent2 second
    → TapRan (run_streams i s (sinks o e l)) (run_streams i' s' (sinks o' e' l')) (record { bridge = first; engine = second; log_failed = failed })
ran first second failed i i' s s' o o' e e' l l' received sent1 sent2 logged c1 c2 p1 p2 =
    record {
      messages = received;
      from_bridge = passed_by peers.Iface received sent1 i i' e e' first c1 logged.bridge_ended p1;
      from_engine = passed_by peers.Engine received sent2 s s' o o' second c2 logged.engine_ended p2;
      to_log = logged.text;
    }
