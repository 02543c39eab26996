-- The events heard after the last life.
use Rattle.std.specs.Prelude.{◌≡◌, List, [], ◌++◌, map, false}
use Rattle.line_io.specs.Event.{Event}
use Rattle.engine_revival.specs.declared.words.LifeState.TheVariants as life
use Rattle.event_pipe.specs.declared.message.Peer.TheVariants as peers
use Rattle.event_pipe.specs.Events.{sent_by}
use Rattle.reviver_runner.specs.Looped.{LoopState, PlayedUp}
use Rattle.reviver_runner.specs.Played.{lines_to_child, as_long, has_close, reported_of}

-- The revival heard what came of the interface, and for no life was there anything to write.
pub record InterfaceDrained (before after : LoopState) : Type 0 where
  pub events : List Event
  pub played : PlayedUp before after events
  pub over : after.state.life ≡ life.Over
  pub begun : after.state.begun ≡ before.state.begun
  pub open_ended : has_close events ≡ false
  pub unwritten : lines_to_child before.state events ≡ []
  pub got : List Event
  pub taken_is : after.events ≡ before.events ++ got
  pub got_are : map as_long events ≡ reported_of (sent_by peers.Iface got)
