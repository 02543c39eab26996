-- The turns of a driver are those of its script.
use Rattle.std.specs.Prelude.{◌≡◌, ℕ, List, false}
use Rattle.event_pipe.specs.declared.message.Peer.{Peer}
use Rattle.event_pipe.specs.declared.message.Peer.TheVariants as peers
use Rattle.event_pipe.specs.Events.{sent_by, has_last_event}
use Rattle.cecp_driver.specs.declared.driver.DriverParts.{DriverParts}
use Rattle.cecp_driver.specs.Driver.{opening_driver}
use Rattle.cecp_driver.specs.Runs.{IsSoundDrive}
use Rattle.cecp_driver.specs.Script.{DriverTakesAll, may_come, last_of, script_text, driver_lines_up, lines_down}
use Rattle.driver_runner.specs.HeardEvents.{is_not_long}
use Rattle.event_loop.specs.Turns.{Turn, given, log_of_turn, turn_texts, events_of_turns}
use Rattle.event_loop.specs.Meaning.{MediatorMeaning}
use Rattle.driver_runner.specs.declared.driving.Driving.{Driving}

-- a new driver took the events of these turns, which gave what it gave
pub record Drove (d0 : Driving) (turns : List Turn) (d : Driving) : Type 0 where
  pub states : List DriverParts
  pub goes : DriverTakesAll opening_driver (events_of_turns turns) states
  -- the promises of every run of a driver: legal moves, one `bestmove` for a `go`,
  -- searches of the ordered games
  pub sound : IsSoundDrive (events_of_turns turns) states
  pub now : d.driver ≡ last_of opening_driver states
  -- the driver knows that the engine has ended
  pub gone : d.driver.talk.gone ≡ has_last_event (sent_by peers.Engine (events_of_turns turns))
  pub up : turn_texts (given peers.Iface) turns ≡ driver_lines_up states
  pub down : turn_texts (given peers.Engine) turns ≡ lines_down states
  pub log : turn_texts log_of_turn turns ≡ script_text (events_of_turns turns) states

abbrev pub driver_lines_for : Driving → Peer → List ℕ
driver_lines_for d peers.Iface = d.driver.up.text
driver_lines_for d peers.Engine = d.driver.down.text

abbrev pub driving_meaning : MediatorMeaning Driving
driving_meaning = record {
  fresh = λ d. d.driver ≡ opening_driver;
  did = Drove;
  gave = driver_lines_for;
  may = λ d e. may_come d.driver e;
  reported = is_not_long;
  hears_loss = false;
}
