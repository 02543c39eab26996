-- The text that the engine hears of the command `drive`.
use Rattle.std.specs.Prelude.{◌≡◌, ℕ, List, false}
use Rattle.std.specs.Io.KnownBytes.{Appends}
use Rattle.line_io.specs.Event.{Event}
use Rattle.line_io.specs.Lines.{items}
use Rattle.line_io.specs.declared.limits.TheConstants.{SCRIPT_LINE}
use Rattle.policy_rules.specs.declared.setting_rules.settings.Settings.{Settings}
use Rattle.adapter_core.specs.Alone.{commanded_alone}
use Rattle.cecp_driver.specs.Driver.{opening_driver}
use Rattle.replay_command_base.specs.Reads.{Got, IsAll}
use Rattle.replay_command_base.specs.Streams.{FilterStreams}
use Rattle.replay_commands_without_core.specs.Scripts.{IsDriven, driven_events}
use Rattle.judge_and_driver_laws.specs.Driver.Runs.{AllHeard}

-- All of the input was read and the script of a driver that takes its events was written. A bridge
-- that took these events before, and then takes the lines that the driver writes to its engine as
-- an interface's, has the ordered game at each `go` and `analyze`.
pub record DroveTheOrdered (o : Settings) (taken : List Event) (start now : FilterStreams) : Type 0 where
  pub got : List ℕ
  pub reads : Got start now got
  pub all_read : IsAll start.input.left got
  pub text : List ℕ
  pub driven : IsDriven (items SCRIPT_LINE got) text
  pub written : Appends start.output.taken now.output.taken text
  pub heard : AllHeard o opening_driver taken (driven_events (items SCRIPT_LINE got)) driven.script.after

-- So it is at status 0, whatever the bridge's settings are and whatever it took before, unless
-- that closed its session.
abbrev pub DrivesTheOrdered : FilterStreams → FilterStreams → ℕ → Type 0
DrivesTheOrdered start now code =
    code ≡ 0 → (o : Settings) (taken : List Event) → (commanded_alone o taken).ends.closed ≡ false
    → DroveTheOrdered o taken start now
