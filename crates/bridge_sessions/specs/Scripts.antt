-- The log of a run over a host in memory.
use Rattle.std.specs.Prelude.{◌≡◌, ℕ, List, []}
use Rattle.clap.specs.Words.{Text}
use Rattle.trace_scripts.specs.Script.{script2}
use Rattle.program_lifecycle.specs.Outside.{Outside}
use Rattle.bridge_command_line.specs.BridgeArguments.{BridgeSettingsAreAsked, bridge_argument_values}
use Rattle.bridge_runner.specs.Program.{BridgeRunsWhole}

-- these bytes are the script of a whole run with the settings that the arguments ask
-- for, whose engine says those
pub record IsScriptOfRun (arguments : List Text) (engine log : List ℕ) : Type 0 where
  pub before : Outside
  pub after : Outside
  pub run : BridgeRunsWhole (BridgeSettingsAreAsked (bridge_argument_values arguments)) [] engine before after
  pub is : log ≡ script2 run.settings run.whole.trace
