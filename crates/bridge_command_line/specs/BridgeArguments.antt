-- The request that the bridge's arguments make.
use Rattle.std.specs.Prelude.{◌≡◌, string_bytes, List, [], ◌∷◌, map, codes}
use Rattle.clap.specs.Words.{Kinds, Row, Text, fault_of, matches_of, first_of, all_of}
use Rattle.policy_rules.specs.declared.setting_rules.settings.Settings.{Settings}
use Rattle.bridge_command_line.specs.Values.{AsksPolicy, HasUsualOthers, all_values, argument_or_empty}
use Rattle.bridge_command_line.specs.BridgeCommand.{bridge}
use Rattle.bridge_command_line.specs.declared.bridge_request.BridgeRequest.{BridgeRequest}
use Rattle.program_command_line.specs.Arguments.Request.{AreUtf8}

-- the faults that the command finds in the arguments, and the values that it finds for its arguments
unfoldable pub bridge_argument_faults : List Text → Kinds
bridge_argument_faults arguments = fault_of bridge arguments

unfoldable pub bridge_argument_values : List Text → List Row
bridge_argument_values arguments = matches_of bridge arguments

-- each word is UTF-8, and the command finds no fault in them
pub record BridgeArgumentsAreTaken (arguments : List Text) : Type 0 where
  pub utf8 : AreUtf8 arguments
  pub no_fault : bridge_argument_faults arguments ≡ []

-- the command of the engine: its program and its arguments
abbrev pub bridge_engine_command : List Row → List Text
bridge_engine_command rows =
    argument_or_empty (first_of (codes "ENGINE") rows) ∷ all_values (all_of (codes "ARG") rows)

-- the name of the log
abbrev pub bridge_log_name : List Row → Text
bridge_log_name rows = argument_or_empty (first_of (codes "LogFile") rows)

-- Four settings have the values that were found, and the others are the usual ones.
pub record BridgeSettingsAreAsked (rows : List Row) (s : Settings) : Type 0 where
  pub policy : AsksPolicy rows s
  pub others : HasUsualOthers s

pub record BridgeRequestIs (rows : List Row) (request : BridgeRequest) : Type 0 where
  pub settings : BridgeSettingsAreAsked rows request.settings
  pub log : string_bytes request.log_name ≡ bridge_log_name rows
  pub engine : map string_bytes request.engine.items ≡ bridge_engine_command rows
