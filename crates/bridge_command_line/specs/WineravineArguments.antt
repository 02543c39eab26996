-- The request that the arguments make.
use Rattle.std.specs.Prelude.{◌≡◌, ◌≢◌, ◌<◌, ◌⊎◌, ⊤, Bool, true, false, ◌||◌, ◌&&◌, string_bytes}
use Rattle.std.specs.Prelude.{Option, option_map, is_some}
use Rattle.std.specs.Prelude.{List, [], ◌∷◌, ◌++◌, map, drop, length, codes}
use Rattle.std.specs.List.{list_any, flat_map}
use Rattle.clap.specs.Words.{Kinds, Row, Text, fault_of, matches_of, first_of, one_of, all_of}
use Rattle.clap.specs.declared.error.kind.ErrorKind.{ErrorKind}
use Rattle.clap.specs.declared.error.kind.ErrorKind.TheVariants as kinds
use Rattle.line_io.specs.Event.{has_feed}
use Rattle.line_io.specs.Lines.{line_feed}
use Rattle.policy_rules.specs.SettingRules.Policy.{IsProper}
use Rattle.policy_rules.specs.declared.setting_rules.settings.Settings.{Settings}
use Rattle.policy_rules.specs.declared.setting_rules.settings.TheConstants.{MOST_MARGIN, USUAL_MARGIN}
use Rattle.program_command_line.specs.Arguments.Request.{AreUtf8}
use Rattle.bridge_command_line.specs.Values.{AsksNumber, AsksPolicy, all_values, is_named, is_true_text, argument_or_empty}
use Rattle.bridge_command_line.specs.WineravineCommand.{wineravine}
use Rattle.bridge_command_line.specs.declared.wineravine_request.AskedProgram.{AskedProgram}
use Rattle.bridge_command_line.specs.declared.wineravine_request.AskedProgram.TheVariants as asked
use Rattle.bridge_command_line.specs.declared.wineravine_request.WineravineRequest.{WineravineRequest}
use Rattle.bridge_command_line.specs.declared.wineravine_request.WrongArguments.{WrongArguments}
use Rattle.bridge_command_line.specs.declared.wineravine_request.WrongArguments.TheVariants as wrong

-- the faults that the command finds in the arguments, and the values that it finds for its arguments
unfoldable pub wineravine_argument_faults : List Text → Kinds
wineravine_argument_faults arguments = fault_of wineravine arguments

unfoldable pub wineravine_argument_values : List Text → List Row
wineravine_argument_values arguments = matches_of wineravine arguments

-- the options of the engine that are set, in the order given
abbrev pub options_set : List Row → List Text
options_set rows = all_values (all_of (codes "Option") rows)

abbrev pub wineravine_log_name : List Row → Text
wineravine_log_name rows = argument_or_empty (first_of (codes "LogFile") rows)

-- the folder of a new log, if one is asked for
abbrev pub wineravine_log_folder : List Row → Option Text
wineravine_log_folder rows = first_of (codes "LogDir") rows

-- true if a value that may be any text has a line feed
abbrev pub has_feed_within : List Row → Bool
has_feed_within rows =
    has_feed (wineravine_log_name rows)
    || (has_feed (argument_or_empty (wineravine_log_folder rows)) || list_any has_feed (options_set rows))

-- true if both a file and a folder of logs are named
abbrev pub has_two_logs : List Row → Bool
has_two_logs rows = is_named (codes "LogFile") rows && is_some (wineravine_log_folder rows)

-- Each word is UTF-8, the command finds no fault in them, no value has a line feed, and not both
-- a file and a folder of logs are named.
pub record WineravineArgumentsAreTaken (arguments : List Text) : Type 0 where
  pub utf8 : AreUtf8 arguments
  pub no_fault : wineravine_argument_faults arguments ≡ []
  pub no_feed : has_feed_within (wineravine_argument_values arguments) ≡ false
  pub one_log : has_two_logs (wineravine_argument_values arguments) ≡ false

-- Each word is UTF-8, and the command finds that they ask for this text in place of a run.
pub record AskFor (text : ErrorKind) (arguments : List Text) : Type 0 where
  pub utf8 : AreUtf8 arguments
  pub request : wineravine_argument_faults arguments ≡ text ∷ []

-- `-h` or `--help`
abbrev pub AskForHelp : List Text → Type 0
AskForHelp arguments = AskFor kinds.DisplayHelp arguments

-- `-V` or `--version`
abbrev pub AskForVersion : List Text → Type 0
AskForVersion arguments = AskFor kinds.DisplayVersion arguments

-- the arguments fit nothing
pub record AreWrong (arguments : List Text) : Type 0 where
  pub no_run : WineravineArgumentsAreTaken arguments → ⊥
  pub no_help : AskForHelp arguments → ⊥
  pub no_version : AskForVersion arguments → ⊥

-- the settings have the values that were found
pub record WineravineSettingsAreAsked (rows : List Row) (s : Settings) : Type 0 where
  pub policy : AsksPolicy rows s
  pub early_settings : s.early_settings ≡ is_true_text (first_of (codes "EarlySettings") rows)
  pub resign_when_gone : s.resign_when_gone ≡ is_true_text (first_of (codes "ResignWhenGone") rows)
  pub handle_draws : s.handle_draws ≡ is_true_text (first_of (codes "HandleDraws") rows)
  pub show_san : s.show_san ≡ is_true_text (first_of (codes "ShowSan") rows)
  pub strength_options : s.strength_options ≡ is_true_text (first_of (codes "StrengthOptions") rows)
  pub fence_stops : s.fence_stops ≡ is_true_text (first_of (codes "FenceStops") rows)
  pub result_reasons : s.result_reasons ≡ is_true_text (first_of (codes "ResultReasons") rows)
  pub time_margin :
      AsksNumber 0 MOST_MARGIN USUAL_MARGIN (one_of (codes "TimeMargin") rows) s.time_margin
  pub plain_texts : s.plain_texts ≡ is_true_text (first_of (codes "PlainTexts") rows)
  pub path_options : s.path_options ≡ is_true_text (first_of (codes "PathOptions") rows)
  pub repeat_thinking : s.repeat_thinking ≡ is_true_text (first_of (codes "RepeatThinking") rows)

-- the interface's line that sets an option of the engine, with its line feed
abbrev pub cecp_option_line : Text → Text
cecp_option_line option = codes "option " ++ option ++ line_feed ∷ []

-- the interface's lines that come before all others
abbrev pub first_lines : List Row → Text
first_lines rows = flat_map cecp_option_line (options_set rows)

-- the command of the engine: its program and its arguments
abbrev pub wineravine_engine_command : List Row → List Text
wineravine_engine_command rows =
    argument_or_empty (first_of (codes "ENGINE") rows)
    ∷ drop 1 (all_values (all_of (codes "ENGINE") rows))

pub record WineravineRequestIs (rows : List Row) (request : WineravineRequest) : Type 0 where
  pub settings : WineravineSettingsAreAsked rows request.settings
  pub log : string_bytes request.log_name ≡ wineravine_log_name rows
  pub log_folder : option_map string_bytes request.log_folder ≡ wineravine_log_folder rows
  pub first : request.first.items ≡ first_lines rows
  pub engine : map string_bytes request.engine.items ≡ wineravine_engine_command rows

-- a run that can be made
pub record IsRunnable (arguments : List Text) (request : WineravineRequest) : Type 0 where
  pub taken : WineravineArgumentsAreTaken arguments
  pub asked : WineravineRequestIs (wineravine_argument_values arguments) request
  pub proper : IsProper request.settings
  pub engine : 0 < length request.engine.items

-- the request that the arguments make
abbrev pub Ask : List Text → AskedProgram → Type 0
Ask arguments (asked.Run request) = IsRunnable arguments request
Ask arguments asked.Help = AskForHelp arguments
Ask arguments asked.Version = AskForVersion arguments

-- why they ask for nothing
abbrev pub Fail : List Text → WrongArguments → Type 0
Fail arguments (wrong.Words text) = AreWrong arguments
Fail arguments wrong.NoMemory = ⊤

-- the request that an error of this kind makes
abbrev pub ErrorAsksFor : ErrorKind → AskedProgram → Type 0
ErrorAsksFor kind (asked.Run request) = ⊥
ErrorAsksFor kind asked.Help = kind ≡ kinds.DisplayHelp
ErrorAsksFor kind asked.Version = kind ≡ kinds.DisplayVersion

-- an error of this kind is a mistake
abbrev pub Blames : ErrorKind → WrongArguments → Type 0
Blames kind (wrong.Words text) =
    (kind ≢ kinds.DisplayHelp) × ((kind ≢ kinds.DisplayVersion) × (kind ≢ kinds.OutOfMemory))
Blames kind wrong.NoMemory = ⊤

-- the arguments are wrong only if a value has a line feed, or if two logs are named
abbrev pub BlamesValues : List Row → WrongArguments → Type 0
BlamesValues rows (wrong.Words text) = (has_feed_within rows ≡ true) ⊎ (has_two_logs rows ≡ true)
BlamesValues rows wrong.NoMemory = ⊤
