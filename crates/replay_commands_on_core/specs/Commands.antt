-- The command in the program's arguments.
use Rattle.std.specs.Prelude.{ℕ, ◌≤◌, List, [], ◌∷◌, length, ◌&&◌, if◌then◌else◌, ◌-◌}
use Rattle.std.specs.Prelude.{nat_lt, codes, Option, Some, None, Vec, vec_items, map}
use Rattle.std.specs.Option.{option_map}
use Rattle.std.specs.Str.{bytes_eq}
use Rattle.replay_commands_on_core.specs.declared.command.ReplayCommand.{ReplayCommand}
use Rattle.replay_commands_on_core.specs.declared.command.ReplayCommand.TheVariants as commands
use Rattle.replay_commands_on_core.specs.declared.command.CommandName.{CommandName}
use Rattle.replay_commands_on_core.specs.declared.command.CommandName.TheVariants as names
use Rattle.session_judge.specs.declared.listener.Listener.{Listener}
use Rattle.session_judge.specs.declared.listener.Listener.TheVariants as listeners
use Rattle.policy_rules.specs.declared.setting_rules.settings.Settings.{Settings}
use Rattle.policy_rules.specs.SettingRules.Policy.{IsProper}
use Rattle.replay_commands_on_core.specs.Moves.{fen_argument}
use Rattle.policy_rules.specs.SettingRules.Words.{number_in_range}
use Rattle.replay_commands_on_core.specs.Words.{settings_of}
use Rattle.random_games.specs.declared.generator.TheConstants.{MODULUS}
use Rattle.random_games.specs.declared.run.TheConstants.{MOST_ROUNDS}

-- the request: a replay, a check, a migration, the games or the positions with settings, a
-- judgement of the log that this one wrote or of the engine in it, a script played to an engine of
-- so many lives or to a driver, a drill, or the moves of what a text spells
pub data ReplayRequest : Type 0 where
  Replay : (settings : Settings) → ReplayRequest
  Check : (settings : Settings) → ReplayRequest
  Migrate : (settings : Settings) → ReplayRequest
  Judge : (listener : Listener) → ReplayRequest
  JudgeEngine : (listener : Listener) → ReplayRequest
  Revive : (lives : ℕ) → ReplayRequest
  Drive : ReplayRequest
  Games : (settings : Settings) → ReplayRequest
  Positions : (settings : Settings) → ReplayRequest
  Drill : (number : ℕ) → (count : ℕ) → ReplayRequest
  Moves : (text : List ℕ) → ReplayRequest

-- the bytes of arguments
abbrev pub argument_bytes : {Z : Type 0} → List (Vec ℕ Z) → List (List ℕ)
argument_bytes arguments = map vec_items arguments

abbrev pub drill_by : Option ℕ → Option ℕ → Option ReplayRequest
drill_by (Some number) (Some count) = Some (Drill number count)
drill_by number count = None

-- a number of the generator and a count of rounds
abbrev pub drill_of : List (List ℕ) → Option ReplayRequest
drill_of (number ∷ count ∷ []) = drill_by (number_in_range 10 0 (MODULUS - 1) number)
    (number_in_range 10 0 MOST_ROUNDS count)
drill_of arguments = None

-- how many lives may be begun: one digit from 1 to 9
abbrev pub revive_of : List (List ℕ) → Option ReplayRequest
revive_of (lives ∷ []) = option_map (λ n. Revive n) (number_in_range 1 1 9 lives)
revive_of arguments = None

abbrev pub judge_by_word : List ℕ → Option ReplayRequest
judge_by_word word =
    if bytes_eq word (codes "tap") then Some (Judge listeners.Tap)
    else (if bytes_eq word (codes "engine") then Some (JudgeEngine listeners.Bridge) else None)

abbrev pub judge_by_words : List ℕ → List ℕ → Option ReplayRequest
judge_by_words first second =
    if bytes_eq first (codes "tap") && bytes_eq second (codes "engine")
    then Some (JudgeEngine listeners.Tap) else None

-- who wrote the log that is judged, the bridge or a tap, and whether it is the engine that is judged
abbrev pub judge_of : List (List ℕ) → Option ReplayRequest
judge_of [] = Some (Judge listeners.Bridge)
judge_of (word ∷ []) = judge_by_word word
judge_of (first ∷ second ∷ []) = judge_by_words first second
judge_of arguments = None

-- a command that takes no arguments
abbrev pub command_without_arguments : ReplayRequest → List (List ℕ) → Option ReplayRequest
command_without_arguments command [] = Some command
command_without_arguments command (word ∷ arguments) = None

-- the moves of what one or more arguments spell
abbrev pub moves_of : List (List ℕ) → Option ReplayRequest
moves_of arguments = if nat_lt 0 (length arguments) then Some (Moves (fen_argument arguments)) else None

-- a command with these arguments, by which name it has
abbrev pub command_by : Option CommandName → List (List ℕ) → Option ReplayRequest
command_by None arguments = None
command_by (Some names.Replay) arguments = option_map (λ s. Replay s) (settings_of arguments)
command_by (Some names.Check) arguments = option_map (λ s. Check s) (settings_of arguments)
command_by (Some names.Migrate) arguments = option_map (λ s. Migrate s) (settings_of arguments)
command_by (Some names.Judge) arguments = judge_of arguments
command_by (Some names.Revive) arguments = revive_of arguments
command_by (Some names.Drive) arguments = command_without_arguments Drive arguments
command_by (Some names.Games) arguments = option_map (λ s. Games s) (settings_of arguments)
command_by (Some names.Positions) arguments = option_map (λ s. Positions s) (settings_of arguments)
command_by (Some names.Drill) arguments = drill_of arguments
command_by (Some names.Moves) arguments = moves_of arguments

-- the command of this name with these arguments: settings stand after `replay`, `check`,
-- `migrate`, `games` and `positions`, perhaps `tap` and perhaps `engine` after `judge`, nothing after `drive`, one
-- digit after `revive`, one or more arguments after `moves`, and two numbers after `drill`
abbrev pub command_named : List ℕ → List (List ℕ) → Option ReplayRequest
command_named name arguments =
    if bytes_eq name (codes "replay") then option_map (λ s. Replay s) (settings_of arguments)
    else (if bytes_eq name (codes "check") then option_map (λ s. Check s) (settings_of arguments)
    else (if bytes_eq name (codes "migrate") then option_map (λ s. Migrate s) (settings_of arguments)
    else (if bytes_eq name (codes "judge") then judge_of arguments
    else (if bytes_eq name (codes "revive") then revive_of arguments
    else (if bytes_eq name (codes "drive") then command_without_arguments Drive arguments
    else (if bytes_eq name (codes "games") then option_map (λ s. Games s) (settings_of arguments)
    else (if bytes_eq name (codes "positions")
    then option_map (λ s. Positions s) (settings_of arguments)
    else (if bytes_eq name (codes "drill") then drill_of arguments
    else (if bytes_eq name (codes "moves") && nat_lt 0 (length arguments) then Some (Moves
    (fen_argument arguments)) else None)))))))))

-- the command of the arguments, if they fit one
abbrev pub replay_command_of : List (List ℕ) → Option ReplayRequest
replay_command_of [] = None
replay_command_of (name ∷ arguments) = command_named name arguments

-- the request of a command
abbrev pub request_by_command : ReplayCommand → ReplayRequest
request_by_command (commands.Replay s) = Replay s
request_by_command (commands.Check s) = Check s
request_by_command (commands.Migrate s) = Migrate s
request_by_command (commands.Judge listener) = Judge listener
request_by_command (commands.JudgeEngine listener) = JudgeEngine listener
request_by_command (commands.Revive lives) = Revive lives
request_by_command commands.Drive = Drive
request_by_command (commands.Games s) = Games s
request_by_command (commands.Positions s) = Positions s
request_by_command (commands.Drill number count) = Drill number count
request_by_command (commands.Moves arguments) = Moves (fen_argument (argument_bytes arguments.now))

-- the settings and the count of a command are within their ranges
abbrev pub HasProper : ReplayCommand → Type 0
HasProper (commands.Replay s) = IsProper s
HasProper (commands.Check s) = IsProper s
HasProper (commands.Migrate s) = IsProper s
HasProper (commands.Games s) = IsProper s
HasProper (commands.Positions s) = IsProper s
HasProper (commands.Drill number count) = count ≤ MOST_ROUNDS
HasProper command = Unit {0}
