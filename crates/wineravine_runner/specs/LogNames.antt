-- The name of a new log, and the place of the log that the arguments ask for.
use Rattle.std.specs.Prelude.{ℕ, Bool, ◌||◌, ◌==◌, if◌then◌else◌, List, [], ◌∷◌, ◌++◌, length, map, take, codes}
use Rattle.std.specs.Prelude.{Option, Some, None}
use Rattle.std.specs.Char.{is_ascii_alphanumeric}
use Rattle.std.specs.Fmt.{decimal}
use Rattle.std.specs.Path.{has_no_slash}
use Rattle.clap.specs.Words.{Row, Text, first_of}
use Rattle.child_engine.specs.Places.{LogAsked, log_file, new_log}
use Rattle.protocol_tokens.specs.Bytes.{plus, dash, point, slash}
use Rattle.bridge_command_line.specs.Values.{argument_or_empty}
use Rattle.bridge_command_line.specs.WineravineArguments.{wineravine_log_name, wineravine_log_folder}
use Rattle.wineravine_runner.specs.declared.log_names.TheConstants.{MOST_NAME}

-- what stands behind the last slash
abbrev pub behind_slash : List ℕ → List ℕ
behind_slash [] = []
behind_slash (b ∷ bs) = if has_no_slash (b ∷ bs) then b ∷ bs else behind_slash bs

-- the same after one byte more
abbrev pub next_part : List ℕ → ℕ → List ℕ
next_part part b = if b == slash then [] else part ++ b ∷ []

abbrev pub underscore : ℕ
underscore = 95

-- letters, digits and these stay in the name of a log
abbrev pub is_log_letter : ℕ → Bool
is_log_letter b =
    (((is_ascii_alphanumeric b || b == point) || b == dash) || b == underscore) || b == plus

abbrev pub log_letter : ℕ → ℕ
log_letter b = if is_log_letter b then b else underscore

abbrev pub part_in_log : List ℕ → List ℕ
part_in_log part = if length part == 0 then codes "engine" else map log_letter part

-- the engine in the name of a log, by its program
abbrev pub engine_in_log : Text → List ℕ
engine_in_log engine = part_in_log (take MOST_NAME (behind_slash engine))

-- the name of a new log before its number
abbrev pub new_log_name : Text → ℕ → List ℕ
new_log_name engine process_id = engine_in_log engine ++ dash ∷ decimal process_id

-- in the folder, if there is one
abbrev pub place_in : Option Text → Text → List ℕ → LogAsked
place_in (Some folder) file name = new_log folder name
place_in None file name = log_file file

-- the place of the log, in the process of this number
abbrev pub wineravine_log : List Row → ℕ → LogAsked
wineravine_log rows process_id =
    place_in (wineravine_log_folder rows) (wineravine_log_name rows)
    (new_log_name (argument_or_empty (first_of (codes "ENGINE") rows)) process_id)
