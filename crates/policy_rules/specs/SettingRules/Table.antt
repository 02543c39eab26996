-- The table of settings: their names, the values that they may have, and those that they have.
use Rattle.std.specs.Prelude.{◌≤◌, ℕ, List, [], ◌∷◌, take, drop, codes, decimal}
use Rattle.std.specs.Prelude.{Bool, true, false, not, ◌==◌, if◌then◌else◌}
use Rattle.std.specs.List.{filter, list_all}
use Rattle.policy_rules.specs.SettingRules.Policy.{usual}
use Rattle.policy_rules.specs.declared.setting_rules.settings.Settings.{Settings}
use Rattle.policy_rules.specs.declared.setting_rules.settings.TheConstants.{MOST_MARGIN, MOST_MOVES, MOST_SCORE}
use Rattle.policy_rules.specs.declared.setting_rules.table.Setting.{Setting}
use Rattle.policy_rules.specs.declared.setting_rules.table.Setting.TheVariants.{Resign, ResignMoves, ResignScore}
use Rattle.policy_rules.specs.declared.setting_rules.table.Setting.TheVariants.{ShowPonder, EarlySettings}
use Rattle.policy_rules.specs.declared.setting_rules.table.Setting.TheVariants.{ResignWhenGone, HandleDraws}
use Rattle.policy_rules.specs.declared.setting_rules.table.Setting.TheVariants.{ShowSan, StrengthOptions}
use Rattle.policy_rules.specs.declared.setting_rules.table.Setting.TheVariants.{FenceStops, ResultReasons}
use Rattle.policy_rules.specs.declared.setting_rules.table.Setting.TheVariants.{TimeMargin, PlainTexts}
use Rattle.policy_rules.specs.declared.setting_rules.table.Setting.TheVariants.{PathOptions, RepeatThinking}
use Rattle.policy_rules.specs.declared.setting_rules.table.Range.{Range}
use Rattle.policy_rules.specs.declared.setting_rules.table.Range.TheVariants as ranges
use Rattle.policy_rules.specs.declared.setting_rules.table.Value.{Value}
use Rattle.policy_rules.specs.declared.setting_rules.table.Value.TheVariants.{Truth, Number}
use Rattle.policy_rules.specs.declared.setting_rules.table.Choice.{Choice}
use Rattle.policy_rules.specs.declared.setting_rules.table.TheConstants.{FIRST_SETTINGS, STATED_SETTINGS}

-- the settings in the order in which a header states them
abbrev pub settings : List Setting
settings =
    Resign ∷ ResignMoves ∷ ResignScore ∷ ShowPonder
    ∷ EarlySettings ∷ ResignWhenGone ∷ HandleDraws ∷ ShowSan ∷ StrengthOptions
    ∷ FenceStops ∷ ResultReasons ∷ TimeMargin ∷ PlainTexts ∷ PathOptions ∷ RepeatThinking ∷ []

abbrev pub name_of : Setting → List ℕ
name_of Resign = codes "Resign"
name_of ResignMoves = codes "ResignMoves"
name_of ResignScore = codes "ResignScore"
name_of ShowPonder = codes "ShowPonder"
name_of EarlySettings = codes "EarlySettings"
name_of ResignWhenGone = codes "ResignWhenGone"
name_of HandleDraws = codes "HandleDraws"
name_of ShowSan = codes "ShowSan"
name_of StrengthOptions = codes "StrengthOptions"
name_of FenceStops = codes "FenceStops"
name_of ResultReasons = codes "ResultReasons"
name_of TimeMargin = codes "TimeMargin"
name_of PlainTexts = codes "PlainTexts"
name_of PathOptions = codes "PathOptions"
name_of RepeatThinking = codes "RepeatThinking"

-- the values that a setting may have: both truths, if it is not a number
abbrev pub range_of_setting : Setting → Range
range_of_setting ResignMoves = ranges.Number 1 MOST_MOVES
range_of_setting ResignScore = ranges.Number 0 MOST_SCORE
range_of_setting TimeMargin = ranges.Number 0 MOST_MARGIN
range_of_setting setting = ranges.Truth

-- the text of the usual value
abbrev pub usual_text : Setting → List ℕ
usual_text ResignMoves = codes "3"
usual_text ResignScore = codes "600"
usual_text TimeMargin = codes "0"
usual_text ShowPonder = codes "true"
usual_text HandleDraws = codes "true"
usual_text setting = codes "false"

abbrev pub setting_value : Settings → Setting → Value
setting_value s Resign = Truth s.resign
setting_value s ResignMoves = Number s.resign_moves
setting_value s ResignScore = Number s.resign_score
setting_value s ShowPonder = Truth s.show_ponder
setting_value s EarlySettings = Truth s.early_settings
setting_value s ResignWhenGone = Truth s.resign_when_gone
setting_value s HandleDraws = Truth s.handle_draws
setting_value s ShowSan = Truth s.show_san
setting_value s StrengthOptions = Truth s.strength_options
setting_value s FenceStops = Truth s.fence_stops
setting_value s ResultReasons = Truth s.result_reasons
setting_value s TimeMargin = Number s.time_margin
setting_value s PlainTexts = Truth s.plain_texts
setting_value s PathOptions = Truth s.path_options
setting_value s RepeatThinking = Truth s.repeat_thinking

-- the value is one of the range
abbrev pub IsWithinRange : Range → Value → Type 0
IsWithinRange ranges.Truth (Truth b) = Unit {0}
IsWithinRange (ranges.Number least most) (Number n) = (least ≤ n) × (n ≤ most)
IsWithinRange range value = ⊥

abbrev pub truth_text : Bool → List ℕ
truth_text true = codes "true"
truth_text false = codes "false"

abbrev pub setting_value_text : Value → List ℕ
setting_value_text (Truth b) = truth_text b
setting_value_text (Number n) = decimal n

-- a value that is chosen for a truth, for a number
abbrev pub is_true : Value → Bool
is_true (Truth b) = b
is_true (Number n) = false

abbrev pub number_of_value : Value → ℕ
number_of_value (Truth b) = 0
number_of_value (Number n) = n

abbrev pub settings_with_value : Settings → Setting → Value → Settings
settings_with_value s Resign v = record s { resign = is_true v }
settings_with_value s ResignMoves v = record s { resign_moves = number_of_value v }
settings_with_value s ResignScore v = record s { resign_score = number_of_value v }
settings_with_value s ShowPonder v = record s { show_ponder = is_true v }
settings_with_value s EarlySettings v = record s { early_settings = is_true v }
settings_with_value s ResignWhenGone v = record s { resign_when_gone = is_true v }
settings_with_value s HandleDraws v = record s { handle_draws = is_true v }
settings_with_value s ShowSan v = record s { show_san = is_true v }
settings_with_value s StrengthOptions v = record s { strength_options = is_true v }
settings_with_value s FenceStops v = record s { fence_stops = is_true v }
settings_with_value s ResultReasons v = record s { result_reasons = is_true v }
settings_with_value s TimeMargin v = record s { time_margin = number_of_value v }
settings_with_value s PlainTexts v = record s { plain_texts = is_true v }
settings_with_value s PathOptions v = record s { path_options = is_true v }
settings_with_value s RepeatThinking v = record s { repeat_thinking = is_true v }

-- the settings with one chosen anew
abbrev pub with_choice : Settings → Choice → Settings
with_choice s choice = settings_with_value s choice.setting choice.value

abbrev pub is_same_value : Value → Value → Bool
is_same_value (Truth a) (Truth b) = if a then b else not b
is_same_value (Number a) (Number b) = a == b
is_same_value a b = false

abbrev pub is_usual : Settings → Setting → Bool
is_usual s setting = is_same_value (setting_value s setting) (setting_value usual setting)

abbrev pub is_usual_in : List Setting → Settings → Bool
is_usual_in list s = list_all (is_usual s) list

-- those of a list that have not their usual value
abbrev pub unusual_in : List Setting → Settings → List Setting
unusual_in list s = filter (λ setting. not (is_usual s setting)) list

-- the settings that every header states, and the others
abbrev pub first_settings : List Setting
first_settings = take FIRST_SETTINGS settings

abbrev pub other_settings : List Setting
other_settings = drop FIRST_SETTINGS settings

abbrev pub has_usual_rest : Settings → Bool
has_usual_rest s = is_usual_in other_settings s

-- the settings that every header of version 3 states, and the later ones
abbrev pub stated_settings : List Setting
stated_settings = take STATED_SETTINGS settings

abbrev pub later_settings : List Setting
later_settings = drop STATED_SETTINGS settings
