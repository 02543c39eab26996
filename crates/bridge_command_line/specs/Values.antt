-- The requests that values of arguments make.
use Rattle.std.specs.Prelude.{◌≡◌, ℕ, Bool, true, false, ◌&&◌, nat_le, if◌then◌else◌}
use Rattle.std.specs.Prelude.{List, [], Option, Some, None, codes}
use Rattle.std.specs.List.{find}
use Rattle.std.specs.Option.{option_and_then}
use Rattle.std.specs.Str.{bytes_eq}
use Rattle.clap.specs.Words.{Row, Text, first_of, one_of, ReadsOne}
use Rattle.std.specs.Str.Parse.{ParsesUnsigned, ExplainsUnsignedError, HasUnsignedDigitsIfOk}
use Rattle.clap.specs.declared.parser.matches.ValueSource.{ValueSource}
use Rattle.clap.specs.declared.parser.matches.ValueSource.TheVariants as sources
use Rattle.policy_rules.specs.declared.setting_rules.settings.Settings.{Settings}
use Rattle.policy_rules.specs.declared.setting_rules.settings.TheConstants.{MOST_MOVES, USUAL_MOVES}
use Rattle.policy_rules.specs.declared.setting_rules.settings.TheConstants.{MOST_SCORE, USUAL_SCORE}
use Rattle.policy_rules.specs.SettingRules.Policy.{usual}

abbrev pub is_true_text : Option Text → Bool
is_true_text (Some text) = bytes_eq text (codes "true")
is_true_text None = false

-- where the value of an argument comes from, if it has one
abbrev pub source_of : Text → List Row → Option ValueSource
source_of id rows = option_and_then (λ r. r.source) (find (λ r. bytes_eq r.id id) rows)

abbrev pub is_command_line : Option ValueSource → Bool
is_command_line (Some sources.CommandLine) = true
is_command_line source = false

-- whether words, and not a default, give an argument its value
abbrev pub is_named : Text → List Row → Bool
is_named id rows = is_command_line (source_of id rows)

abbrev pub argument_or_empty : Option Text → Text
argument_or_empty (Some text) = text
argument_or_empty None = []

abbrev pub all_values : Option (List Text) → List Text
all_values (Some texts) = texts
all_values None = []

-- the number if it is within the bounds
abbrev pub setting_within : ℕ → ℕ → ℕ → Option ℕ → ℕ
setting_within least most usual (Some n) = if nat_le least n && nat_le n most then n else usual
setting_within least most usual None = usual

-- n is the number that the text spells, as std reads a `u32`
pub record IsNumberOf (least most usual : ℕ) (text : Text) (n : ℕ) : Type 0 where
  pub read : Option ℕ
  pub reads : ReadsOne
      (λ t r. ParsesUnsigned 32 10 t r × ExplainsUnsignedError 10 t r × HasUnsignedDigitsIfOk t r)
      text read
  pub number : n ≡ setting_within least most usual read

-- n is the number that an option's value asks for, or the usual one if no value was found
abbrev pub AsksNumber : ℕ → ℕ → ℕ → Option Text → ℕ → Type 0
AsksNumber least most usual (Some text) n = IsNumberOf least most usual text n
AsksNumber least most usual None n = n ≡ usual

-- The settings that say when a game is resigned, and whether pondering is shown, have
-- the values that were found.
pub record AsksPolicy (rows : List Row) (s : Settings) : Type 0 where
  pub resign : s.resign ≡ is_true_text (first_of (codes "Resign") rows)
  pub show_ponder : s.show_ponder ≡ is_true_text (first_of (codes "ShowPonder") rows)
  pub resign_moves :
      AsksNumber 1 MOST_MOVES USUAL_MOVES (one_of (codes "ResignMoves") rows) s.resign_moves
  pub resign_score :
      AsksNumber 0 MOST_SCORE USUAL_SCORE (one_of (codes "ResignScore") rows) s.resign_score

-- the other settings are the usual ones
abbrev pub HasUsualOthers : Settings → Type 0
HasUsualOthers s =
    s ≡ record usual {
      resign = s.resign;
      resign_moves = s.resign_moves;
      resign_score = s.resign_score;
      show_ponder = s.show_ponder;
    }
