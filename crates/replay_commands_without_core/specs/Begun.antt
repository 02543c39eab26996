-- The text put of a script with a header.
use Rattle.std.specs.Prelude.{◌≡◌, ⊤, ℕ, ◌<◌, ◌^◌, suc, List, [], ◌∷◌, ◌++◌, Option, Some, None}
use Rattle.line_io.specs.Lines.{Piece}
use Rattle.line_io.specs.Out.{Text, with}
use Rattle.policy_rules.specs.SettingRules.Policy.{IsProper}
use Rattle.policy_rules.specs.declared.setting_rules.settings.Settings.{Settings}
use Rattle.script_lines.specs.StepLine.{step_number}
use Rattle.replay_command_base.specs.declared.ending.Ending.{Ending}
use Rattle.replay_command_base.specs.declared.ending.Ending.TheVariants as endings
use Rattle.replay_command_base.specs.Putting.{Putting}
use Rattle.replay_commands_without_core.specs.declared.migration.Migration.{Migration}
use Rattle.replay_commands_without_core.specs.Migration.{AreMarked, IsUnmarked, migrated_beginning}
use Rattle.replay_commands_without_core.specs.Migration.{script_with_header, steps_over}

-- the text before the first mark, if it was not put
abbrev pub unput_beginning : Option ℕ → Settings → List ℕ
unput_beginning None settings = migrated_beginning settings
unput_beginning (Some number) settings = []

abbrev pub step_number_by : Option ℕ → ℕ
step_number_by None = 0
step_number_by (Some number) = number

-- the beginning stands, and this is the number of the last step
pub record ScriptIsBegun (old : Migration) (text : Text) (number : ℕ) (new : Migration)
    (text' : Text) : Type 0 where
  pub number_is : number ≡ step_number_by old.last
  pub last : new.last ≡ Some number
  pub settings : new.settings ≡ old.settings
  pub put : text' ≡ with text (unput_beginning old.last old.settings)

abbrev pub IsNumber : Option ℕ → Type 0
IsNumber None = ⊤
IsNumber (Some number) = number < 10 ^ 18

-- nothing is put yet
abbrev pub unbegun_script : Settings → Migration
unbegun_script settings = record { settings = settings; last = None }

pub record IsSoundMigration (migration : Migration) : Type 0 where
  pub proper : IsProper migration.settings
  pub number : IsNumber migration.last

-- this was put for the lines: nothing if there is none
abbrev pub PutFor : Settings → List Piece → Option ℕ → List ℕ → Type 0
PutFor settings [] last text = (last ≡ None) × (text ≡ [])
PutFor settings (line ∷ lines) last text =
    ((count : ℕ) × (steps_over 1 (line ∷ lines) ≡ suc count) × (last ≡ Some (step_number count)))
    × (text ≡ script_with_header settings (line ∷ lines))

-- the lines were migrated
pub record Migrates (old : Migration) (lines : List Piece) (new : Migration)
    (text : List ℕ) : Type 0 where
  pub settings : new.settings ≡ old.settings
  pub marked : AreMarked lines
  pub put : PutFor old.settings lines new.last text

-- Why it ended: by the first line without a mark, or with all lines marked.
abbrev pub IsMigrationEnd : List Piece → Ending → Type 0
IsMigrationEnd lines (endings.NoMark number) = IsUnmarked number lines
IsMigrationEnd lines (endings.Differs number) = ⊥
IsMigrationEnd lines (endings.Unlawful number) = ⊥
IsMigrationEnd lines (endings.OutOfStep number) = ⊥
IsMigrationEnd lines (endings.MayNotCome number) = ⊥
IsMigrationEnd lines ending = AreMarked lines

abbrev pub migration_meaning : Putting Migration
migration_meaning = record {
  put = λ old lines new text. Migrates old lines new text;
  says = λ old lines ending text. IsMigrationEnd lines ending
      × (text ≡ script_with_header old.settings lines);
  may = λ migration. IsSoundMigration migration;
}
