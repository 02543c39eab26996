-- A script of version 1 as one with a header.
use Rattle.std.specs.Prelude.{◌≡◌, ℕ, suc, ◌+◌, List, [], ◌∷◌, ◌++◌}
use Rattle.std.specs.Prelude.{length, true, Option, Some, None, is_some}
use Rattle.std.specs.List.{AllByRecursion}
use Rattle.line_io.specs.Lines.{Piece, Whole, TooLong, line_feed}
use Rattle.policy_rules.specs.declared.setting_rules.settings.Settings.{Settings}
use Rattle.script_lines.specs.Header.{header_text}
use Rattle.script_lines.specs.Marks.{Mark, Happens, mark_spelled}
use Rattle.script_lines.specs.StepLine.{step_number_line, step_number}

-- a line as it stands in a script
abbrev pub migrated_line_text : List ℕ → List ℕ
migrated_line_text line = line ++ line_feed ∷ []

-- the mark of a line
abbrev pub mark_to_migrate : Piece → Option Mark
mark_to_migrate (Whole line) = mark_spelled line
mark_to_migrate TooLong = None

abbrev pub text_in : Piece → List ℕ
text_in (Whole line) = migrated_line_text line
text_in TooLong = []

-- A line after so many steps is copied. The mark of an event begins the next step, whose
-- number stands before it.
abbrev pub line_migrated : ℕ → Option Mark → List ℕ → List ℕ
line_migrated steps (Some (Happens event)) text = migrated_line_text (step_number_line (step_number steps)) ++ text
line_migrated steps (Some mark) text = text
line_migrated steps None text = []

abbrev pub steps_after : ℕ → Option Mark → ℕ
steps_after steps (Some (Happens event)) = suc steps
steps_after steps mark = steps

abbrev pub lines_migrated : ℕ → List Piece → List ℕ
lines_migrated steps [] = []
lines_migrated steps (line ∷ lines) =
    line_migrated steps (mark_to_migrate line) (text_in line)
    ++ lines_migrated (steps_after steps (mark_to_migrate line)) lines

-- the header, and the number of the first step
abbrev pub migrated_beginning : Settings → List ℕ
migrated_beginning settings = migrated_line_text (header_text settings) ++ migrated_line_text (step_number_line 0)

-- the script of version 2 or 3 with these settings, for the lines of one of version 1
abbrev pub script_with_header : Settings → List Piece → List ℕ
script_with_header settings lines = migrated_beginning settings ++ lines_migrated 1 lines

-- how many steps lines have after so many
abbrev pub steps_over : ℕ → List Piece → ℕ
steps_over steps [] = steps
steps_over steps (line ∷ lines) = steps_over (steps_after steps (mark_to_migrate line)) lines

-- each line has a mark
abbrev pub AreMarked : List Piece → Type 0
AreMarked lines = AllByRecursion (λ line. is_some (mark_to_migrate line) ≡ true) lines

-- The line with this number is the last of these, and the first without a mark.
pub record IsUnmarked (number : ℕ) (lines : List Piece) : Type 0 where
  pub before : List Piece
  pub line : Piece
  pub lines_are : lines ≡ before ++ line ∷ []
  pub marked : AreMarked before
  pub no_mark : mark_to_migrate line ≡ None
  pub number_is : number ≡ length before + 1
