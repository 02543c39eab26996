-- Scripts: marks, each on a line.
use Rattle.std.specs.Prelude.{◌≡◌, ◌↔◌, ℕ, List, map, Option, Some}
use Rattle.std.specs.List.{flat_map, AllByRecursion}
use Rattle.line_io.specs.Lines.{Whole, parts_by_feed, items}
use Rattle.script_lines.specs.Marks.{Mark, IsMarkSpelled, SpellsMark, mark_spelled, mark_text, mark_line}
use Rattle.line_io.specs.declared.limits.TheConstants.{SCRIPT_LINE}

-- the text of marks, each on a line
abbrev pub script_of : List Mark → List ℕ
script_of marks = flat_map mark_line marks

abbrev pub MarksAreSpelled : List Mark → Type 0
MarksAreSpelled marks = AllByRecursion IsMarkSpelled marks

-- what is read is what is spelled
abbrev pub ReadsSpelling : Type 0
ReadsSpelling = (line : List ℕ) (mark : Mark) → (mark_spelled line ≡ Some mark) ↔ SpellsMark line mark

-- The lines of a script are the texts of its marks.
abbrev pub HasLines : Type 0
HasLines = (marks : List Mark) → MarksAreSpelled marks → parts_by_feed (script_of marks) ≡ map mark_text marks

-- None of them is long.
abbrev pub HasShortLines : Type 0
HasShortLines =
    (marks : List Mark) → MarksAreSpelled marks
    → items SCRIPT_LINE (script_of marks) ≡ map (λ mark. Whole (mark_text mark)) marks

-- what the lines of a script spell
abbrev pub marks_in_script : List ℕ → List (Option Mark)
marks_in_script bytes = map mark_spelled (parts_by_feed bytes)

-- A script is read back.
abbrev pub ScriptReadsBack : Type 0
ScriptReadsBack = (marks : List Mark) → MarksAreSpelled marks → marks_in_script (script_of marks) ≡ map Some marks

-- A script is read in one way only.
abbrev pub ReadsOneWay : Type 0
ReadsOneWay = (a b : List Mark) → MarksAreSpelled a → MarksAreSpelled b → script_of a ≡ script_of b → a ≡ b
