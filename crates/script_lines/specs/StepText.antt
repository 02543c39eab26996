-- The text of a step: the marks of what happened and of what was written.
use Rattle.std.specs.Prelude.{ℕ, List, ◌∷◌, ◌++◌}
use Rattle.std.specs.List.{flat_map}
use Rattle.line_io.specs.Event.{Event}
use Rattle.line_io.specs.Lines.{parts_by_feed, line_feed}
use Rattle.script_lines.specs.Marks.{event_marked, line_marked}
use Rattle.script_lines.specs.Marks.{iface_line_letter, engine_line_letter}
use Rattle.script_lines.specs.StepLine.{step_number_line}

-- the lines of a text, each after the letter of its mark
abbrev pub lines_marked : ℕ → List ℕ → List ℕ
lines_marked letter text = flat_map (line_marked letter) (parts_by_feed text)

-- the marks of the lines that were written in two texts, to the interface and to the engine
abbrev pub written_marks : List ℕ → List ℕ → List ℕ
written_marks iface engine =
    lines_marked iface_line_letter iface ++ lines_marked engine_line_letter engine

-- the marks of an event and of what was written
abbrev pub marks_of_written : Event → List ℕ → List ℕ → List ℕ
marks_of_written event iface engine = event_marked event ++ written_marks iface engine

-- the same after the line that numbers the step
abbrev pub numbered_marks : ℕ → Event → List ℕ → List ℕ → List ℕ
numbered_marks number event iface engine =
    step_number_line number ++ line_feed ∷ marks_of_written event iface engine
