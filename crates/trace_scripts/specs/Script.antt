-- The scripts of a trace.
use Rattle.std.specs.Prelude.{ℕ, ◌<◌, length, List, [], ◌∷◌, ◌++◌, Option, Some}
use Rattle.std.specs.List.{AllByRecursion}
use Rattle.line_io.specs.Event.{Event}
use Rattle.policy_rules.specs.declared.setting_rules.settings.Settings.{Settings}
use Rattle.script_lines.specs.Marks.{Mark, Happens, mark_spelled}
use Rattle.script_lines.specs.Header.{header_text}
use Rattle.script_lines.specs.StepLine.{step_number}
use Rattle.script_lines.specs.StepText.{written_marks, marks_of_written, numbered_marks}
use Rattle.adapter_core.specs.Trace.{Step, iface_text, engine_text}
use Rattle.adapter_core.specs.Represents.{IsWholeLines}
use Rattle.line_io.specs.Lines.{line_feed}
use Rattle.line_io.specs.declared.limits.TheConstants.{SCRIPT_LINE}

abbrev pub written_text : Step → List ℕ
written_text s = written_marks (iface_text s) (engine_text s)

-- the text of a step: its event's mark, and the marks of the lines that it wrote
abbrev pub step_text : Step → List ℕ
step_text s = marks_of_written s.event (iface_text s) (engine_text s)

-- the script of version 1 of a trace, whose newest step stands first
abbrev pub script1 : List Step → List ℕ
script1 [] = []
script1 (s ∷ t) = script1 t ++ step_text s

-- the text of step k, counted from 0, after the line with its number
abbrev pub numbered_text : ℕ → Step → List ℕ
numbered_text k s = numbered_marks (step_number k) s.event (iface_text s) (engine_text s)

abbrev pub numbered_texts : List Step → List ℕ
numbered_texts [] = []
numbered_texts (s ∷ t) = numbered_texts t ++ numbered_text (length t) s

-- the script of version 2 or 3: a header with the settings, then each step with its number
abbrev pub script2 : Settings → List Step → List ℕ
script2 settings t = header_text settings ++ line_feed ∷ numbered_texts t

-- the events of a trace, the oldest first
abbrev pub events : List Step → List Event
events [] = []
events (s ∷ t) = events t ++ s.event ∷ []

-- the events that lines stand for by their marks
abbrev pub marked_events : Option Mark → List Event
marked_events (Some (Happens e)) = e ∷ []
marked_events m = []

abbrev pub script_events_in : List (List ℕ) → List Event
script_events_in [] = []
script_events_in (l ∷ ls) = marked_events (mark_spelled l) ++ script_events_in ls

-- the text that a step may write to one peer: whole lines, each shorter than a line of a script may be
pub record IsShortText (text : List ℕ) : Type 0 where
  pub lines : IsWholeLines text
  pub short : length text < SCRIPT_LINE

abbrev pub IsShortStep : Step → Type 0
IsShortStep s = IsShortText (iface_text s) × IsShortText (engine_text s)

abbrev pub StepLinesAreShort : List Step → Type 0
StepLinesAreShort trace = AllByRecursion IsShortStep trace
