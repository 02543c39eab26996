-- The export of a session: its positions.
use Rattle.std.specs.Prelude.{◌≡◌, ℕ, List, [], Bool, false, Option, Some, None}
use Rattle.std.specs.Str.{bytes_eq}
use Rattle.arrayvec.specs.ArrayVec.{ArrayVec}
use Rattle.line_io.specs.Lines.{Piece}
use Rattle.game_record.specs.Game.{Game}
use Rattle.policy_rules.specs.declared.setting_rules.settings.Settings.{Settings}
use Rattle.adapter_core.specs.Trace.{Step}
use Rattle.replay_command_base.specs.Putting.{Putting}
use Rattle.script_replay.specs.Versions.{settings_by, version_in}
use Rattle.session_export.specs.declared.writer.SessionWriter.{SessionWriter}
use Rattle.session_export.specs.Exporting.{Exporting, event_lines}
use Rattle.session_export.specs.Writing as writing
use Rattle.session_export.specs.declared.position_exporter.PositionExporter.{PositionExporter}
use Rattle.session_export.specs.Positions.{fen_of_game, line_by, position_line, positions_text}

-- the last position has this text
abbrev pub is_last_text : Option (ArrayVec ℕ) → List ℕ → Bool
is_last_text None text = false
is_last_text (Some last) text = bytes_eq last.items text

abbrev pub is_last : PositionExporter → List ℕ → Bool
is_last exporter text = is_last_text exporter.last text

-- the text that is kept is that of this game's position
abbrev pub IsFen : Option (ArrayVec ℕ) → Option Game → Type 0
IsFen (Some last) (Some g) = last.items ≡ fen_of_game g
IsFen last before = (last ≡ None) × (before ≡ None)

-- the line of a step: the first has one, and each further one that leaves another position
abbrev pub step_position_line : ℕ → Option Game → Game → List ℕ
step_position_line number None after = position_line number after
step_position_line number (Some before) after = line_by number before after

-- an exporter of positions
abbrev pub exports_positions : Exporting PositionExporter
exports_positions = record {
  first = record { last = None };
  at = λ exporter before. IsFen exporter.last before;
  step_text = λ number event before after. step_position_line number before after;
  last_text = λ ending game. [];
}

-- a session whose positions are written
abbrev pub PositionWriter : Type 0
PositionWriter = SessionWriter PositionExporter

-- the writer that is made with these settings
abbrev pub new_position_writer : Settings → PositionWriter
new_position_writer settings = writing.new_session_writer exports_positions settings

-- the text of the positions of these lines, if this is their trace
abbrev pub text_of_lines : Settings → List Piece → List Step → List ℕ
text_of_lines o lines trace =
    positions_text (settings_by (version_in lines) o) (event_lines lines) trace

-- the meaning of a writer of positions to the run that gives it lines
abbrev pub writes_positions : Putting PositionWriter
writes_positions = writing.export_meaning exports_positions
