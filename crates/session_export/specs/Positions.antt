-- The positions of a session.
use Rattle.std.specs.Prelude.{ℕ, List, [], ◌∷◌, ◌++◌, decimal, if◌then◌else◌}
use Rattle.std.specs.Str.{bytes_eq}
use Rattle.line_io.specs.Lines.{line_feed}
use Rattle.protocol_tokens.specs.Bytes.{blank}
use Rattle.fen_text.specs.Written.{position_fen}
use Rattle.game_record.specs.Game.{Game, current_position}
use Rattle.policy_rules.specs.declared.setting_rules.settings.Settings.{Settings}
use Rattle.adapter_core.specs.Trace.{Step}
use Rattle.session_export.specs.Exporting.{game_of}

-- the text of the position in which a game stands (PGN standard, section 16.1)
abbrev pub fen_of_game : Game → List ℕ
fen_of_game g = position_fen (current_position g)

-- a number, a blank, and the position of a game
abbrev pub position_line : ℕ → Game → List ℕ
position_line n g = decimal n ++ blank ∷ (fen_of_game g ++ line_feed ∷ [])

-- a line if the position has another text than before
abbrev pub line_by : ℕ → Game → Game → List ℕ
line_by n before after =
    if bytes_eq (fen_of_game before) (fen_of_game after) then [] else position_line n after

-- The lines of these steps, of which the newest stands first, and with it the number of its event.
-- The first step has one, and each further step that leaves another position.
abbrev pub positions_text : Settings → List ℕ → List Step → List ℕ
positions_text o (n ∷ numbers) (step ∷ []) = position_line n (game_of o (step ∷ []))
positions_text o (n ∷ numbers) (step ∷ trace) =
    positions_text o numbers trace ++ line_by n (game_of o trace) (game_of o (step ∷ trace))
positions_text o numbers trace = []
