-- The export of a session is the text of its positions.
use Rattle.std.proofs.Common.{◌≡◌, ℕ, List, [], ◌∷◌, ◌++◌, refl, ap, ◌∙◌, append-nil}
use Rattle.line_io.specs.Lines.{Piece}
use Rattle.policy_rules.specs.declared.setting_rules.settings.Settings.{Settings}
use Rattle.adapter_core.specs.Trace.{Step}
use Rattle.script_replay.specs.Versions.{settings_by, version_in}
use Rattle.session_export.specs.Exporting.{event_lines, game_of, steps_text, exported_text}
use Rattle.session_export.specs.Positions.{line_by, positions_text}
use Rattle.session_export.specs.PositionExports.{exports_positions, text_of_lines}

steps_are : (q : Settings) (numbers : List ℕ) (trace : List Step) → steps_text exports_positions q numbers trace ≡ positions_text q numbers trace
steps_are q [] trace = refl
steps_are q (n ∷ ns) [] = refl
steps_are q (n ∷ []) (s ∷ []) = refl
steps_are q (n ∷ m ∷ ns) (s ∷ []) = refl
steps_are q (n ∷ ns) (s ∷ x ∷ t) =
    ap (λ (text : List ℕ). text ++ line_by n (game_of q (x ∷ t)) (game_of q (s ∷ x ∷ t))) (steps_are q ns (x ∷ t))

-- after its lines
pub text_exported : (o : Settings) (lines : List Piece) (trace : List Step) → exported_text exports_positions o lines trace ≡ text_of_lines o lines trace
text_exported o lines trace = steps_are (settings_by (version_in lines) o) (event_lines lines) trace

-- nothing is told of the end
pub text_ended : (o : Settings) (lines : List Piece) (trace : List Step) → exported_text exports_positions o lines trace ++ [] ≡ text_of_lines o lines trace
text_ended o lines trace = append-nil (exported_text exports_positions o lines trace) ∙ text_exported o lines trace
