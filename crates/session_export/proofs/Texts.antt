-- The export of a session is the text of its games.
use Rattle.std.proofs.Common.{◌≡◌, ℕ, List, [], ◌∷◌, ◌++◌, length, refl, sym, ap, ◌∙◌, append_assoc, append-nil, arith}
use Rattle.line_io.specs.Lines.{Piece}
use Rattle.policy_rules.specs.declared.setting_rules.settings.Settings.{Settings}
use Rattle.game_record.specs.Game.{Game}
use Rattle.san_text.specs.GameText.{game_text}
use Rattle.adapter_core.specs.Trace.{Step}
use Rattle.trace_scripts.specs.Script.{events}
use Rattle.replay_command_base.specs.declared.ending.Ending.TheVariants as endings
use Rattle.script_replay.specs.Versions.{script_events, settings_by, version_in}
use Rattle.session_export.specs.Exporting.{text_with_end, event_lines, game_at, game_of, exported_game, steps_text, exported_text}
use Rattle.session_export.proofs.Numbers.{as_many}
use Rattle.session_export.specs.Games.{games_over, games_text, over_by, running_game}
use Rattle.session_export.specs.GameExports.{exports_games, text_all, text_over}

games_text-append : (a b : List Game) → games_text (a ++ b) ≡ games_text a ++ games_text b
games_text-append [] b = refl
games_text-append (g ∷ a) b = ap (λ (t : List ℕ). game_text g ++ t) (games_text-append a b) ∙ sym (append_assoc (game_text g) (games_text a) (games_text b))

-- the game told of some steps is the one after them
game_is : (q : Settings) (trace : List Step) → game_at (exported_game q trace) ≡ game_of q trace
game_is q [] = refl
game_is q (s ∷ t) = refl

steps_are : (q : Settings) (numbers : List ℕ) (trace : List Step) → length numbers ≡ length trace → steps_text exports_games q numbers trace ≡ text_over q trace
steps_are q [] [] e = refl
steps_are q [] (s ∷ t) e = cc
steps_are q (n ∷ ns) [] e = cc
steps_are q (n ∷ ns) (s ∷ t) e =
    let after = game_of q (s ∷ t) in
    ap (λ (x : List ℕ). x ++ games_text (over_by (game_at (exported_game q t)) s.event after)) (steps_are q ns t (let z : length ns ≡ length t = omega (arith, e) in z))
    ∙ ap (λ (g : Game). text_over q t ++ games_text (over_by g s.event after)) (game_is q t)
    ∙ sym (games_text-append (games_over q t) (over_by (game_of q t) s.event after))

module _ (o : Settings) (lines : List Piece) (trace : List Step) (e : events trace ≡ script_events lines) where
  abbrev q : Settings
  q = settings_by (version_in lines) o

  -- after its lines it is that of the games that are over
  pub over_announced : exported_text exports_games o lines trace ≡ text_over q trace
  over_announced = steps_are q (event_lines lines) trace (as_many lines trace e)

  -- at the end of the input that of all games
  pub all_announced : text_with_end exports_games endings.Done o lines trace ≡ text_all q trace
  all_announced =
      ap (λ (t : List ℕ). t ++ games_text (running_game (game_of q trace))) over_announced
      ∙ sym (games_text-append (games_over q trace) (running_game (game_of q trace)))

  -- at another end no more
  pub cut_announced : exported_text exports_games o lines trace ++ [] ≡ text_over q trace
  cut_announced = append-nil (exported_text exports_games o lines trace) ∙ over_announced
