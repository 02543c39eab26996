-- The settings.
use Rattle.std.specs.Prelude.{◌≤◌, true, false}
use Rattle.policy_rules.specs.declared.setting_rules.settings.Settings.{Settings}
use Rattle.policy_rules.specs.declared.setting_rules.settings.TheConstants.{MOST_MARGIN, MOST_MOVES, MOST_SCORE}
use Rattle.policy_rules.specs.declared.setting_rules.settings.TheConstants.{USUAL_MARGIN, USUAL_MOVES, USUAL_SCORE}

abbrev pub usual : Settings
usual = record {
  resign = false;
  resign_moves = USUAL_MOVES;
  resign_score = USUAL_SCORE;
  show_ponder = true;
  early_settings = false;
  resign_when_gone = false;
  handle_draws = true;
  show_san = false;
  strength_options = false;
  fence_stops = false;
  result_reasons = false;
  time_margin = USUAL_MARGIN;
  plain_texts = false;
  path_options = false;
  repeat_thinking = false;
}

-- the numbers are within their ranges
pub record IsProper (s : Settings) : Type 0 where
  pub some_moves : 1 ≤ s.resign_moves
  pub few_moves : s.resign_moves ≤ MOST_MOVES
  pub low_score : s.resign_score ≤ MOST_SCORE
  pub short_margin : s.time_margin ≤ MOST_MARGIN
