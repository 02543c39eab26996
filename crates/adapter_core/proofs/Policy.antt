-- The core's counts of the scores go with the scores.
use Rattle.std.proofs.Common.{◌≡◌, List, [], ◌∷◌, Bool, true, false, cond, refl, ap, ◌∙◌}
use Rattle.line_io.specs.Out.{Text}
use Rattle.policy_rules.specs.declared.setting_rules.settings.Settings.{Settings}
use Rattle.policy_rules.specs.SettingRules.Policy.{IsProper}
use Rattle.policy_rules.specs.ScoreRules.Scores.{Score, no_scores, score_counts}
use Rattle.policy_rules.proofs.ScoreRules.Counts.{counts_match, settings_kept}
use Rattle.desk_rules.specs.Desk.{Situation}
use Rattle.desk_rules.specs.Lines.{clears_scores}
use Rattle.desk_rules.specs.Steps.{Effect, Accepts, Shows, scores_after, counts_after}
use Rattle.adapter_core.specs.Parts as parts
use Rattle.adapter_core.specs.Trace.{State, situation_of_state}
use Rattle.adapter_core.specs.Represents.{parts_of_state}

-- the situation is the same for both
pub situation_kept : (s : State) (to_iface to_engine : Text) → IsProper s.settings → parts.situation_of_parts (parts_of_state s to_iface to_engine) ≡ situation_of_state s
situation_kept s to_iface to_engine p =
    ap (λ (b : Bool). let h : Situation = record (parts.situation_of_parts (parts_of_state s to_iface to_engine)) { resigns = b } in h) ((counts_match s.settings (s.desk.search_info.score ∷ s.scores) p).0)
    ∙ ap (λ (b : Bool). let h : Situation = record (situation_of_state s) { accepts = b } in h) ((counts_match s.settings s.scores p).1)

cleared : (o : Settings) (xs : List Score) (b : Bool) → cond b (no_scores (score_counts o xs).settings) (score_counts o xs) ≡ score_counts o (cond b [] xs)
cleared o xs true = ap no_scores (settings_kept o xs)
cleared o xs false = refl

-- the counts after an effect are those of the scores after it
pub counts_kept : (o : Settings) (h : Situation) (d : Effect) (xs : List Score) → counts_after h.desk.search_info.score d (score_counts o xs) ≡ score_counts o (scores_after h d xs)
counts_kept o h (Accepts m) xs = cleared o xs (clears_scores m)
counts_kept o h (Shows best hint) xs = refl
counts_kept o h d xs = refl
