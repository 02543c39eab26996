use Rattle.std.proofs.Common.{ap, ◌∙◌}
use Rattle.policy_rules.specs.ScoreRules.Scores.{no_scores}
use Rattle.policy_rules.specs.declared.score_rules.scores.Scores.{Scores}
use Rattle.policy_rules.proofs.ScoreRules.Counts.{settings_kept}
use Rattle.policy_rules.proofs.score_rules.scores.Scores.clear.Goals as goal

pub returns-clause-counts : goal.returns-clause-counts
returns-clause-counts c = λ o xs e. ap no_scores (ap (λ (s : Scores). s.settings) e ∙ settings_kept o xs)
