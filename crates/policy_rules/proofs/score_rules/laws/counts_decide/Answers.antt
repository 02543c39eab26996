use Rattle.policy_rules.proofs.ScoreRules.Counts.{counts_match, tests_match}
use Rattle.policy_rules.proofs.score_rules.laws.counts_decide.Goals as goal

pub returns : goal.returns
returns c = record { counts = counts_match; tests = tests_match }
