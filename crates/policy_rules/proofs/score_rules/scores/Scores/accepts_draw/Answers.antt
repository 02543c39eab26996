use Rattle.policy_rules.proofs.ScoreRules.Counts.{draws}
use Rattle.policy_rules.proofs.score_rules.scores.Scores.accepts_draw.Goals as goal

pub returns-clause-exact : goal.returns-clause-exact
returns-clause-exact c = λ o xs p e. draws o xs c.args.self.now p e
