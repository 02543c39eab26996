use Rattle.policy_rules.proofs.ScoreRules.Counts.{resigns_on, resigns_off}
use Rattle.policy_rules.proofs.score_rules.scores.Scores.resigns.Goals as goal

pub returns-then-self-clause-exact : goal.returns-then-self-clause-exact
returns-then-self-clause-exact c = λ o xs p e. resigns_on o xs c.args.self.now p e c.if-self.true

pub returns-else-self-clause-exact : goal.returns-else-self-clause-exact
returns-else-self-clause-exact c = λ o xs p e. resigns_off o xs c.args.self.now p e c.if-self.false
