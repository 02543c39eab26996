use Rattle.session_judge.proofs.Differences.{differences}
use Rattle.session_judge.proofs.judge.crossings_are_the_difference.Goals as goal

pub returns : goal.returns
returns c = differences
