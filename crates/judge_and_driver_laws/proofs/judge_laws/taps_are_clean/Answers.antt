use Rattle.judge_and_driver_laws.proofs.Judge.Tapped as tapped
use Rattle.judge_and_driver_laws.proofs.judge_laws.taps_are_clean.Goals as goal

pub returns : goal.returns
returns c = tapped.taps_are_clean
