use Rattle.program_lifecycle.proofs.ByArguments.{does_by_words}
use Rattle.tap_runner.specs.Tapped.{TapLeaves}
use Rattle.tap_runner.specs.Recorded.{TapRunIsWhole}
use Rattle.tap_runner.specs.Program.{program}
use Rattle.tap_runner.proofs.main_call.tap_main.Goals as goal

pub returns : goal.returns
returns g c =
    does_by_words program (TapLeaves _ _) TapRunIsWhole _ _ _ _ _ _ _ _ _ c.finish.ensures.status c.finish.ensures.reported c.end_of-ending.ensures.ends c.end_of-ending.ensures.asked
    (λ f left. left.whole) (λ f left e. left.nothing (left.unstarted e))
