use Rattle.std.proofs.Common.{refl}
use Rattle.reviver_runner.proofs.HearSteps.{going_first, keeps_same, keeps_both}
use Rattle.reviver_runner.proofs.looping.life_loop.Goals as goal

pub loop-init : goal.loop-init
loop-init g c = record { keeps = keeps_same _ c.requires.ready; alive = c.requires.alive; close_sink = λ a b. cc; going = going_first _ _ }
