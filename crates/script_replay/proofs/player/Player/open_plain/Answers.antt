use Rattle.std.proofs.Common.{refl}
use Rattle.script_replay.proofs.Players.{may_open}
use Rattle.script_replay.proofs.player.Player.open_plain.Goals as goal

pub step-requires-clause-may : goal.step-requires-clause-may
step-requires-clause-may c = may_open c.args.self.now.core.settings c.args.self.now.core c.requires.new

pub returns-clause-begun : goal.returns-clause-begun
returns-clause-begun c = (c.step.ensures.steps, refl)
