use Rattle.std.proofs.Common.{refl}
use Rattle.replay_commands_without_core.proofs.Playing.{closes_by}
use Rattle.replay_commands_without_core.proofs.reviver.ReviverLineFilter.finish.Goals as goal

pub returns-clause-closes : goal.returns-clause-closes
returns-clause-closes c = closes_by c.args.ending c.args.self.now c.args._text.now c.args._text.now c.requires.ends refl
