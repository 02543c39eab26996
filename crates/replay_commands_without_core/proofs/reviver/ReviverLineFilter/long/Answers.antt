use Rattle.replay_commands_without_core.proofs.Playing.{puts_long}
use Rattle.replay_commands_without_core.proofs.reviver.ReviverLineFilter.long.Goals as goal

pub returns-clause-puts : goal.returns-clause-puts
returns-clause-puts c = puts_long c.args.number c.args.self.now c.args._text.now
