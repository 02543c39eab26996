use Rattle.replay_commands_without_core.proofs.Reading.{closes}
use Rattle.replay_commands_without_core.proofs.driver_filter.DriveLineFilter.finish.Goals as goal

pub returns-clause-closes : goal.returns-clause-closes
returns-clause-closes c = closes c.args.ending c.args.self.now c.args._text.now c.requires.ending
