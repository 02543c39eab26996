use Rattle.std.proofs.Common.{refl}
use Rattle.line_io.specs.Lines.{TooLong}
use Rattle.replay_commands_without_core.proofs.Reading.{puts_unmarked}
use Rattle.replay_commands_without_core.proofs.driver_filter.DriveLineFilter.long.Goals as goal

pub returns-clause-puts : goal.returns-clause-puts
returns-clause-puts c = puts_unmarked c.args.number TooLong c.args.self.now c.args._text.now refl
