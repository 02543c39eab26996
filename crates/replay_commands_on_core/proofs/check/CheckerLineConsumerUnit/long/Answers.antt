use Rattle.std.proofs.Common.{refl}
use Rattle.line_io.specs.Lines.{TooLong}
use Rattle.replay_commands_on_core.proofs.Checkers.{on_long}
use Rattle.replay_commands_on_core.proofs.check.CheckerLineConsumerUnit.long.Goals as goal

pub returns-clause-takes : goal.returns-clause-takes
returns-clause-takes c = λ s0 o0 pieces t n o unread. on_long o c.args.self.now pieces (t o unread) TooLong c.args.number n refl
