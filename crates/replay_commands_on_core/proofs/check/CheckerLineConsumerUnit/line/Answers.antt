use Rattle.std.proofs.Common.{refl}
use Rattle.line_io.specs.Lines.{Whole}
use Rattle.replay_commands_on_core.proofs.Checkers.{on_line, then_by}
use Rattle.replay_commands_on_core.proofs.StageLines.{open_takes}
use Rattle.replay_commands_on_core.proofs.check.CheckerLineConsumerUnit.line.Goals as goal

pub returns-clause-may : goal.returns-clause-may
returns-clause-may c = λ e. open_takes c.take_any.new.core c.take_any.new.stage c.take_any.ensures.open

pub returns-clause-takes : goal.returns-clause-takes
returns-clause-takes c = λ s0 o0 pieces t n.
    then_by s0 o0 _ c.take_any.result _ _ (λ o unread.
    on_line o c.args.self.now pieces (t o unread) (Whole c.args.line.now) c.args.number n c.args.line.now refl c.take_any.result c.take_any.new.core c.take_any.new.stage c.take_any.new.due
    (open_takes c.take_any.new.core c.take_any.new.stage c.take_any.ensures.open) c.take_any.ensures.taken)
