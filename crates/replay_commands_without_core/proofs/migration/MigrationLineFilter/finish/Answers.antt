use Rattle.replay_commands_without_core.proofs.Lines.{finished_put}
use Rattle.replay_commands_without_core.specs.Begun.{unput_beginning}
use Rattle.replay_commands_without_core.proofs.migration.MigrationLineFilter.finish.Goals as goal

pub returns-clause-closes : goal.returns-clause-closes
returns-clause-closes c =
    let s = c.args.self.now in
    record {
      more = unput_beginning s.last s.settings;
      put = c.begin.ensures.begins.put;
      says = λ s0 lines prefix m. finished_put s0 s lines prefix m c.args.ending c.requires.ending;
    }
