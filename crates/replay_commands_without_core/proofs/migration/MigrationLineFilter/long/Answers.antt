use Rattle.std.proofs.Common.{refl}
use Rattle.line_io.specs.Lines.{TooLong}
use Rattle.replay_commands_without_core.proofs.Lines.{unmarked_put}
use Rattle.replay_commands_without_core.specs.Begun.{unput_beginning}
use Rattle.replay_commands_without_core.proofs.migration.MigrationLineFilter.long.Goals as goal

pub returns-clause-puts : goal.returns-clause-puts
returns-clause-puts c =
    let s = c.args.self.now in
    record {
      more = unput_beginning s.last s.settings;
      put = c.begin.ensures.begins.put;
      goes = λ s0 lines prefix m n. unmarked_put s0 s lines prefix m TooLong c.args.number refl n;
    }
