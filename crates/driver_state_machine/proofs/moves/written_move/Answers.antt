use Rattle.driver_state_machine.proofs.Named.{unread, long_written}
use Rattle.driver_state_machine.proofs.moves.written_move.Goals as goal

pub returns-in-Err : goal.returns-in-Err
returns-in-Err c =
    long_written c.args.at.now c.args.text.now c.read_long_form.result
    (unread c.args.at.now c.args.text.now c.in-Err.field-0 c.in-Err.ensures.read) c.read_long_form.ensures
