use Rattle.std.proofs.Common.{◌∙◌, sym}
use Rattle.driver_state_machine.proofs.Named.{written_named}
use Rattle.driver_state_machine.proofs.moves.shown_move.Goals as goal

pub returns-in-None : goal.returns-in-None
returns-in-None c =
    written_named c.args.at.now c.args.text.now c.written_move.result
    (sym c.read_legal.ensures ∙ c.in-None.is) c.written_move.ensures
