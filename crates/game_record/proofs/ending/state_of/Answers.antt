use Rattle.game_record.proofs.States.{state-law, one_state}
use Rattle.game_record.proofs.ending.state_of.Goals as goal

pub returns : goal.returns
returns c = one_state c.args.p.now _ _ c.state.ensures (state-law c.args.p.now)
