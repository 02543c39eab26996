use Rattle.game_record.proofs.Sames.{same-law, agree}
use Rattle.game_record.proofs.ending.is_same.Goals as goal

pub returns : goal.returns
returns c = agree _ _ _ c.same.ensures (same-law c.args.p.now c.args.q.now)
