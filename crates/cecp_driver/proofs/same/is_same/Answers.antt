use Rattle.game_record.proofs.Sames.{same-law, agree}
use Rattle.cecp_driver.proofs.same.is_same.Goals as goal

pub returns : goal.returns
returns c = agree _ _ _ c.same.ensures (same-law c.args.a.now c.args.b.now)
