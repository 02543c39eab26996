use Rattle.game_record.proofs.Sames.{same-law}
use Rattle.game_record.proofs.laws.sameness_is_lawful.Goals as goal

pub returns : goal.returns
returns c = same-law
