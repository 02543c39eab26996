use Rattle.game_record.proofs.Lines.{standard-law}
use Rattle.game_record.proofs.laws.standard_start_is_one.Goals as goal

pub returns : goal.returns
returns c = standard-law
