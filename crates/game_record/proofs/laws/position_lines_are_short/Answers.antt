use Rattle.game_record.proofs.Lines.{short-law}
use Rattle.game_record.proofs.laws.position_lines_are_short.Goals as goal

pub returns : goal.returns
returns c = short-law
