use Rattle.san_text.proofs.GameSans.{san-law}
use Rattle.san_text.proofs.game_laws.sans_are_lawful.Goals as goal

pub returns : goal.returns
returns c = san-law
