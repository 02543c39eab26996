use Rattle.fen_text.proofs.Normal.{read_normal}
use Rattle.fen_text.proofs.read.read_is_normal.Goals as goal

pub returns : goal.returns
returns c = read_normal
