use Rattle.fen_text.proofs.Lengths.{length-written}
use Rattle.fen_text.proofs.write.written_is_short.Goals as goal

pub returns : goal.returns
returns c = length-written
