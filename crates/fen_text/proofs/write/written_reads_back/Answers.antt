use Rattle.fen_text.proofs.Back.{reads_back}
use Rattle.fen_text.proofs.write.written_reads_back.Goals as goal

pub returns : goal.returns
returns c = reads_back
