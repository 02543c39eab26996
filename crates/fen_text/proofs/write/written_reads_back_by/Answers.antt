use Rattle.fen_text.proofs.Back.{reads_back_by}
use Rattle.fen_text.proofs.write.written_reads_back_by.Goals as goal

pub returns : goal.returns
returns c = reads_back_by
