use Rattle.san_text.proofs.Written.{read_back, texts_differ}
use Rattle.san_text.proofs.laws.texts_tell_moves_apart.Goals as goal

pub returns : goal.returns
returns c = record { read_back = read_back; differ = texts_differ }
