use Rattle.fen_text.proofs.Variants.{read_of_variant}
use Rattle.fen_text.proofs.read.read_is_of_variant.Goals as goal

pub returns : goal.returns
returns c = read_of_variant
