use Rattle.san_text.proofs.CastlingTexts.{castlings}
use Rattle.san_text.proofs.laws.castlings_are_written.Goals as goal

pub returns : goal.returns
returns c = castlings
