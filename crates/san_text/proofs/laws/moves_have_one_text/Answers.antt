use Rattle.san_text.proofs.Lengths.{short}
use Rattle.san_text.proofs.Signs.{the_text}
use Rattle.san_text.proofs.laws.moves_have_one_text.Goals as goal

pub returns : goal.returns
returns c = record { one = the_text; short = short }
