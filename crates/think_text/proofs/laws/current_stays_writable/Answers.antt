use Rattle.think_text.proofs.Legal.{stays_writable}
use Rattle.think_text.proofs.laws.current_stays_writable.Goals as goal

pub returns : goal.returns
returns c = stays_writable
