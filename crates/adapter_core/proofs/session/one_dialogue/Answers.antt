use Rattle.adapter_core.proofs.Unique.{unique}
use Rattle.adapter_core.proofs.session.one_dialogue.Goals as goal

pub returns : goal.returns
returns c = unique c.args.settings
