use Rattle.adapter_core.proofs.Refused.{nothing_changes}
use Rattle.adapter_core.proofs.Shown.{shown, once}
use Rattle.adapter_core.proofs.laws.moves_are_shown_in_time.Goals as goal

pub returns : goal.returns
returns c = record { shown = shown c.args.settings; once = once c.args.settings; refused = nothing_changes c.args.settings }
