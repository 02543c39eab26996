use Rattle.trace_laws.proofs.Asked.{last_stands, searches_have}
use Rattle.trace_laws.proofs.settings.last_settings_stand.Goals as goal

pub returns : goal.returns
returns c = record { stand = last_stands c.args.settings; searches = searches_have c.args.settings }
