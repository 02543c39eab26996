use Rattle.trace_laws.proofs.All.{hold}
use Rattle.script_replay.specs.Versions.{settings_by}
use Rattle.replay_tool.proofs.replay.session_laws.Goals as goal

pub returns : goal.returns
returns c = λ version. hold (settings_by version c.args.settings)
