use Rattle.trace_scripts.proofs.Numbered.{one_trace, one_session}
use Rattle.trace_scripts.proofs.scripts_have_one_trace.Goals as goal

pub returns : goal.returns
returns c =
    let o = c.args.settings in
    record { version_1 = one_trace o c.one_dialogue.ensures; version_2 = one_session o c.one_dialogue.ensures }
