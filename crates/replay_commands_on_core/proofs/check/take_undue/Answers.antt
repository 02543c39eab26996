use Rattle.std.proofs.Common.{◌∙◌, sym, ap, subst}
use Rattle.line_io.specs.Lines.{Whole}
use Rattle.script_replay.specs.Stages.{line_said_of}
use Rattle.script_replay.specs.Versions.{kind_of_script_line}
use Rattle.replay_commands_on_core.specs.Walked.{StageIsOpen}
use Rattle.script_replay.proofs.Plays.{comes_may}
use Rattle.replay_commands_on_core.proofs.StageLines.{starts_open}
use Rattle.replay_commands_on_core.proofs.check.take_undue.Goals as goal

pub step-requires : goal.step-requires
step-requires c =
    comes_may c.args.stage.now c.args.core.now.ends (kind_of_script_line (Whole c.args.line.now)) _ (sym c.says.ensures ∙ ap line_said_of c.in-Comes.is)

pub returns-else-over-clause-open : goal.returns-else-over-clause-open
returns-else-over-clause-open c = subst StageIsOpen (sym c.started.ensures)
    (starts_open c.args.stage.now c.args.core.now.ends (kind_of_script_line (Whole c.args.line.now)) _ c.requires (sym c.says.ensures ∙ ap line_said_of c.in-Starts.is))
