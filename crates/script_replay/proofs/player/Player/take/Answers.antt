use Rattle.std.proofs.Common.{◌∙◌, sym, ap, subst}
use Rattle.line_io.specs.Lines.{Whole}
use Rattle.script_replay.specs.Stages.{IsNumbered, line_said_of}
use Rattle.script_replay.specs.Versions.{kind_of_script_line}
use Rattle.script_replay.proofs.Plays.{comes_may, starts_numbered, announced_numbered}
use Rattle.script_replay.proofs.player.Player.take.Goals as goal

pub step-requires-clause-may : goal.step-requires-clause-may
step-requires-clause-may c =
    comes_may c.args.self.now.stage c.args.self.now.core.ends (kind_of_script_line (Whole c.args.line.now)) _ (sym c.says.ensures ∙ ap line_said_of c.in-Comes.is)

pub returns-in-Comes-clause-stage : goal.returns-in-Comes-clause-stage
returns-in-Comes-clause-stage c = subst IsNumbered (sym c.after_event-self.ensures) (announced_numbered c.args.self.now.stage c.requires.stage)

pub returns-in-Starts-clause-stage : goal.returns-in-Starts-clause-stage
returns-in-Starts-clause-stage c =
    subst IsNumbered (sym c.started-self.ensures)
    (starts_numbered c.args.self.now.stage c.args.self.now.core.ends (kind_of_script_line (Whole c.args.line.now)) _ (sym c.says.ensures ∙ ap line_said_of c.in-Starts.is))
