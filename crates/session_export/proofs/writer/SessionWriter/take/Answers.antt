use Rattle.std.proofs.Common.{◌≡◌, ◌∙◌, ℕ, [], refl, sym, ap, subst}
use Rattle.line_io.specs.Lines.{Whole}
use Rattle.line_io.proofs.Puts.{put_none}
use Rattle.script_replay.specs.declared.stage.ScriptStage.{ScriptStage}
use Rattle.script_replay.specs.declared.stage.ScriptStage.TheVariants as stages
use Rattle.script_replay.specs.Stages.{IsNumbered, line_said_of}
use Rattle.script_replay.specs.Versions.{LineSaid, kind_of_script_line, stage_started}
use Rattle.script_replay.proofs.Plays.{comes_may, starts_numbered}
use Rattle.session_export.specs.Writing.{ExportsLine}
use Rattle.session_export.proofs.writer.SessionWriter.take.Goals as goal

no_start : (stage : ScriptStage) (n : ℕ) → stage_started stage n ≡ stages.Start → ⊥
no_start stages.Start n e = cc
no_start stages.Plain n e = cc
no_start stages.Headed n e = cc
no_start (stages.AfterEvent k) n e = cc
no_start (stages.Numbered k) n e = cc

pub step-requires-clause-may : goal.step-requires-clause-may
step-requires-clause-may g c =
    comes_may c.args.self.now.stage c.args.self.now.core.ends (kind_of_script_line (Whole c.args.line.now)) _ (sym c.says.ensures ∙ ap line_said_of c.in-Comes.is)

pub returns-in-Starts-clause-takes : goal.returns-in-Starts-clause-takes
returns-in-Starts-clause-takes g c =
    let self = c.args.self.now in
    record {
      more = [];
      put = put_none c.args.text.now;
      holds = subst (λ (s : LineSaid). ExportsLine g.T.StepExporter.means c.args.number self.core self.stage s self.core c.started-self.result []) (sym (ap line_said_of c.in-Starts.is) ∙ c.says.ensures)
          (refl, c.started-self.ensures, refl);
    }

pub returns-in-Starts-clause-may : goal.returns-in-Starts-clause-may
returns-in-Starts-clause-may g c = record {
  new = λ s. absurd (no_start c.args.self.now.stage c.in-Starts.step (sym c.started-self.ensures ∙ s));
  at = λ _. c.requires.may.at c.requires.opened;
  numbered = subst IsNumbered (sym c.started-self.ensures)
      (starts_numbered c.args.self.now.stage c.args.self.now.core.ends (kind_of_script_line (Whole c.args.line.now)) _ (sym c.says.ensures ∙ ap line_said_of c.in-Starts.is));
  reached = c.requires.may.reached;
}
