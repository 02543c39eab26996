use Rattle.std.proofs.Common.{◌∙◌, [], ◌∷◌, ap, subst, refl}
use Rattle.line_io.specs.Event.{Open}
use Rattle.line_io.specs.Out.{Text, with}
use Rattle.script_replay.specs.declared.stage.ScriptStage.TheVariants as stages
use Rattle.script_replay.specs.Playing.{StepIsPut}
use Rattle.script_replay.proofs.Players.{may_open}
use Rattle.script_replay.proofs.player.Player.open_numbered.Goals as goal

pub step-requires-clause-may : goal.step-requires-clause-may
step-requires-clause-may c = may_open c.args.settings.now c.set.new.self c.set.ensures.stands

pub returns-clause-begun : goal.returns-clause-begun
returns-clause-begun c =
    let put = c.put.ensures ∙ ap (λ (t : Text). with t (10 ∷ [])) c.write_header.ensures.written in
    (c.set.new.self, c.set.ensures.stands, subst (λ (t : Text). StepIsPut (stages.Numbered 0) c.set.new.self c.step.new.core Open t c.step.new.text) put c.step.ensures.steps, refl)
