use Rattle.std.proofs.Common.{◌∙◌, ◌∷◌, ◌++◌, ap, List, ℕ}
use Rattle.script_lines.specs.StepLine.{step_number_line}
use Rattle.script_lines.specs.StepText.{written_marks}
use Rattle.adapter_core.specs.Trace.{iface_text}
use Rattle.replay_commands_on_core.proofs.check.open_numbered.Goals as goal

pub returns : goal.returns
returns c =
    let x = c.step-lines.follows.holds-at-none in
    let iface = c.step-lines.result.iface.now in
    let engine = c.step-lines.result.engine.now in
    record {
      set = c.set.new.self;
      stands = c.set.ensures.stands;
      step = x.step;
      adds = record { event = x.event; extends = x.extends };
      due_is = c.fill_first.ensures ∙ ap (λ (l : List ℕ). step_number_line 0 ++ 10 ∷ written_marks l engine) x.iface_is ∙ ap (λ (l : List ℕ). step_number_line 0 ++ 10 ∷ written_marks (iface_text x.step) l) x.engine_is;
    }
