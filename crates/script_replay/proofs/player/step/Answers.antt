use Rattle.std.proofs.Common.{◌∙◌, ap, sym, subst, List, ℕ, Option}
use Rattle.line_io.specs.Event.{Event}
use Rattle.line_io.specs.Out.{with}
use Rattle.adapter_core.specs.Trace.{iface_text}
use Rattle.trace_scripts.specs.Script.{IsShortText}
use Rattle.script_lines.specs.StepText.{numbered_marks, marks_of_written}
use Rattle.script_replay.specs.Playing.{text_by}
use Rattle.script_replay.proofs.player.step.Goals as goal

pub returns-in-None-clause-steps : goal.returns-in-None-clause-steps
returns-in-None-clause-steps c =
    let x = c.step-lines.follows.holds-at-none in
    let iface = c.step-lines.result.iface.now in
    let engine = c.step-lines.result.engine.now in
    record {
      step = x.step;
      adds = record { event = x.event; extends = x.extends };
      put = c.put_step.ensures.written ∙ ap (λ (e : Event). with c.args.text.now (marks_of_written e iface engine)) (sym x.event) ∙ ap (λ (l : List ℕ). with c.args.text.now (marks_of_written x.step.event l engine)) x.iface_is
          ∙ ap (λ (l : List ℕ). with c.args.text.now (marks_of_written x.step.event (iface_text x.step) l)) x.engine_is
          ∙ ap (λ (n : Option ℕ). with c.args.text.now (text_by n x.step)) (sym c.in-None.is ∙ c.number.ensures);
      short = (subst IsShortText x.iface_is (record { lines = c.step-lines.ensures.iface_lines; short = c.step-lines.ensures.iface_room }), subst IsShortText x.engine_is (record { lines = c.step-lines.ensures.engine_lines; short = c.step-lines.ensures.engine_room }));
    }

pub returns-in-Some-clause-steps : goal.returns-in-Some-clause-steps
returns-in-Some-clause-steps c =
    let x = c.step-lines.follows.holds-at-none in
    let iface = c.step-lines.result.iface.now in
    let engine = c.step-lines.result.engine.now in
    let n = c.in-Some.number in
    record {
      step = x.step;
      adds = record { event = x.event; extends = x.extends };
      put = c.put_numbered_step.ensures.written ∙ ap (λ (e : Event). with c.args.text.now (numbered_marks n e iface engine)) (sym x.event) ∙ ap (λ (l : List ℕ). with c.args.text.now (numbered_marks n x.step.event l engine)) x.iface_is
          ∙ ap (λ (l : List ℕ). with c.args.text.now (numbered_marks n x.step.event (iface_text x.step) l)) x.engine_is
          ∙ ap (λ (m : Option ℕ). with c.args.text.now (text_by m x.step)) (sym c.in-Some.is ∙ c.number.ensures);
      short = (subst IsShortText x.iface_is (record { lines = c.step-lines.ensures.iface_lines; short = c.step-lines.ensures.iface_room }), subst IsShortText x.engine_is (record { lines = c.step-lines.ensures.engine_lines; short = c.step-lines.ensures.engine_room }));
    }
