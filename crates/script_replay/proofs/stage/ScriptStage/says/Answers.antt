use Rattle.std.proofs.Common.{◌≡◌, ◌∙◌, suc, ◌+◌, ◌<◌, ◌^◌, sym, ap, subst, arith}
use Rattle.script_lines.specs.StepLine.{step_number}
use Rattle.script_replay.specs.declared.stage.LineKind.TheVariants as kinds
use Rattle.script_replay.specs.declared.stage.ScriptStage.{ScriptStage}
use Rattle.script_replay.specs.declared.stage.ScriptStage.TheVariants as stages
use Rattle.script_replay.specs.Stages.{kind, IsNumbered}
use Rattle.script_replay.specs.Versions.{LineKind, Numbers, kind_says, number_says}
use Rattle.script_replay.proofs.stage.ScriptStage.says.Goals as goal

pub returns-in-AfterEvent-Numbers : goal.returns-in-AfterEvent-Numbers
returns-in-AfterEvent-Numbers c =
    let last = c.in-AfterEvent-Numbers.last in
    let n = c.in-AfterEvent-Numbers.number in
    let ends = c.args.core.now.ends in
    let self_is : c.args.self ≡ stages.AfterEvent last = let a = c.in-AfterEvent-Numbers.is-0 in let b = c.in-AfterEvent-Numbers.last-is in cc in
    let line_is : c.kind_of.result ≡ kinds.Numbers n = let a = c.in-AfterEvent-Numbers.is-1 in let b = c.in-AfterEvent-Numbers.number-is in cc in
    let below : last < 10 ^ 18 = subst IsNumbered self_is c.requires in
    let small : last ≡ step_number last = omega (arith, below) in
    let next = c.next_number.ensures.next last small ∙ ap step_number (let z : suc last ≡ last + 1 = omega arith in z) in
    c.number_says-in-AfterEvent-Numbers.ensures ∙ ap (λ k. number_says k n) next
    ∙ sym (ap (λ (k : LineKind). kind_says c.args.self ends k) (sym c.kind_of.ensures ∙ ap kind line_is) ∙ ap (λ (s : ScriptStage). kind_says s ends (Numbers n)) self_is)
