use Rattle.std.proofs.Common.{[], ◌++◌, ◌≡◌, ◌≤◌, length, ap, sym, subst, ◌∙◌, arith, length-append}
use Rattle.line_io.specs.Out.{Text}
use Rattle.engine_revival.specs.declared.revival.TheConstants.{UP_ROOM}
use Rattle.engine_revival.specs.Lists.{revival_batch_text}
use Rattle.engine_revival.specs.Rooms.{IsRoomy}
use Rattle.engine_revival.specs.Steps.{settled_answers, settled_orders}
use Rattle.engine_revival.specs.View.{View}
use Rattle.engine_revival.proofs.Rooms.{over_roomy, settled_roomy}
use Rattle.engine_revival.proofs.Marks.{answers_short, call_marks, no_lines}
use Rattle.engine_revival.proofs.revival.RevivalParts.close.Goals as goal

pub returns-clause-keeps : goal.returns-clause-keeps
returns-clause-keeps c =
    let was = c.clear.new.self in
    let h : IsRoomy c.clear.new.self.state = subst IsRoomy (sym (ap (λ (v : View). v.state) c.clear.ensures)) c.requires.keeps.roomy in
    let k : IsRoomy c.close.new.self = subst IsRoomy (sym c.close.ensures) (over_roomy c.clear.new.self.state h) in
    let up : length c.settle.new.up.text ≤ UP_ROOM = omega (
      arith,
      ap (λ (t : Text). length t.text) c.settle.ensures.up,
      length-append was.up.text (settled_answers c.close.new.self),
      answers_short c.close.new.self k,
      ap (λ (v : View). length v.up.text) c.clear.ensures,
    ) in
    let child : c.settle.new.child.text ≡ revival_batch_text [] ++ revival_batch_text (settled_orders c.close.new.self) =
    ap (λ (t : Text). t.text) c.settle.ensures.child
    ∙ ap (λ (v : View). v.child.text ++ revival_batch_text (settled_orders c.close.new.self)) c.clear.ensures in
    record {
      roomy = subst IsRoomy (sym c.settle.ensures.state) (settled_roomy c.close.new.self k);
      up = ap (λ (t : Text). t.room) c.settle.ensures.up ∙ ap (λ (v : View). v.up.room) c.clear.ensures ∙ c.requires.keeps.up;
      child = ap (λ (t : Text). t.room) c.settle.ensures.child ∙ ap (λ (v : View). v.child.room) c.clear.ensures ∙ c.requires.keeps.child;
      marks = call_marks c.settle.new.up.text c.settle.new.child.text [] c.close.new.self up child (omega arith) (no_lines 1) c.settle.ensures.lines k;
    }
