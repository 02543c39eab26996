use Rattle.std.proofs.Common.{◌++◌, ◌≡◌, ◌≤◌, ◌+◌, length, ap, sym, subst, ◌∙◌, arith, length-append}
use Rattle.line_io.specs.Out.{Text}
use Rattle.engine_revival.specs.declared.revival.TheConstants.{UP_ROOM}
use Rattle.engine_revival.specs.declared.state.TheConstants.{MOST_LINE}
use Rattle.engine_revival.specs.Lists.{revival_batch_text}
use Rattle.engine_revival.specs.Rooms.{IsRoomy}
use Rattle.engine_revival.specs.Steps.{at_once, settled_answers, settled_orders}
use Rattle.engine_revival.specs.View.{View}
use Rattle.engine_revival.proofs.Rooms.{ordering_roomy, settled_roomy}
use Rattle.engine_revival.proofs.Marks.{answers_short, call_marks, at_once_lines}
use Rattle.engine_revival.proofs.revival.RevivalParts.order.Goals as goal

pub settle-requires-clause-roomy : goal.settle-requires-clause-roomy
settle-requires-clause-roomy c =
    let h : IsRoomy c.clear.new.self.state = subst IsRoomy (sym (ap (λ (v : View). v.state) c.clear.ensures)) c.requires.keeps.roomy in
    let k : IsRoomy c.order.new.self = subst IsRoomy (sym c.order.ensures.state) (ordering_roomy c.clear.new.self.state c.args.line.now c.requires.short h) in
    k

pub returns-clause-keeps : goal.returns-clause-keeps
returns-clause-keeps c =
    let was = c.clear.new.self in
    let h : IsRoomy c.clear.new.self.state = subst IsRoomy (sym (ap (λ (v : View). v.state) c.clear.ensures)) c.requires.keeps.roomy in
    let k : IsRoomy c.order.new.self = subst IsRoomy (sym c.order.ensures.state) (ordering_roomy c.clear.new.self.state c.args.line.now c.requires.short h) in
    let up : length c.settle.new.up.text ≤ UP_ROOM = omega (
      arith,
      ap (λ (t : Text). length t.text) c.settle.ensures.up,
      length-append was.up.text (settled_answers c.order.new.self),
      answers_short c.order.new.self k,
      ap (λ (v : View). length v.up.text) c.clear.ensures,
    ) in
    let child : c.settle.new.child.text ≡ revival_batch_text (at_once was.state c.args.line.now) ++ revival_batch_text (settled_orders c.order.new.self) =
    ap (λ (t : Text). t.text) c.settle.ensures.child
    ∙ ap (λ (t : Text). t.text ++ revival_batch_text (settled_orders c.order.new.self)) c.order.ensures.child
    ∙ ap (λ (v : View). (v.child.text ++ revival_batch_text (at_once was.state c.args.line.now)) ++ revival_batch_text (settled_orders c.order.new.self)) c.clear.ensures in
    let short : length (revival_batch_text (at_once was.state c.args.line.now)) ≤ MOST_LINE + 1 = omega (
      arith,
      c.order.ensures.short,
      ap (λ (t : Text). length t.text) c.order.ensures.child,
      length-append was.child.text (revival_batch_text (at_once was.state c.args.line.now)),
    ) in
    record {
      roomy = subst IsRoomy (sym c.settle.ensures.state) (settled_roomy c.order.new.self k);
      up = ap (λ (t : Text). t.room) c.settle.ensures.up ∙ ap (λ (v : View). v.up.room) c.clear.ensures ∙ c.requires.keeps.up;
      child = ap (λ (t : Text). t.room) c.settle.ensures.child ∙ ap (λ (t : Text). t.room) c.order.ensures.child ∙ ap (λ (v : View). v.child.room) c.clear.ensures ∙ c.requires.keeps.child;
      marks = call_marks c.settle.new.up.text c.settle.new.child.text (at_once was.state c.args.line.now) c.order.new.self up child short (at_once_lines was.state c.args.line.now c.requires.one_line) c.settle.ensures.lines k;
    }
