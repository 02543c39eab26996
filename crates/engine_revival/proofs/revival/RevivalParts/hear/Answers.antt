use Rattle.std.proofs.Common.{[], ◌++◌, ◌≡◌, ◌≤◌, length, ap, sym, subst, ◌∙◌, arith, length-append}
use Rattle.line_io.specs.Out.{Text}
use Rattle.engine_revival.specs.declared.revival.TheConstants.{UP_ROOM}
use Rattle.engine_revival.specs.Lists.{revival_batch_text}
use Rattle.engine_revival.specs.Dialogue.{said_in}
use Rattle.engine_revival.specs.Rooms.{IsRoomy}
use Rattle.engine_revival.specs.Steps.{line_passed_up, settled_answers, settled_orders}
use Rattle.engine_revival.specs.View.{View}
use Rattle.engine_revival.proofs.Rooms.{hearing_roomy, settled_roomy, given_short}
use Rattle.engine_revival.proofs.Marks.{answers_short, call_marks, no_lines}
use Rattle.engine_revival.proofs.revival.RevivalParts.hear.Goals as goal

pub settle-requires-clause-roomy : goal.settle-requires-clause-roomy
settle-requires-clause-roomy c =
    let h : IsRoomy c.clear.new.self.state = subst IsRoomy (sym (ap (λ (v : View). v.state) c.clear.ensures)) c.requires.keeps.roomy in
    let k : IsRoomy c.hear.new.self = subst IsRoomy (sym c.hear.ensures.state) (hearing_roomy c.clear.new.self.state (said_in c.args.line.now) h) in
    k

pub settle-requires-clause-up : goal.settle-requires-clause-up
settle-requires-clause-up c =
    let was = c.clear.new.self in
    let room : c.hear.new.up.room ≡ was.up.room = ap (λ (t : Text). t.room) c.hear.ensures.up in
    omega (
      arith,
      ap (λ (t : Text). length t.text) c.hear.ensures.up,
      length-append was.up.text (line_passed_up was.state c.args.line.now),
      given_short was.state c.args.line.now,
      ap (λ (v : View). length v.up.text) c.clear.ensures,
      ap (λ (v : View). v.up.room) c.clear.ensures,
      c.requires.keeps.up,
      c.requires.short,
      room,
    )

pub returns-clause-keeps : goal.returns-clause-keeps
returns-clause-keeps c =
    let was = c.clear.new.self in
    let h : IsRoomy c.clear.new.self.state = subst IsRoomy (sym (ap (λ (v : View). v.state) c.clear.ensures)) c.requires.keeps.roomy in
    let k : IsRoomy c.hear.new.self = subst IsRoomy (sym c.hear.ensures.state) (hearing_roomy c.clear.new.self.state (said_in c.args.line.now) h) in
    let up : length c.settle.new.up.text ≤ UP_ROOM = omega (
      arith,
      ap (λ (t : Text). length t.text) c.settle.ensures.up,
      ap (λ (t : Text). length t.text) c.hear.ensures.up,
      length-append c.hear.new.up.text (settled_answers c.hear.new.self),
      length-append was.up.text (line_passed_up was.state c.args.line.now),
      given_short was.state c.args.line.now,
      answers_short c.hear.new.self k,
      ap (λ (v : View). length v.up.text) c.clear.ensures,
      c.requires.short,
    ) in
    let child : c.settle.new.child.text ≡ revival_batch_text [] ++ revival_batch_text (settled_orders c.hear.new.self) =
    ap (λ (t : Text). t.text) c.settle.ensures.child
    ∙ ap (λ (v : View). v.child.text ++ revival_batch_text (settled_orders c.hear.new.self)) c.clear.ensures in
    record {
      roomy = subst IsRoomy (sym c.settle.ensures.state) (settled_roomy c.hear.new.self k);
      up = ap (λ (t : Text). t.room) c.settle.ensures.up ∙ ap (λ (t : Text). t.room) c.hear.ensures.up ∙ ap (λ (v : View). v.up.room) c.clear.ensures ∙ c.requires.keeps.up;
      child = ap (λ (t : Text). t.room) c.settle.ensures.child ∙ ap (λ (v : View). v.child.room) c.clear.ensures ∙ c.requires.keeps.child;
      marks = call_marks c.settle.new.up.text c.settle.new.child.text [] c.hear.new.self up child (omega arith) (no_lines 1) c.settle.ensures.lines k;
    }
