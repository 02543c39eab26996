use Rattle.std.proofs.Common.{◌<◌, ◌++◌, ◌∙◌, ap, sym, length, arith}
use Rattle.line_io.specs.Out.{Text}
use Rattle.script_lines.specs.StepText.{lines_marked}
use Rattle.script_lines.proofs.Rooms.{lines_more, not_zero}
use Rattle.engine_revival.proofs.Marks.{marked_room}
use Rattle.engine_revival.proofs.script.put_lines.Goals as goal

pub put_line-requires : goal.put_line-requires
put_line-requires c =
    let rest = c.loop-rest.rest.now in
    let some : 0 < length rest = not_zero _ (sym c.is_empty.ensures ∙ c.loop-rest-test.true) in
    let room = marked_room c.args.letter c.loop-rest.text.text rest c.split_line.result.0.now c.args.text.now.text c.args.lines.now c.args.text.now.room some c.split_line.ensures.line c.loop-rest.invariant.written c.requires in
    omega (arith, room, c.loop-rest.invariant.same)

pub loop-rest-preserved : goal.loop-rest-preserved
loop-rest-preserved c =
    let some : 0 < length c.loop-rest.rest.now = not_zero _ (sym c.is_empty.ensures ∙ c.loop-rest-test.true) in
    let text = ap (λ (t : Text). t.text) c.put_line.ensures in
    let room = ap (λ (t : Text). t.room) c.put_line.ensures in
    record {
      written = ap (λ l. l ++ lines_marked c.args.letter c.split_line.result.1.now) text ∙ lines_more c.args.letter c.loop-rest.text.text c.loop-rest.rest.now _ _ c.args.text.now.text c.args.lines.now some c.split_line.ensures.line c.split_line.ensures.rest c.loop-rest.invariant.written;
      same = room ∙ c.loop-rest.invariant.same;
    }
