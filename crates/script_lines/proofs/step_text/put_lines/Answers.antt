use Rattle.std.proofs.Common.{◌<◌, ◌++◌, ◌∷◌, [], ◌∙◌, ap, sym, length, arith, length-append}
use Rattle.line_io.specs.Out.{Text}
use Rattle.script_lines.specs.Marks.{line_marked}
use Rattle.script_lines.specs.StepText.{lines_marked}
use Rattle.script_lines.proofs.Rooms.{lines_more, cut_room, not_zero}
use Rattle.script_lines.proofs.step_text.put_lines.Goals as goal

pub put_line-requires : goal.put_line-requires
put_line-requires c =
    let r = cut_room c.loop-rest.rest.now c.split_line.result.0.now c.split_line.result.1.now (not_zero _ (sym c.is_empty.ensures ∙ c.loop-rest-test.true)) c.split_line.ensures.line c.split_line.ensures.rest in
    omega (arith, c.loop-rest.invariant.same)

pub loop-rest-preserved : goal.loop-rest-preserved
loop-rest-preserved c =
    let some : 0 < length c.loop-rest.rest.now = not_zero _ (sym c.is_empty.ensures ∙ c.loop-rest-test.true) in
    let text = ap (λ (t : Text). t.text) c.put_line.ensures in
    let room = ap (λ (t : Text). t.room) c.put_line.ensures in
    let r = cut_room c.loop-rest.rest.now c.split_line.result.0.now c.split_line.result.1.now some c.split_line.ensures.line c.split_line.ensures.rest in
    record {
      written = ap (λ l. l ++ lines_marked c.args.letter c.split_line.result.1.now) text ∙ lines_more c.args.letter c.loop-rest.out.text c.loop-rest.rest.now _ _ c.args.out.now.text c.args.text.now some c.split_line.ensures.line c.split_line.ensures.rest c.loop-rest.invariant.written;
      same = room ∙ c.loop-rest.invariant.same;
      room = omega (arith, ap length text, length-append c.loop-rest.out.text (line_marked c.args.letter c.split_line.result.0.now), length-append c.split_line.result.0.now (10 ∷ []), c.loop-rest.invariant.room);
    }
