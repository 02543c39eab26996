use Rattle.std.proofs.Common.{◌<◌, ◌∙◌, sym, length, arith}
use Rattle.script_lines.proofs.Rooms.{cut_room, not_zero}
use Rattle.random_games.proofs.Counting.{one_line}
use Rattle.random_games.proofs.tally.count_lines.Goals as goal

pub loop-rest-preserved : goal.loop-rest-preserved
loop-rest-preserved c =
    let some : 0 < length c.loop-rest.rest.now = not_zero _ (sym c.is_empty.ensures ∙ c.loop-rest-test.true) in
    let more = one_line c.loop-rest.rest.now c.split_line.result.1.now some c.split_line.ensures.rest in
    let shorter = cut_room c.loop-rest.rest.now c.split_line.result.0.now c.split_line.result.1.now some c.split_line.ensures.line c.split_line.ensures.rest in
    record {
      lines = omega (arith, more, c.loop-rest.invariant.lines);
      few = omega (arith, shorter.1, c.loop-rest.invariant.few);
    }
