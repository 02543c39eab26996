use Rattle.std.proofs.Common.{◌<◌, List, ℕ, ap, length, length-append, arith}
use Rattle.std.proofs.lemmas.Bool.Decides.{nat_tests}
use Rattle.engine_revival.specs.Steps.{readyoks}
use Rattle.engine_revival.proofs.Marks.{readyoks_length}
use Rattle.engine_revival.proofs.written_lines.put_readyoks.Goals as goal

pub put-requires : goal.put-requires
put-requires c =
    let some : 0 < c.loop-left.left = grind (arith, nat_tests, c.loop-left-test.true) in
    omega (
      arith,
      some,
      c.requires,
      c.loop-left.invariant.same,
      ap (λ (t : List ℕ). length t) c.loop-left.invariant.written,
      length-append c.loop-left.up.text (readyoks c.loop-left.left),
      length-append c.args.up.now.text (readyoks c.args.times),
      readyoks_length c.loop-left.left,
      readyoks_length c.args.times,
    )
