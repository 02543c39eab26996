use Rattle.std.proofs.Common.{◌<◌, List, ℕ, ap, length, length-append, arith}
use Rattle.std.proofs.lemmas.Bool.Decides.{nat_tests}
use Rattle.engine_revival.specs.Lists.{revival_batch_text}
use Rattle.engine_revival.specs.Steps.{readies}
use Rattle.engine_revival.proofs.Marks.{readies_length}
use Rattle.engine_revival.proofs.written_lines.put_readies.Goals as goal

pub put_ready-requires : goal.put_ready-requires
put_ready-requires c =
    let some : 0 < c.loop-left.left = grind (arith, nat_tests, c.loop-left-test.true) in
    omega (
      arith,
      some,
      c.requires,
      c.loop-left.invariant.same,
      ap (λ (t : List ℕ). length t) c.loop-left.invariant.written,
      length-append c.loop-left.out.text (revival_batch_text (readies c.loop-left.left)),
      length-append c.args.out.now.text (revival_batch_text (readies c.args.times)),
      readies_length c.loop-left.left,
      readies_length c.args.times,
    )
