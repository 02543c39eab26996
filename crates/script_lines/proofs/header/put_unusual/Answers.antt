use Rattle.std.proofs.Common.{◌≤◌, ap, length, arith, length-append}
use Rattle.script_lines.specs.Header.{unusual_text}
use Rattle.script_lines.proofs.Headers.{first_unusual}
use Rattle.script_lines.proofs.header.put_unusual.Goals as goal

pub put_if_unusual-requires : goal.put_if_unusual-requires
put_if_unusual-requires c =
    let s = c.args.settings.now in
    let list = c.loop-rest.rest.now in
    let some : 1 ≤ length list = omega (arith, c.in-len1-up.len_at_least) in
    omega (
      arith,
      ap length c.loop-rest.invariant,
      length-append c.loop-rest.text.items (unusual_text s list),
      length-append c.args.text.now.items (unusual_text s c.args.list.now),
      first_unusual s list some,
      c.requires,
    )
