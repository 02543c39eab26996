use Rattle.std.proofs.Common.{◌≤◌, ap, length, arith, length-append}
use Rattle.script_lines.specs.Header.{words_text}
use Rattle.script_lines.proofs.Headers.{first_word}
use Rattle.script_lines.proofs.header.put_words.Goals as goal

pub put_word-requires : goal.put_word-requires
put_word-requires c =
    let s = c.args.settings.now in
    let list = c.loop-rest.rest.now in
    let some : 1 ≤ length list = omega (arith, c.in-len1-up.len_at_least) in
    omega (
      arith,
      ap length c.loop-rest.invariant,
      length-append c.loop-rest.text.items (words_text s list),
      length-append c.args.text.now.items (words_text s c.args.list.now),
      first_word s list some,
      c.requires,
    )
