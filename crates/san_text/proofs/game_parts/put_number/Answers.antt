use Rattle.std.proofs.Common.{◌∙◌, ap, length, arith}
use Rattle.game_record.proofs.Lines.{after_put}
use Rattle.san_text.proofs.GameParts.{length-number}
use Rattle.san_text.proofs.game_parts.put_number.Goals as goal

pub put-requires : goal.put-requires
put-requires c =
    let digits = length-number c.args.number c.requires.small in
    let text = ap length (c.as_bytes.ensures.value ∙ c.format.ensures.text) in
    omega arith

pub put-requires-2 : goal.put-requires-2
put-requires-2 c =
    let digits = length-number c.args.number c.requires.small in
    let text = ap length (c.as_bytes.ensures.value ∙ c.format.ensures.text) in
    let first = after_put c.args.out.now c.put.new.self _ c.put.ensures in
    omega arith

pub put-requires-3 : goal.put-requires-3
put-requires-3 c =
    let digits = length-number c.args.number c.requires.small in
    let text = ap length (c.as_bytes.ensures.value ∙ c.format.ensures.text) in
    let first = after_put c.args.out.now c.put.new.self _ c.put.ensures in
    let second = after_put c.put.new.self c.put-2.new.self _ c.put-2.ensures in
    omega arith

pub returns-clause-few : goal.returns-clause-few
returns-clause-few c =
    let digits = length-number c.args.number c.requires.small in
    let text = ap length (c.as_bytes.ensures.value ∙ c.format.ensures.text) in
    let first = after_put c.args.out.now c.put.new.self _ c.put.ensures in
    let second = after_put c.put.new.self c.put-2.new.self _ c.put-2.ensures in
    let third = after_put c.put-2.new.self c.put-3.new.self _ c.put-3.ensures in
    omega arith
