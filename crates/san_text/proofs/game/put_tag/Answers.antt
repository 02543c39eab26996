use Rattle.std.proofs.Common.{◌∙◌, ap, sym, true, false, length, arith}
use Rattle.std.specs.Prelude.{codes}
use Rattle.line_io.specs.Out.{with}
use Rattle.line_io.proofs.Puts.{put_none, put_three}
use Rattle.fen_text.specs.Written.{position_fen}
use Rattle.fen_text.proofs.Lengths.{length-written}
use Rattle.game_record.proofs.Lines.{after_put}
use Rattle.san_text.proofs.GameParts.{tag_by}
use Rattle.san_text.proofs.game.put_tag.Goals as goal

pub returns-then-is_standard-clause-text : goal.returns-then-is_standard-clause-text
returns-then-is_standard-clause-text c =
    put_none c.args.out.now
    ∙ ap (with c.args.out.now) (sym (tag_by c.is_standard.result true c.args.start.now c.is_standard.ensures c.if-is_standard.true))

pub returns-clause-text : goal.returns-clause-text
returns-clause-text c =
    put_three c.args.out.now c.put.new.self c.put-2.new.self c.put-3.new.self (codes "[FEN \"") (position_fen c.args.start.now) (codes "\"]\n")
    c.put.ensures (c.put-2.ensures ∙ ap (with c.put.new.self) (c.as_slice.ensures.value ∙ c.write_fen.ensures.text)) c.put-3.ensures
    ∙ ap (with c.args.out.now) (sym (tag_by c.is_standard.result false c.args.start.now c.is_standard.ensures c.if-is_standard.false))

pub put-requires-3 : goal.put-requires-3
put-requires-3 c =
    let fen = length-written c.args.start.now c.facts.ensures.position in
    let text = ap length (c.as_slice.ensures.value ∙ c.write_fen.ensures.text) in
    let first = after_put c.args.out.now c.put.new.self _ c.put.ensures in
    let second = after_put c.put.new.self c.put-2.new.self _ c.put-2.ensures in
    omega arith

pub returns-clause-few : goal.returns-clause-few
returns-clause-few c =
    let fen = length-written c.args.start.now c.facts.ensures.position in
    let text = ap length (c.as_slice.ensures.value ∙ c.write_fen.ensures.text) in
    let first = after_put c.args.out.now c.put.new.self _ c.put.ensures in
    let second = after_put c.put.new.self c.put-2.new.self _ c.put-2.ensures in
    let third = after_put c.put-2.new.self c.put-3.new.self _ c.put-3.ensures in
    omega arith
