-- The text of the start, by the test for the standard one.
use Rattle.std.proofs.Common.{◌∙◌, ap, sym, true, false, length, arith, length-append}
use Rattle.std.specs.Prelude.{codes}
use Rattle.line_io.specs.Out.{with}
use Rattle.line_io.proofs.Puts.{put_two}
use Rattle.fen_text.specs.Written.{position_fen}
use Rattle.game_record.proofs.Lines.{after_put, start_by}
use Rattle.game_record.proofs.line.write_start.Goals as goal

pub put-requires : goal.put-requires
put-requires c =
    let text = ap length (start_by c.is_standard.result true c.args.p.now c.is_standard.ensures c.if-is_standard.true) in
    omega arith

pub put-requires-else-is_standard : goal.put-requires-else-is_standard
put-requires-else-is_standard c =
    let text = ap length (start_by c.is_standard.result false c.args.p.now c.is_standard.ensures c.if-is_standard.false) in
    let both = length-append (codes "fen ") (position_fen c.args.p.now) in
    omega arith

pub put-requires-else-is_standard-2 : goal.put-requires-else-is_standard-2
put-requires-else-is_standard-2 c =
    let text = ap length (start_by c.is_standard.result false c.args.p.now c.is_standard.ensures c.if-is_standard.false) in
    let both = length-append (codes "fen ") (position_fen c.args.p.now) in
    let fen = ap length (c.as_slice.ensures.value ∙ c.write_fen.ensures.text) in
    let first = after_put c.args.out.now c.put-else-is_standard.new.self _ c.put-else-is_standard.ensures in
    omega arith

pub returns-then-is_standard : goal.returns-then-is_standard
returns-then-is_standard c =
    c.put.ensures
    ∙ ap (with c.args.out.now) (sym (start_by c.is_standard.result true c.args.p.now c.is_standard.ensures c.if-is_standard.true))

pub returns-else-is_standard : goal.returns-else-is_standard
returns-else-is_standard c =
    put_two c.args.out.now c.put-else-is_standard.new.self c.put-else-is_standard-2.new.self (codes "fen ") (position_fen c.args.p.now)
    c.put-else-is_standard.ensures
    (c.put-else-is_standard-2.ensures ∙ ap (with c.put-else-is_standard.new.self) (c.as_slice.ensures.value ∙ c.write_fen.ensures.text))
    ∙ ap (with c.args.out.now) (sym (start_by c.is_standard.result false c.args.p.now c.is_standard.ensures c.if-is_standard.false))
