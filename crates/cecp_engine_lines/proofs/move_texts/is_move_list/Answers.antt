use Rattle.std.proofs.Common.{◌∙◌, ◌+◌, sym, ap, arith, length}
use Rattle.std.proofs.lemmas.List.{length-drop}
use Rattle.cecp_engine_lines.specs.ReplyReading.{are_moves}
use Rattle.cecp_engine_lines.proofs.Prefixes.{found_at, moves_last, moves_skip, moves_stop}
use Rattle.cecp_engine_lines.proofs.move_texts.is_move_list.Goals as goal

pub returns-then-not-is_move_text : goal.returns-then-not-is_move_text
returns-then-not-is_move_text c =
    sym (moves_stop c.args.spelling c.loop-at.rest.now c.in-Some.at c.is_move_text.result (sym c.in-Some.ensures) (sym c.is_move_text.ensures) c.if-not-is_move_text.true)
    ∙ c.loop-at.invariant.moves

pub overflow_add-at : goal.overflow_add-at
overflow_add-at c = let k = found_at c.loop-at.rest.now c.in-Some.at (sym c.in-Some.ensures) in omega (arith, k.0, k.1, c.loop-at.invariant.short)

pub loop-at-preserved : goal.loop-at-preserved
loop-at-preserved c = record {
  moves = ap (are_moves c.args.spelling) c.split_at.ensures.back
      ∙ moves_skip c.args.spelling c.loop-at.rest.now c.in-Some.at c.is_move_text.result (sym c.in-Some.ensures) (sym c.is_move_text.ensures) c.if-not-is_move_text.false
      ∙ c.loop-at.invariant.moves;
  short = omega (arith, ap length c.split_at.ensures.back, length-drop (c.in-Some.at + 1) c.loop-at.rest.now, c.loop-at.invariant.short);
}

pub returns : goal.returns
returns c =
    c.is_move_text-2.ensures
    ∙ sym (moves_last c.args.spelling c.loop-at.rest.now (sym c.space_at.ensures ∙ c.in_default.is))
    ∙ c.loop-at.invariant.moves
