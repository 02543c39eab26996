use Rattle.std.proofs.Common.{◌∙◌, sym, ap, arith}
use Rattle.uci_lines.specs.Written.{is_written_move, is_moves}
use Rattle.uci_lines.proofs.Parts.{move_passed, move_refused, last_move, place_of}
use Rattle.uci_lines.proofs.written.is_moves.Goals as goal

pub split_at-requires : goal.split_at-requires
split_at-requires c = let place = place_of c.loop-at.others.now c.in-Some.at c.in-Some.ensures in omega (arith, place.1)

pub returns-then-not-is_written_move : goal.returns-then-not-is_written_move
returns-then-not-is_written_move c =
    let others = c.loop-at.others.now in
    let place = place_of others c.in-Some.at c.in-Some.ensures in
    sym (sym c.loop-at.invariant ∙ move_refused others c.in-Some.at place.0 place.1 (ap is_written_move (sym c.split_at.ensures.front) ∙ sym c.is_written_move.ensures ∙ c.if-not-is_written_move.true))

pub loop-at-preserved : goal.loop-at-preserved
loop-at-preserved c =
    let others = c.loop-at.others.now in
    let place = place_of others c.in-Some.at c.in-Some.ensures in
    ap is_moves c.split_at-in-Some.ensures.back ∙ move_passed others c.in-Some.at place.0 place.1 (ap is_written_move (sym c.split_at.ensures.front) ∙ sym c.is_written_move.ensures ∙ c.if-not-is_written_move.false) ∙ c.loop-at.invariant

pub returns : goal.returns
returns c = c.is_written_move-2.ensures ∙ last_move c.loop-at.others.now c.in_default.ensures ∙ c.loop-at.invariant
