use Rattle.std.proofs.Common.{◌∙◌, refl, ap, sym}
use Rattle.line_io.specs.Out.{Text}
use Rattle.event_loop.proofs.Loops.{after_iface_lost, after_engine_lost}
use Rattle.event_pipe.specs.Ends.{messages_taken}
use Rattle.event_loop.proofs.Opens.{opened_first, kept_by, none_taken, still, first_came, took, opened_looped, some_left, none_left, good_first}
use Rattle.event_loop.proofs.looping.mediate.Goals as goal

pub loop-init : goal.loop-init
loop-init g c = record {
  receiving_end = (c.requires.receiving_end.0, refl);
  room = ap (λ (x : Text). x.room) c.begin.ensures.put ∙ ap (λ (x : Text). x.room) c.clear.ensures;
  kept = c.offer_turn-at.ensures.kept;
  opened = opened_first _ _ _ _ _ _ _ _ _ _ (ap (λ (x : Text). x.text) c.clear.ensures) c.requires.receiving_end.1 c.begin.ensures c.offer_turn-at.ensures.offered;
}

pub loop-preserved-then-owes : goal.loop-preserved-then-owes
loop-preserved-then-owes g c = record {
  receiving_end = kept_by c.args.turns.now.receiving_end _ _ c.loop_step-at.ensures.receiving_end c.loop.invariant.receiving_end;
  room = c.loop_step-at.ensures.room ∙ c.loop.invariant.room;
  kept = c.loop_step-at.ensures.kept ∙ c.loop.invariant.kept;
  opened =
      none_taken _ _ _ _ _ _ _ _ _ _ _ c.loop_step-at.ensures.receiving_end
      (still _ _ _ _ _ _ _ _ _ _ c.loop.invariant.opened _ _ _
      (after_iface_lost _ _ _ _ _ _ _ _ c.loop.invariant.opened.reached _ _ _ c.owes.ensures.allows (sym c.owes.ensures.is ∙ c.if-owes.true) c.loop_step-at.ensures.step));
}

pub loop-preserved-then-owes-2 : goal.loop-preserved-then-owes-2
loop-preserved-then-owes-2 g c = record {
  receiving_end = kept_by c.args.turns.now.receiving_end _ _ c.loop_step-at-then-owes-2.ensures.receiving_end c.loop.invariant.receiving_end;
  room = c.loop_step-at-then-owes-2.ensures.room ∙ c.loop.invariant.room;
  kept = c.loop_step-at-then-owes-2.ensures.kept ∙ c.loop.invariant.kept;
  opened =
      none_taken _ _ _ _ _ _ _ _ _ _ _ c.loop_step-at-then-owes-2.ensures.receiving_end
      (still _ _ _ _ _ _ _ _ _ _ c.loop.invariant.opened _ _ _
      (after_engine_lost _ _ _ _ _ _ _ _ c.loop.invariant.opened.reached _ _ _ c.owes.ensures.allows (sym c.owes.ensures.is ∙ c.if-owes.false)
      c.owes-else-owes.ensures.allows (sym c.owes-else-owes.ensures.is ∙ c.if-owes-2.true) c.loop_step-at-then-owes-2.ensures.step));
}

pub loop-preserved-then-not-is_empty : goal.loop-preserved-then-not-is_empty
loop-preserved-then-not-is_empty g c = record {
  receiving_end = kept_by c.args.turns.now.receiving_end _ _ c.receive-at.ensures.receiving_end c.loop.invariant.receiving_end;
  room = c.receive-at.ensures.room ∙ c.loop.invariant.room;
  kept = c.receive-at.ensures.kept ∙ c.loop.invariant.kept;
  opened =
      none_taken _ _ _ _ _ _ _ _ _ _ _ c.receive-at.ensures.receiving_end
      (first_came _ _ _ _ _ _ _ _ _ _ c.loop.invariant.opened
      c.owes.ensures.allows (sym c.owes.ensures.is ∙ c.if-owes.false) c.owes-else-owes.ensures.allows (sym c.owes-else-owes.ensures.is ∙ c.if-owes-2.false)
      c.requires.first (some_left _ _ c.is_empty.ensures c.if-not-is_empty.true) _ _ c.split_line.ensures.line c.split_line.ensures.rest _ c.line_event-event.ensures
      c.receive-at.ensures.allows _ _ _ c.receive-at.ensures.came _ c.after-sides.ensures);
}

pub loop-preserved-else-have_both_ended : goal.loop-preserved-else-have_both_ended
loop-preserved-else-have_both_ended g c = record {
  receiving_end = kept_by c.args.turns.now.receiving_end _ _ c.receive-at-else-have_both_ended.ensures.receiving_end (c.take-sent.ensures.keeps.0, c.take-sent.ensures.keeps.1 ∙ c.loop.invariant.receiving_end.1);
  room = c.receive-at-else-have_both_ended.ensures.room ∙ c.loop.invariant.room;
  kept = c.receive-at-else-have_both_ended.ensures.kept ∙ c.loop.invariant.kept;
  opened =
      took _ _ _ _ _ _ _ _ _ _ c.loop.invariant.opened
      c.owes.ensures.allows (sym c.owes.ensures.is ∙ c.if-owes.false) c.owes-else-owes.ensures.allows (sym c.owes-else-owes.ensures.is ∙ c.if-owes-2.false)
      c.requires.first (none_left _ _ c.is_empty.ensures c.if-not-is_empty.false) _ c.take-sent.ensures.follows _ c.event-event.ensures _ (ap messages_taken c.receive-at-else-have_both_ended.ensures.receiving_end ∙ c.take-sent.ensures.gets)
      c.receive-at-else-have_both_ended.ensures.allows _ _ _ c.receive-at-else-have_both_ended.ensures.came _ c.after-sides-else-have_both_ended.ensures;
}

pub loop-preserved : goal.loop-preserved
loop-preserved g c = record {
  receiving_end = kept_by c.args.turns.now.receiving_end _ _ c.receive-at-else-have_both_ended.ensures.receiving_end (c.take-sent.ensures.keeps.0, c.take-sent.ensures.keeps.1 ∙ c.loop.invariant.receiving_end.1);
  room = c.receive-at-else-have_both_ended.ensures.room ∙ c.loop.invariant.room;
  kept = c.receive-at-else-have_both_ended.ensures.kept ∙ c.loop.invariant.kept;
  opened =
      took _ _ _ _ _ _ _ _ _ _ c.loop.invariant.opened
      c.owes.ensures.allows (sym c.owes.ensures.is ∙ c.if-owes.false) c.owes-else-owes.ensures.allows (sym c.owes-else-owes.ensures.is ∙ c.if-owes-2.false)
      c.requires.first (none_left _ _ c.is_empty.ensures c.if-not-is_empty.false) _ c.take-sent.ensures.follows _ c.event-event.ensures _ (ap messages_taken c.receive-at-else-have_both_ended.ensures.receiving_end ∙ c.take-sent.ensures.gets)
      c.receive-at-else-have_both_ended.ensures.allows _ _ _ c.receive-at-else-have_both_ended.ensures.came _ c.after-sides-else-have_both_ended.ensures;
}

pub returns-then-have_both_ended-clause-looped : goal.returns-then-have_both_ended-clause-looped
returns-then-have_both_ended-clause-looped g c =
    opened_looped _ _ _ _ _ _ _ _ _ _ c.loop.invariant.opened
    c.owes.ensures.allows (sym c.owes.ensures.is ∙ c.if-owes.false) c.owes-else-owes.ensures.allows (sym c.owes-else-owes.ensures.is ∙ c.if-owes-2.false)
    (none_left _ _ c.is_empty.ensures c.if-not-is_empty.false) c.have_both_ended.result c.have_both_ended.ensures c.if-have_both_ended.true

pub receive-at-requires-clause-good : goal.receive-at-requires-clause-good
receive-at-requires-clause-good g c = good_first _ (some_left _ _ c.is_empty.ensures c.if-not-is_empty.true) _ c.split_line.ensures.line _ c.line_event-event.ensures
