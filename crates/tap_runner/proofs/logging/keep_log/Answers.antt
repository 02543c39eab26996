use Rattle.std.proofs.Common.{◌∙◌, refl, sym}
use Rattle.tap_runner.proofs.Logs.{short, logging_first, logging_next, logged_all}
use Rattle.tap_runner.proofs.logging.keep_log.Goals as goal

pub loop-init : goal.loop-init
loop-init g c = record {
  receiving_end = (c.requires.receiving_end.0, refl);
  room = refl;
  kept = refl;
  logging = logging_first _ _ c.requires.receiving_end.1;
}

pub log_message-failed-requires-clause-short : goal.log_message-failed-requires-clause-short
log_message-failed-requires-clause-short g c = short _ c.take-message.ensures.follows.1

pub loop-preserved-else-have_both_come : goal.loop-preserved-else-have_both_come
loop-preserved-else-have_both_come g c = record {
  receiving_end = (c.take-message.ensures.keeps.0, c.take-message.ensures.keeps.1 ∙ c.loop.invariant.receiving_end.1);
  room = c.log_message-failed.ensures.room ∙ c.loop.invariant.room;
  kept = c.log_message-failed.ensures.kept ∙ c.loop.invariant.kept;
  logging = logging_next _ _ _ _ _ _ _ _ _ _ c.loop.invariant.logging c.take-message.ensures.gets c.after-ends.ensures c.log_message-failed.ensures.offered;
}

pub loop-preserved : goal.loop-preserved
loop-preserved g c = record {
  receiving_end = (c.take-message.ensures.keeps.0, c.take-message.ensures.keeps.1 ∙ c.loop.invariant.receiving_end.1);
  room = c.log_message-failed.ensures.room ∙ c.loop.invariant.room;
  kept = c.log_message-failed.ensures.kept ∙ c.loop.invariant.kept;
  logging = logging_next _ _ _ _ _ _ _ _ _ _ c.loop.invariant.logging c.take-message.ensures.gets c.after-ends.ensures c.log_message-failed.ensures.offered;
}

pub returns-then-have_both_come-clause-logged : goal.returns-then-have_both_come-clause-logged
returns-then-have_both_come-clause-logged g c = logged_all _ _ _ _ _ c.loop.invariant.logging (sym c.have_both_come.ensures ∙ c.if-have_both_come.true)
