use Rattle.reviver_runner.proofs.CloseSteps.{log_still}
use Rattle.reviver_runner.proofs.closing.close_everything.Goals as goal

pub close_log-requires : goal.close_log-requires
close_log-requires g c = (c.type_bounds.send-H-EngineSource, (c.type_bounds.send-H-EngineSink, (c.type_bounds.send-H-Log, log_still _ _ _ _ c.close_all-failed.ensures.ledger c.requires.logs)))

pub returns-clause-closes : goal.returns-clause-closes
returns-clause-closes g c = record {
  between = _;
  between_counts = _;
  closed = c.close_all-failed.ensures.ledger;
  closes = c.close_all-failed.ensures.counts;
  logged = c.close_log.ensures.ledger;
  log_rises = c.close_log.ensures.cause;
  log_counts = c.close_log.ensures.others;
}
