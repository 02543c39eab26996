-- A log of a whole run is not empty.
use Rattle.std.proofs.Common.{[]}
use Rattle.trace_scripts.specs.Script.{script2}
use Rattle.program_lifecycle.proofs.Logs.{one_log, no_bytes, none_longer}
use Rattle.bridge_runner.specs.Laws.{BridgeLogIsNotEmpty, BridgeLogIsNotLonger}

pub no_empty_log : BridgeLogIsNotEmpty
no_empty_log settings first bytes before after run e = no_bytes _ _ _ (one_log (script2 settings run.trace) [] after.ledger.logs run.log e)

pub no_longer_log : BridgeLogIsNotLonger
no_longer_log settings first bytes before after run byte more e = none_longer (script2 settings run.trace) more byte (one_log (script2 settings run.trace) _ after.ledger.logs run.log e)
