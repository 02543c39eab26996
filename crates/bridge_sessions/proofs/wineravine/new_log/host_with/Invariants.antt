use Rattle.child_engine.specs.Hosts.{HostIsUnused}
use Rattle.child_engine.specs.Memory.{memory_ledger}
use Rattle.bridge_sessions.proofs.wineravine.new_log.host_with.Given as goal

abbrev pub invariant-loop-file : goal.invariant-loop-file
invariant-loop-file g l = HostIsUnused (memory_ledger l.host)
