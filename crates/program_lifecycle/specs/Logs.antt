-- A log that may be missing.
use Rattle.std.specs.Prelude.{ℕ, zero, suc, Bool, true, false, List, [], ◌∷◌, Option, Some, None}
use Rattle.line_io.specs.Source.{Received}
use Rattle.child_engine.specs.Hosts.{fresh_sink}
use Rattle.child_engine.specs.declared.host.HostFault.{HostFault}
use Rattle.child_engine.specs.declared.host.HostFault.TheVariants as faults

abbrev pub log_count : {L : Type 0} → Option L → ℕ
log_count None = 0
log_count (Some log) = 1

-- the reports of so many logs that were handed out: one that is missing shows nothing
abbrev pub fresh_log : Bool → ℕ → Received
fresh_log sinks_report zero = fresh_sink false
fresh_log sinks_report (suc n) = fresh_sink sinks_report

-- the host's report of so many logs that it took back
abbrev pub closed_logs : ℕ → Received → List (Option (List ℕ))
closed_logs zero log = []
closed_logs (suc n) log = log.taken ∷ []

-- the host's report of a log that it took back
abbrev pub shown_logs : {L : Type 0} → (L → Received) → Option L → List (Option (List ℕ))
shown_logs state None = []
shown_logs state (Some log) = (state log).taken ∷ []

abbrev pub is_failed : Option HostFault → Bool
is_failed (Some faults.Failed) = true
is_failed fault = false

abbrev pub is_no_memory : Option HostFault → Bool
is_no_memory (Some faults.NoMemory) = true
is_no_memory fault = false
